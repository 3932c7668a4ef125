use Rattle.ranks.proofs.Requests.{gathered, no_schema, no_query}
use Rattle.ranks.proofs.gather.request_names.Goals as goal

pub returns-then-schema_at-bytes : goal.returns-then-schema_at-bytes
returns-then-schema_at-bytes c = no_schema c.args.bytes.now _ c.args.schema_at c.args.types c.args.query_at c.begin.ensures.listed c.if-schema_at-bytes.true

pub returns-then-query_at-bytes : goal.returns-then-query_at-bytes
returns-then-query_at-bytes c = no_query c.args.bytes.now _ c.args.schema_at c.args.types c.args.query_at c.type_names.ensures.kept.listed c.if-query_at-bytes.true

pub returns : goal.returns
returns c = gathered c.args.bytes.now _ _ _ c.args.schema_at c.args.types c.args.query_at c.begin.ensures.alone c.begin.ensures.there c.type_names.ensures.kept c.type_names.ensures.taken c.query_names.ensures.kept c.query_names.ensures.taken
