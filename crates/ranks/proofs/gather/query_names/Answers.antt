use Rattle.ranks.proofs.QueryNames.{one_query}
use Rattle.ranks.proofs.gather.query_names.Goals as goal

pub returns-clause-taken : goal.returns-clause-taken
returns-clause-taken c = one_query _ _ _ c.args.at c.run_names.ensures.taken
