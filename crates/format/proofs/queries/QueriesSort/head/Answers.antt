use Rattle.std.proofs.lemmas.Result.{MatchResult-weaker}
use Rattle.format.specs.Wire.{queries}
use Rattle.format.specs.Heads.{query_heads, query_arity}
use Rattle.format.specs.Nodes.{TellsQuery}
use Rattle.format.specs.Trees.{node_opened, unopened}
use Rattle.format.specs.QueryLaws.{query_laws}
use Rattle.format.proofs.queries.QueriesSort.head.Goals as goal

pub returns : goal.returns
returns c =
    let xs = c.args.bytes.now in
    record {
      opened = MatchResult-weaker c.query_node.result c.query_node.ensures (λ o r. node_opened queries query_heads query_arity query_laws TellsQuery xs o.head o.parts o.length r) (λ p t. unopened queries query_heads query_arity query_laws xs p t);
      says = MatchResult-weaker c.query_node.result c.query_node.ensures (λ o r. record { thing = r.thing; begins = r.begins; says = r.says.0 }) (λ p t. tt);
    }
