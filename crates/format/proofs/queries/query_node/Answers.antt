use Rattle.format.specs.Heads.{query_heads, query_arity}
use Rattle.format.specs.Nodes.{TellsQuery}
use Rattle.format.specs.QueryLaws.{query_few}
use Rattle.format.proofs.Heads.{with_parts}
use Rattle.format.proofs.queries.query_node.Goals as goal

pub returns : goal.returns
returns c = with_parts query_heads query_arity TellsQuery query_few _ _ _ _ c.in_ok-head.ensures c.parts.ensures
