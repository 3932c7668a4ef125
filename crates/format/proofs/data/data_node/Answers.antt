use Rattle.format.specs.Heads.{data_heads, data_arity}
use Rattle.format.specs.Nodes.{TellsData}
use Rattle.format.specs.DataLaws.{data_few}
use Rattle.format.proofs.Heads.{with_parts}
use Rattle.format.proofs.data.data_node.Goals as goal

pub returns : goal.returns
returns c = with_parts data_heads data_arity TellsData data_few _ _ _ _ c.in_ok-head.ensures c.parts.ensures
