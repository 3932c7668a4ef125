use Rattle.format.specs.Heads.{ty_heads, ty_arity}
use Rattle.format.specs.Nodes.{TellsType}
use Rattle.format.specs.TypeLaws.{ty_few}
use Rattle.format.proofs.Heads.{with_parts}
use Rattle.format.proofs.types.type_node.Goals as goal

pub returns : goal.returns
returns c = with_parts ty_heads ty_arity TellsType ty_few _ _ _ _ c.in_ok-head.ensures c.parts.ensures
