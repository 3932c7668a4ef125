use Rattle.std.proofs.lemmas.Result.{MatchResult-weaker}
use Rattle.format.specs.Wire.{types}
use Rattle.format.specs.Heads.{ty_heads, ty_arity}
use Rattle.format.specs.Nodes.{TellsType}
use Rattle.format.specs.Trees.{node_opened, unopened}
use Rattle.format.specs.TypeLaws.{ty_laws}
use Rattle.format.proofs.types.TypesSort.head.Goals as goal

pub returns : goal.returns
returns c =
    let xs = c.args.bytes.now in
    record {
      opened = MatchResult-weaker c.type_node.result c.type_node.ensures (λ o r. node_opened types ty_heads ty_arity ty_laws TellsType xs o.head o.parts o.length r) (λ p t. unopened types ty_heads ty_arity ty_laws xs p t);
      says = MatchResult-weaker c.type_node.result c.type_node.ensures (λ o r. record { thing = r.thing; begins = r.begins; says = r.says.0 }) (λ p t. tt);
    }
