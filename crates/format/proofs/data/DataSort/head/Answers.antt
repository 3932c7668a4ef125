use Rattle.std.proofs.lemmas.Result.{MatchResult-weaker}
use Rattle.format.specs.Wire.{data_of}
use Rattle.format.specs.Heads.{data_heads, data_arity}
use Rattle.format.specs.Nodes.{TellsData}
use Rattle.format.specs.Trees.{node_opened, unopened}
use Rattle.format.specs.DataLaws.{data_laws}
use Rattle.format.proofs.data.DataSort.head.Goals as goal

pub returns : goal.returns
returns c =
    let xs = c.args.bytes.now in
    record {
      opened = MatchResult-weaker c.data_node.result c.data_node.ensures (λ o r. node_opened data_of data_heads data_arity data_laws TellsData xs o.head o.parts o.length r) (λ p t. unopened data_of data_heads data_arity data_laws xs p t);
      says = MatchResult-weaker c.data_node.result c.data_node.ensures (λ o r. record { thing = r.thing; begins = r.begins; says = r.says.0 }) (λ p t. tt);
    }
