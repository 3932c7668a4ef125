use Rattle.std.proofs.Common.{arith}
use Rattle.query.specs.Size.{sizes}
use Rattle.format.specs.Coding.{name, counted}
use Rattle.format.specs.Heads.{data_heads}
use Rattle.format.specs.Nodes.{TellsData}
use Rattle.parts.specs.Heads.{own_d}
use Rattle.parts.proofs.DataParts.{own_nothing, own_text, own_names}
use Rattle.parts.proofs.Owns.{weighed_over, weighed_some}
use Rattle.parts.proofs.data.own_parts.Goals as goal

pub returns-in_err-names-in-Record : goal.returns-in_err-names-in-Record
returns-in_err-names-in-Record c =
    let xs = c.args.bytes.now in
    rw c.from_residual.ensures
    (weighed_over data_heads TellsData own_d c.args.limit xs c.args.node (counted name) sizes 0 c.args.limit (own_names c.args.limit xs c.args.node _ c.in-Record.is) (omega arith) c.in_err-names-in-Record.ensures)

pub returns-in_ok-names-in-Record : goal.returns-in_ok-names-in-Record
returns-in_ok-names-in-Record c =
    let xs = c.args.bytes.now in
    weighed_some data_heads TellsData own_d c.args.limit xs c.args.node (counted name) sizes 0 c.args.limit (own_names c.args.limit xs c.args.node _ c.in-Record.is) (omega arith) c.in_ok-names-in-Record.names _ (omega arith) c.in_ok-names-in-Record.ensures

pub returns-in-Text : goal.returns-in-Text
returns-in-Text c = own_text c.args.limit c.args.bytes.now c.args.node _ _ c.in-Text.is c.no_more.ensures

pub returns-in_default : goal.returns-in_default
returns-in_default c = own_nothing c.args.limit c.args.bytes.now c.args.node c.in_default.not-Text c.in_default.not-Record
