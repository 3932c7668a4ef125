use Rattle.std.proofs.Common.{arith}
use Rattle.query.specs.Size.{sizes}
use Rattle.format.specs.Coding.{name, counted}
use Rattle.format.specs.Heads.{ty_heads}
use Rattle.format.specs.Nodes.{TellsType}
use Rattle.parts.specs.Heads.{own_t}
use Rattle.parts.proofs.TypeParts.{own_nothing, own_names}
use Rattle.parts.proofs.Owns.{weighed_over, weighed_some}
use Rattle.parts.proofs.types.own_parts.Goals as goal

pub returns-in_err-names-in-Record : goal.returns-in_err-names-in-Record
returns-in_err-names-in-Record c =
    let xs = c.args.bytes.now in
    rw c.from_residual.ensures
    (weighed_over ty_heads TellsType own_t c.args.limit xs c.args.node (counted name) sizes 0 c.args.limit (own_names c.args.limit xs c.args.node _ c.in-Record.is) (omega arith) c.in_err-names-in-Record.ensures)

pub returns-in_ok-names-in-Record : goal.returns-in_ok-names-in-Record
returns-in_ok-names-in-Record c =
    let xs = c.args.bytes.now in
    weighed_some ty_heads TellsType own_t c.args.limit xs c.args.node (counted name) sizes 0 c.args.limit (own_names c.args.limit xs c.args.node _ c.in-Record.is) (omega arith) c.in_ok-names-in-Record.names _ (omega arith) c.in_ok-names-in-Record.ensures

pub returns-in_default : goal.returns-in_default
returns-in_default c = own_nothing c.args.limit c.args.bytes.now c.args.node c.in_default.not-Record
