use Rattle.std.proofs.Common.{arith}
use Rattle.query.specs.Size.{size_1, sizes}
use Rattle.format.specs.Coding.{name, counted}
use Rattle.format.specs.Nodes.{IsOp1}
use Rattle.parts.specs.Heads.{operators}
use Rattle.parts.proofs.QueryParts.{unary_named, unary_plain, unary_names, unary_none}
use Rattle.parts.proofs.Owns.{weighed_over, weighed_some}
use Rattle.parts.proofs.queries.unary_parts.Goals as goal

pub returns-then-limit-eq0 : goal.returns-then-limit-eq0
returns-then-limit-eq0 c = unary_none c.args.limit c.args.bytes.now c.args.op _ c.in-Only.is (omega arith)

pub returns-in_err-names-in-Only : goal.returns-in_err-names-in-Only
returns-in_err-names-in-Only c =
    let xs = c.args.bytes.now in
    rw c.from_residual.ensures
    (weighed_over operators IsOp1 size_1 c.args.limit xs c.args.op (counted name) sizes 1 _ (unary_names c.args.limit xs c.args.op _ c.in-Only.is) (omega arith) c.in_err-names-in-Only.ensures)

pub returns-in-Dot : goal.returns-in-Dot
returns-in-Dot c = unary_named c.args.limit c.args.bytes.now c.args.op _ _ c.in-Dot.is c.named_parts-in-Dot.ensures

pub returns-in_ok-names-in-Only : goal.returns-in_ok-names-in-Only
returns-in_ok-names-in-Only c =
    let xs = c.args.bytes.now in
    weighed_some operators IsOp1 size_1 c.args.limit xs c.args.op (counted name) sizes 1 _ (unary_names c.args.limit xs c.args.op _ c.in-Only.is) (omega arith) c.in_ok-names-in-Only.names _ (omega arith) c.in_ok-names-in-Only.ensures

pub returns-in_default : goal.returns-in_default
returns-in_default c =
    unary_plain c.args.limit c.args.bytes.now c.args.op _ c.in_default.not-Dot c.in_default.not-AsField c.in_default.not-Without c.in_default.not-Only c.named_parts.ensures
