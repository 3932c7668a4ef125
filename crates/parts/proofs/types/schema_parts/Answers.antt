use Rattle.std.proofs.Common.{arith}
use Rattle.query.specs.Size.{size_t}
use Rattle.format.specs.Wire.{types}
use Rattle.parts.proofs.Walk.{counted_many}
use Rattle.parts.proofs.TypeParts.{schema_none, schema_over, schema_done}
use Rattle.parts.proofs.types.schema_parts.Goals as goal

pub returns-in_err-left : goal.returns-in_err-left
returns-in_err-left c = rw c.from_residual.ensures (schema_none c.args.limit c.args.count c.args.bytes.now c.in_err-left.ensures)

pub returns-in_err-types : goal.returns-in_err-types
returns-in_err-types c =
    rw c.from_residual-in_err-types.ensures
    (schema_over c.args.limit c.args.count c.args.bytes.now c.in_ok-left.left (omega (arith, c.in_ok-left.ensures)) (counted_many types size_t _ _ _ _ c.in_err-types.ensures))

pub returns : goal.returns
returns c =
    schema_done c.args.limit c.args.count c.args.bytes.now c.in_ok-left.left (omega (arith, c.in_ok-left.ensures)) c.in_ok-types.types (counted_many types size_t _ _ _ _ c.in_ok-types.ensures)
