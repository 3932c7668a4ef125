use Rattle.std.proofs.Common.{arith}
use Rattle.format.proofs.Numbers.{begins_8}
use Rattle.format.proofs.number.read_u64.Goals as goal

pub returns : goal.returns
returns c = begins_8 c.args.bytes.now c.in_ok-front.field-0.now c.from_le_bytes.result c.type_inv.bytes c.in_ok-front.ensures.0 c.in_ok-front.ensures.1 (omega arith) c.from_le_bytes.ensures
