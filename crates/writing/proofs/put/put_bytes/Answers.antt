use Rattle.std.proofs.Common.{arith}
use Rattle.writing.proofs.Fronts.{copy_more, copy_all}
use Rattle.writing.proofs.put.put_bytes.Goals as goal

pub loop-i-preserved : goal.loop-i-preserved
loop-i-preserved c = rw c.from.ensures (copy_more c.loop-i.out c.args.bytes.now c.loop-i.i (omega arith) (omega arith) c.loop-i.invariant)

pub returns : goal.returns
returns c = copy_all c.loop-i.out c.args.bytes.now c.loop-i.i (omega arith) c.loop-i.invariant
