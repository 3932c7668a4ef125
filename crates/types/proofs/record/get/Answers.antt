use Rattle.std.proofs.Common.{arith}
use Rattle.types.proofs.Gets.{got, get_on, get_none}
use Rattle.types.proofs.record.get.Goals as goal

pub returns-then-f-name : goal.returns-then-f-name
returns-then-f-name c = got _ c.loop-f.f-index c.args.name c.loop-f-test.true c.loop-f.invariant c.if-f-name.true

pub loop-f-preserved : goal.loop-f-preserved
loop-f-preserved c = get_on _ c.loop-f.f-index c.args.name c.loop-f-test.true c.loop-f.invariant c.if-f-name.false

pub returns : goal.returns
returns c = get_none _ c.loop-f.f-index c.args.name (omega arith) c.loop-f.invariant
