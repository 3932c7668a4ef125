use Rattle.std.proofs.Common.{arith}
use Rattle.parts.proofs.Rising.{climb_start, climb_more, climb_fails, climb_done}
use Rattle.parts.proofs.order.names_rise.Goals as goal

pub loop-i-init : goal.loop-i-init
loop-i-init c = climb_start c.in-Ok.count c.args.bytes.now c.in-Ok.ensures

pub returns-in_default-first_rises : goal.returns-in_default-first_rises
returns-in_default-first_rises c = climb_fails c.in-Ok.count c.args.bytes.now c.loop-i._i c.loop-i.at c.loop-i.invariant (omega arith) c.in_default-first_rises.ensures

pub loop-i-preserved : goal.loop-i-preserved
loop-i-preserved c = climb_more c.in-Ok.count c.args.bytes.now c.loop-i._i c.loop-i.at c.loop-i.invariant c.in-Some.length (omega arith) c.in-Some.ensures

pub returns : goal.returns
returns c = climb_done c.in-Ok.count c.args.bytes.now c.loop-i._i c.loop-i.at c.loop-i.invariant (omega arith)
