use Rattle.std.proofs.Common.{sym, arith}
use Rattle.bags.proofs.Flattening.{count_begins, count_more, count_stops, count_ends}
use Rattle.bags.proofs.flat.count_all.Goals as goal

pub loop-i-init : goal.loop-i-init
loop-i-init c = count_begins c.args.place _

pub returns-in_default : goal.returns-in_default
returns-in_default c = count_stops c.args.place _ c.loop-i.i c.loop-i.total c.loop-i.invariant c.nth.result c.loop-i-test.true (sym c.nth.ensures) c.in_default.not-Bag

pub loop-i-preserved : goal.loop-i-preserved
loop-i-preserved c = count_more c.args.place _ c.loop-i.i c.loop-i.total c.loop-i.invariant c.in-Bag.p c.loop-i-test.true (omega arith) (sym c.in-Bag.ensures)

pub returns : goal.returns
returns c = count_ends c.args.place _ c.loop-i.i c.loop-i.total c.loop-i.invariant (omega (arith, c.loop-i.auto.i-end, c.loop-i-test.false))
