use Rattle.std.proofs.Common.{sym, arith}
use Rattle.bags.proofs.Summing.{sum_begins, sum_more, sum_stops, sum_ends}
use Rattle.bags.proofs.sum.sum.Goals as goal

pub loop-i-init : goal.loop-i-init
loop-i-init c = sum_begins c.args.place _

pub returns-in_default : goal.returns-in_default
returns-in_default c = sum_stops c.args.place _ c.loop-i.i c.loop-i.total c.loop-i.invariant c.nth.result c.loop-i-test.true (sym c.nth.ensures) c.in_default.not-Number

pub loop-i-preserved : goal.loop-i-preserved
loop-i-preserved c = sum_more c.args.place _ c.loop-i.i c.loop-i.total c.loop-i.invariant c.in-Number.n c.loop-i-test.true (sym c.in-Number.ensures)

pub returns : goal.returns
returns c = sum_ends c.args.place _ c.loop-i.i c.loop-i.total c.loop-i.invariant (omega (arith, c.loop-i.auto.i-end, c.loop-i-test.false))
