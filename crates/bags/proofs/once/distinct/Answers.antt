use Rattle.std.proofs.Common.{◌∙◌, arith}
use Rattle.bags.proofs.Distinct.{once_begins, once_skips, once_takes, once_ends, once_no_room}
use Rattle.bags.proofs.once.distinct.Goals as goal

pub returns-in_err-reserve-clause-makes : goal.returns-in_err-reserve-clause-makes
returns-in_err-reserve-clause-makes c = rw c.from_residual.ensures (once_no_room c.args.bytes.now c.args.place c.args.depth c.in_err-reserve.ensures)

pub loop-i-init : goal.loop-i-init
loop-i-init c = (once_begins c.args.bytes.now c.args.place c.args.depth c.in_ok-reserve.ensures, c.in_ok-reserve.ensures.moved)

pub loop-i-preserved-then-not-is_in : goal.loop-i-preserved-then-not-is_in
loop-i-preserved-then-not-is_in c = (
  once_takes c.args.bytes.now c.args.place _ c.args.depth _ _ c.loop-i.i c.loop-i.found.start c.loop-i.found.count c.loop-i.invariant.0 (omega arith) c.nth-thing.result c.nth-thing.ensures _ (rw c.row.ensures at c.if-not-is_in.ensures) c.put.ensures.put,
  record {
    frozen = c.put.ensures.steady.frozen ∙ c.loop-i.invariant.1.frozen;
    same = c.put.ensures.steady.same ∙ c.loop-i.invariant.1.same;
    top = c.put.ensures.steady.top ∙ c.loop-i.invariant.1.top;
  },
)

pub loop-i-preserved : goal.loop-i-preserved
loop-i-preserved c = (
  once_skips c.args.bytes.now c.args.place _ c.args.depth _ _ c.loop-i.i c.loop-i.found.start c.loop-i.found.count c.loop-i.invariant.0 (omega arith) c.nth-thing.result c.nth-thing.ensures (rw c.row.ensures at c.if-not-is_in.ensures),
  c.loop-i.invariant.1,
)

pub returns-clause-makes : goal.returns-clause-makes
returns-clause-makes c = rw c.loop-i.invariant.1.top (once_ends c.args.bytes.now c.args.place _ c.args.depth _ _ c.loop-i.i c.loop-i.found.start c.loop-i.found.count c.loop-i.invariant.0 (omega (arith, c.loop-i-test.false)))
