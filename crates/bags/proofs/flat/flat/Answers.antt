use Rattle.std.proofs.Common.{arith}
use Rattle.std.proofs.lemmas.Result.{err_from_is_err_and}
use Rattle.bags.proofs.Flattening.{fill_begins, fill_readable, fill_more, fill_skips, not_appended, flat_fits, flat_made, not_counted, flat_no_room}
use Rattle.bags.proofs.flat.flat.Goals as goal
use Rattle.bags.proofs.flat.flat.Goals.{in-Bag+in_ok-ok_or, in_default}

pub returns-in_err-count-clause-makes : goal.returns-in_err-count-clause-makes
returns-in_err-count-clause-makes c =
    let p = err_from_is_err_and c.from_residual.result c.from_residual.ensures.1 in
    rw (p.1, p.2) (not_counted c.args.place _ _ _ c.count_all.result _ (rw c.row.ensures at c.count_all.ensures) c.in_err-count.ensures.value)

pub returns-then-size-start-clause-makes : goal.returns-then-size-start-clause-makes
returns-then-size-start-clause-makes c =
    let counted = rw (c.row.ensures, c.in_ok-count.ensures.ok_part) at c.count_all.ensures in
    flat_no_room c.args.place _ _ _ c.in_ok-count.count counted (omega (arith, c.if-size-start.true, c.size.ensures))

pub loop-i-init : goal.loop-i-init
loop-i-init c = fill_begins c.args.place c.args.memory.now

pub append-requires : goal.append-requires
append-requires c = fill_readable c.args.place _ c.loop-i.memory c.loop-i.i c.loop-i.invariant c.in-Bag.p c.requires c.loop-i-test.true c.in-Bag.ensures

pub returns-in_err-ok_or-clause-makes : goal.returns-in_err-ok_or-clause-makes
returns-in_err-ok_or-clause-makes c =
    let p = err_from_is_err_and c.from_residual-in_err-ok_or.result c.from_residual-in_err-ok_or.ensures.1 in
    let counted = rw (c.row.ensures, c.in_ok-count.ensures.ok_part) at c.count_all.ensures in
    rw (p.1, p.2) (not_appended c.args.place _ c.loop-i.memory c.loop-i.i c.loop-i.invariant c.in_ok-count.count counted c.in-Bag.p _ _ c.append.result _ c.loop-i-test.true c.in-Bag.ensures c.append.ensures c.in_err-ok_or.ensures.value)

pub loop-i-preserved : goal.loop-i-preserved
loop-i-preserved c =
    elim c.match-nth.branch [
      | in-Bag+in_ok-ok_or w ↦ rw w.memory-is (fill_more c.args.place _ c.loop-i.memory c.loop-i.i c.loop-i.invariant w.in-Bag.p c.loop-i-test.true w.in-Bag.ensures (rw w.in_ok-ok_or.ensures.ok_part at w.append.ensures))
      | in_default w ↦ rw w.memory-is (fill_skips c.args.place _ c.loop-i.memory c.loop-i.i c.loop-i.invariant c.nth.result c.loop-i-test.true c.nth.ensures w.in_default.not-Bag)
    ]

pub overflow_cast-bag : goal.overflow_cast-bag
overflow_cast-bag c =
    let counted = rw (c.row.ensures, c.in_ok-count.ensures.ok_part) at c.count_all.ensures in
    omega (arith, flat_fits c.args.place _ c.loop-i.memory c.loop-i.i c.loop-i.invariant c.in_ok-count.count counted (omega (arith, c.loop-i.auto.i-end, c.loop-i-test.false)) c.requires)

pub returns-clause-makes : goal.returns-clause-makes
returns-clause-makes c =
    let counted = rw (c.row.ensures, c.in_ok-count.ensures.ok_part) at c.count_all.ensures in
    flat_made c.args.place _ c.loop-i.memory c.loop-i.i c.loop-i.invariant c.in_ok-count.count counted (omega (arith, c.loop-i.auto.i-end, c.loop-i-test.false))
