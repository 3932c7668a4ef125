use Rattle.std.proofs.Common.{arith}
use Rattle.records.proofs.Choosing.{keep_begins, keep_not, keep_push, keep_no_room, keep_ends}
use Rattle.records.proofs.choose.chosen.Goals as goal
use Rattle.records.proofs.choose.chosen.Goals.{then-keeps+in_ok-put_next, else-keeps}

pub loop-i-init : goal.loop-i-init
loop-i-init g c = keep_begins _ c.args.place _

pub returns-in_err-put_next-clause-makes : goal.returns-in_err-put_next-clause-makes
returns-in_err-put_next-clause-makes g c = rw c.from_residual.ensures (keep_no_room _ c.args.place _ _ c.loop-i.i c.loop-i.count c.loop-i.invariant c.requires.below c.nth-field.result c.loop-i-test.true c.nth-field.ensures c.if-keeps.ensures c.in_err-put_next.ensures)

pub loop-i-preserved : goal.loop-i-preserved
loop-i-preserved g c =
    elim c.if-keeps.branch [
      | then-keeps+in_ok-put_next w ↦
          rw (w.memory-is, w.count-is) (keep_push _ c.args.place _ _ c.loop-i.i c.loop-i.count c.loop-i.invariant c.requires.below c.nth-field.result c.loop-i-test.true c.nth-field.ensures w.if-keeps.ensures w.in_ok-put_next.ensures)
      | else-keeps w ↦
          rw (w.memory-is, w.count-is) (keep_not _ c.args.place _ _ c.loop-i.i c.loop-i.count c.loop-i.invariant c.requires.below c.nth-field.result c.loop-i-test.true c.nth-field.ensures w.if-keeps.ensures)
    ]

pub returns-clause-makes : goal.returns-clause-makes
returns-clause-makes g c = keep_ends _ c.args.place _ _ c.loop-i.i c.loop-i.count c.loop-i.invariant (omega (arith, c.loop-i.auto.i-end, c.loop-i-test.false))
