use Rattle.std.proofs.Common.{◌≡◌, ◌+◌, ◌*◌, length}
use Rattle.values.specs.Lent.{all}
use Rattle.eval.specs.Set.{set}
use Rattle.eval.proofs.Each.{Turn}
use Rattle.eval.proofs.Keep.{KeepTurn}
use Rattle.eval.proofs.work.+work_out.Given as goal

abbrev pub decreases-work_out : goal.decreases-work_out
decreases-work_out l = 2 * length l.query.now

abbrev pub decreases-each_of : goal.decreases-each_of
decreases-each_of l = 2 * length l.query.now + 1

abbrev pub invariant-each_of-loop-i : goal.invariant-each_of-loop-i
invariant-each_of-loop-i l =
    Turn (set l.lent) l.query l.at l.env l.place (all l.fn.memory) l.fn.memory.top l.budget (all l.memory) l.i l.memory.top l.left × (l.memory.kept.now ≡ l.fn.memory.kept.now) × (l.memory.made.ghost_name ≡ l.fn.memory.made.ghost_name)

abbrev pub decreases-keep_of : goal.decreases-keep_of
decreases-keep_of l = 2 * length l.query.now + 1

abbrev pub invariant-keep_of-loop-i : goal.invariant-keep_of-loop-i
invariant-keep_of-loop-i l =
    KeepTurn (set l.lent) l.query l.at l.env l.place (all l.fn.memory) l.fn.memory.top l.budget (all l.memory) l.i l.count l.memory.top l.left × (l.memory.kept.now ≡ l.fn.memory.kept.now) × (l.memory.made.ghost_name ≡ l.fn.memory.made.ghost_name)
