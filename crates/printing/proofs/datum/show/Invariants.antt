use Rattle.std.proofs.Common.{◌-◌, ◌≤◌, length, vec_items, vec_len}
use Rattle.printing.proofs.Showing.{Showing}
use Rattle.printing.proofs.datum.show.Given as goal

abbrev pub invariant-loop-at : goal.invariant-loop-at
invariant-loop-at l =
    (vec_len l.initial.out ≤ vec_len l.out)
    × Showing l.words (vec_items l.stack) l.at (vec_items l.initial.out) (vec_items l.out)

abbrev pub decreases-loop-at : goal.decreases-loop-at
decreases-loop-at l = length l.words - l.at
