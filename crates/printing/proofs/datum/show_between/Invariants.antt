use Rattle.std.proofs.Common.{◌≤◌, vec_items, vec_len}
use Rattle.printing.proofs.Nexts.{Unwound}
use Rattle.printing.proofs.datum.show_between.Given as goal

abbrev pub invariant-loop-last : goal.invariant-loop-last
invariant-loop-last l =
    (vec_len l.initial.out ≤ vec_len l.out)
    × Unwound l.words (vec_items l.initial.stack) (vec_items l.stack) (vec_items l.initial.out) (vec_items l.out)

abbrev pub decreases-loop-last : goal.decreases-loop-last
decreases-loop-last l = vec_len l.stack
