use Rattle.std.proofs.Common.{◌≤◌, length}
use Rattle.printing.proofs.Skips.{Skipped}
use Rattle.printing.proofs.words.after_names.Given as goal

abbrev pub invariant-loop-i : goal.invariant-loop-i
invariant-loop-i l = (l.at ≤ l.end) × (l.end ≤ length l.words) × Skipped l.words l.at l.count l.i l.end
