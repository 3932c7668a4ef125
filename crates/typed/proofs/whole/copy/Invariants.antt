use Rattle.std.proofs.Common.{◌≡◌, ◌≤◌, ◌++◌, drop, vec_items, vec_capacity}
use Rattle.typed.proofs.whole.copy.Given as goal

abbrev pub invariant-loop-x : goal.invariant-loop-x
invariant-loop-x l = (8200 ≤ vec_capacity l.to) × (vec_items l.to ++ drop l.x-index l.numbers ≡ l.numbers)
