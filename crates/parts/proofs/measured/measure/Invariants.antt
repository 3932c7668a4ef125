use Rattle.std.proofs.Common.{◌-◌, length}
use Rattle.parts.proofs.Walk.{Walked}
use Rattle.parts.proofs.measured.measure.Given as goal

abbrev pub invariant-loop-pending : goal.invariant-loop-pending
invariant-loop-pending g l = Walked g.M.Measured.coding g.M.Measured.size g.M.Measured.holds l.limit l.count l.bytes l.pending l.parts l.end

abbrev pub decreases-loop-pending : goal.decreases-loop-pending
decreases-loop-pending g l = length l.initial.bytes - l.end
