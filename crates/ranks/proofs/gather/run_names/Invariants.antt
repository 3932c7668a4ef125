use Rattle.std.proofs.Common.{◌-◌, length}
use Rattle.ranks.proofs.Runs.{Going}
use Rattle.ranks.proofs.gather.run_names.Given as goal

abbrev pub invariant-loop-pending : goal.invariant-loop-pending
invariant-loop-pending g l = Going g.S.HasNames.run l.bytes l.initial.names l.names l.at l.count l.pending l.end

abbrev pub decreases-loop-pending : goal.decreases-loop-pending
decreases-loop-pending g l = length l.initial.bytes - l.end
