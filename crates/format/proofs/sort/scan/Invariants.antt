use Rattle.std.proofs.Common.{◌+◌, ◌-◌, ◌*◌, ◌^◌, ◌≤◌, length, take}
use Rattle.format.proofs.Spans.{Spans}
use Rattle.format.proofs.sort.scan.Given as goal

abbrev pub invariant-loop-pending : goal.invariant-loop-pending
invariant-loop-pending g l =
    (l.end ≤ length l.bytes) × (l.pending ≤ l.count + 2 ^ 32 * l.end) × Spans g.S.Sort.coding l.count l.pending (take l.end l.bytes)

abbrev pub decreases-loop-pending : goal.decreases-loop-pending
decreases-loop-pending g l = length l.initial.bytes - l.end
