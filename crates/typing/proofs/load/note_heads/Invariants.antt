use Rattle.std.proofs.Common.{◌-◌, ◌≤◌, length, vec_items, vec_capacity}
use Rattle.typing.proofs.HeadNotes.{Noting}
use Rattle.typing.proofs.load.note_heads.Given as goal

abbrev pub invariant-loop-pending : goal.invariant-loop-pending
invariant-loop-pending l = Noting l.bytes l.at l.count (vec_items l.heads) l.pending l.end × (8200 ≤ vec_capacity l.heads)

abbrev pub decreases-loop-pending : goal.decreases-loop-pending
decreases-loop-pending l = length l.initial.bytes - l.end
