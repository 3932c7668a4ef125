use Rattle.std.proofs.Common.{vec_items, vec_len}
use Rattle.typing.specs.Loads.{Fit}
use Rattle.typing.proofs.Loading.{Making}
use Rattle.typing.proofs.load.load.Given as goal

abbrev pub invariant-loop-p : goal.invariant-loop-p
invariant-loop-p l = Making l.bytes l.names l.initial.table l.table l.work.stack (vec_items l.work.heads) l.at l.count × Fit l.work

abbrev pub decreases-loop-p : goal.decreases-loop-p
decreases-loop-p l = vec_len l.work.heads
