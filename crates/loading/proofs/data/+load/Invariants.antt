use Rattle.std.proofs.Common.{◌≡◌, ◌+◌, ◌*◌}
use Rattle.values.specs.Lent.{all}
use Rattle.loading.proofs.Lined as lined
use Rattle.loading.proofs.Records as records
use Rattle.loading.proofs.data.+load.Given as goal

abbrev pub decreases-load_bag : goal.decreases-load_bag
decreases-load_bag g l = 3 * l.depth + 1

abbrev pub decreases-load : goal.decreases-load
decreases-load g l = 3 * l.depth + 2

abbrev pub decreases-load_side : goal.decreases-load_side
decreases-load_side g l = 3 * l.depth + 1

abbrev pub decreases-load_record : goal.decreases-load_record
decreases-load_record g l = 3 * l.depth + 1

abbrev pub decreases-load_row : goal.decreases-load_row
decreases-load_row g l = 3 * l.depth + 3

abbrev pub invariant-load_row-loop-i : goal.invariant-load_row-loop-i
invariant-load_row-loop-i g l =
    lined.Turn l.typing l.spot.bytes.now l.spot.at l.spot.ty l.count l.depth l.start (all l.fn.memory) (all l.memory) l.i l.memory.top l.at l.ty l.typed × (l.memory.kept.now ≡ l.fn.memory.kept.now) × (l.memory.made.ghost_name ≡ l.fn.memory.made.ghost_name)

abbrev pub invariant-load_record-loop-i : goal.invariant-load_record-loop-i
invariant-load_record-loop-i g l =
    records.Turn l.spot.bytes.now l.spot.at l.spot.ty l.depth l.start l.head.count (all l.fn.memory) (all l.memory) l.i l.memory.top l.name l.at l.ty × (l.memory.kept.now ≡ l.fn.memory.kept.now) × (l.memory.made.ghost_name ≡ l.fn.memory.made.ghost_name)
