use Rattle.std.proofs.Common.{◌+◌, ◌*◌}
use Rattle.values.specs.Lent.{words}
use Rattle.compare.proofs.Things.{BagsFrom}
use Rattle.compare.proofs.Named.{RecordsFrom}
use Rattle.compare.proofs.+bags_records_sides_which_first.Given as goal

abbrev pub decreases-bags : goal.decreases-bags
decreases-bags l = 2 * l.depth + 1

abbrev pub decreases-records : goal.decreases-records
decreases-records l = 2 * l.depth + 1

abbrev pub decreases-which_first : goal.decreases-which_first
decreases-which_first l = 2 * l.depth

abbrev pub invariant-bags-loop-i : goal.invariant-bags-loop-i
invariant-bags-loop-i l = BagsFrom l.bytes (words l.row) l.p l.q l.depth l.i

abbrev pub invariant-records-loop-i : goal.invariant-records-loop-i
invariant-records-loop-i l = RecordsFrom l.bytes (words l.row) l.p l.q l.depth l.i

abbrev pub decreases-sides : goal.decreases-sides
decreases-sides l = 2 * l.depth + 1
