use Rattle.std.proofs.Common.{◌+◌, ◌*◌, length}
use Rattle.values.specs.Lent.{words}
use Rattle.writing.proofs.Rows as rows
use Rattle.writing.proofs.out.+write_bag_write_out_write_record_write_side.Given as goal

abbrev pub decreases-write_bag : goal.decreases-write_bag
decreases-write_bag l = 2 * length l.out.now

abbrev pub decreases-write_out : goal.decreases-write_out
decreases-write_out l = 2 * length l.out.now + 1

abbrev pub decreases-write_record : goal.decreases-write_record
decreases-write_record l = 2 * length l.out.now

abbrev pub decreases-write_side : goal.decreases-write_side
decreases-write_side l = 2 * length l.out.now

abbrev pub invariant-write_bag-loop-i : goal.invariant-write_bag-loop-i
invariant-write_bag-loop-i l = rows.BagTurn l.bytes (words l.row) l.fn.p l.initial.out l.out l.i l.n

abbrev pub invariant-write_record-loop-i : goal.invariant-write_record-loop-i
invariant-write_record-loop-i l = rows.RecordTurn l.bytes (words l.row) l.fn.p l.initial.out l.out l.i l.n
