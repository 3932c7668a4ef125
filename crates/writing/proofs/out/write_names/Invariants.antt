use Rattle.values.specs.Lent.{words}
use Rattle.writing.proofs.Rows as rows
use Rattle.writing.proofs.out.write_names.Given as goal

abbrev pub invariant-loop-i : goal.invariant-loop-i
invariant-loop-i l = rows.NamesTurn l.bytes (words l.row) l.fn.p l.initial.out l.out l.i l.n
