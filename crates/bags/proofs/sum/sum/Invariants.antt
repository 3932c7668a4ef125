use Rattle.values.specs.Lent.{words}
use Rattle.bags.proofs.Summing.{Summed}
use Rattle.bags.proofs.sum.sum.Given as goal

abbrev pub invariant-loop-i : goal.invariant-loop-i
invariant-loop-i l = Summed l.place (words l.row) l.i l.total
