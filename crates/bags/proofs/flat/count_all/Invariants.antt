use Rattle.values.specs.Lent.{words}
use Rattle.bags.proofs.Flattening.{Counted}
use Rattle.bags.proofs.flat.count_all.Given as goal

abbrev pub invariant-loop-i : goal.invariant-loop-i
invariant-loop-i l = Counted l.place (words l.row) l.i l.total
