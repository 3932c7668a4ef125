use Rattle.bags.proofs.Flattening.{Filled}
use Rattle.bags.proofs.flat.flat.Given as goal

abbrev pub invariant-loop-i : goal.invariant-loop-i
invariant-loop-i l = Filled l.place l.fn.memory l.memory l.i
