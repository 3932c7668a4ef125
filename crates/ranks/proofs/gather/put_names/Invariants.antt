use Rattle.ranks.proofs.Gathers.{Naming}
use Rattle.ranks.proofs.gather.put_names.Given as goal

abbrev pub invariant-loop-i : goal.invariant-loop-i
invariant-loop-i l = Naming l.bytes l.initial.names l.names l.at l.count l.i l.pos
