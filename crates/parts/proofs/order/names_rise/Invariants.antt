use Rattle.parts.proofs.Rising.{Climbed}
use Rattle.parts.proofs.order.names_rise.Given as goal

abbrev pub invariant-loop-i : goal.invariant-loop-i
invariant-loop-i l = Climbed l.count l.bytes l._i l.at
