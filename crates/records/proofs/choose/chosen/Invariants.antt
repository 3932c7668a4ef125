use Rattle.records.proofs.Choosing.{Keeping}
use Rattle.records.proofs.choose.chosen.Given as goal

abbrev pub invariant-loop-i : goal.invariant-loop-i
invariant-loop-i g l = Keeping (λ i name b. goal.F-post g l.keeps i name b) l.place l.fn.memory l.memory l.i l.count
