use Rattle.std.proofs.Common.{length}
use Rattle.literals.proofs.number.+number.Given as goal

abbrev pub decreases-number : goal.decreases-number
decreases-number l = length l.part.query.now
