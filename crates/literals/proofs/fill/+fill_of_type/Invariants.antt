use Rattle.std.proofs.Common.{length}
use Rattle.literals.proofs.fill.+fill_of_type.Given as goal

abbrev pub decreases-fill_of_type : goal.decreases-fill_of_type
decreases-fill_of_type l = length l.part.query.now
