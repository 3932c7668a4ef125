use Rattle.of_type.proofs.Judges.{told_so}
use Rattle.of_type.proofs.is_of.Goals as goal

pub returns : goal.returns
returns c = told_so c.args.limit _ c.in_ok-after.after c.in_ok-after.ensures
