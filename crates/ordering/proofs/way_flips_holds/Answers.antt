use Rattle.ordering.proofs.way_flips_holds.Goals as goal
use Rattle.ordering.proofs.Flips.{flips}

pub returns : goal.returns
returns c = flips
