use Rattle.ordering.proofs.way_transits_holds.Goals as goal
use Rattle.ordering.proofs.Transits.{transits}

pub returns : goal.returns
returns c = transits
