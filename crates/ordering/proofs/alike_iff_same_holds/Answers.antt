use Rattle.ordering.proofs.alike_iff_same_holds.Goals as goal
use Rattle.ordering.proofs.Alike.{alike_iff_same}

pub returns : goal.returns
returns c = alike_iff_same
