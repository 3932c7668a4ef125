use Rattle.ordering.proofs.alike_is_same_holds.Goals as goal
use Rattle.ordering.proofs.Alike.{alike_is_same}

pub returns : goal.returns
returns c = alike_is_same
