use Rattle.query.proofs.same_is_same_holds.Goals as goal
use Rattle.query.proofs.Same.{same_is_same}

pub returns : goal.returns
returns c = same_is_same
