use Rattle.query.proofs.as_many_holds.Goals as goal
use Rattle.query.proofs.Many.{as_many}

pub returns : goal.returns
returns c = as_many
