use Rattle.query.proofs.each_once_holds.Goals as goal
use Rattle.query.proofs.Once.{each_once}

pub returns : goal.returns
returns c = each_once
