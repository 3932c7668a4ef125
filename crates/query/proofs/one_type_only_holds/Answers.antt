use Rattle.query.proofs.one_type_only_holds.Goals as goal
use Rattle.query.proofs.OneType.{one_type_only}

pub returns : goal.returns
returns c = one_type_only
