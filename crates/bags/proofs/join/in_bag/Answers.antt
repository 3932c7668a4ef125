use Rattle.values.proofs.Frame.{pushed_there}
use Rattle.bags.proofs.Joining.{one_made, one_no_room}
use Rattle.bags.proofs.join.in_bag.Goals as goal

pub returns-in_err-start-clause-makes : goal.returns-in_err-start-clause-makes
returns-in_err-start-clause-makes c = rw c.from_residual.ensures (one_no_room c.in_err-start.ensures)

pub returns-clause-makes : goal.returns-clause-makes
returns-clause-makes c = one_made (pushed_there c.in_ok-start.ensures)
