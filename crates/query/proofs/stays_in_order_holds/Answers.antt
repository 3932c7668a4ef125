use Rattle.query.proofs.stays_in_order_holds.Goals as goal
use Rattle.query.proofs.Order.{stays_in_order}

pub returns : goal.returns
returns c = stays_in_order
