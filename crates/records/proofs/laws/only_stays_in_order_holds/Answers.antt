use Rattle.records.proofs.Orders.{only_stays_in_order}
use Rattle.records.proofs.laws.only_stays_in_order_holds.Goals as goal

pub returns : goal.returns
returns c = only_stays_in_order
