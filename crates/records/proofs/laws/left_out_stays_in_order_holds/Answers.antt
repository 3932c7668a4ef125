use Rattle.records.proofs.Orders.{left_out_stays_in_order}
use Rattle.records.proofs.laws.left_out_stays_in_order_holds.Goals as goal

pub returns : goal.returns
returns c = left_out_stays_in_order
