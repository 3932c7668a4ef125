use Rattle.values.proofs.Items.{value_put}
use Rattle.values.proofs.item.ValueInPlace.put.Goals as goal

pub returns-clause-put : goal.returns-clause-put
returns-clause-put c = value_put c.from.ensures c.set.ensures.put c.set-2.ensures.put c.set-3.ensures.put
