use Rattle.values.proofs.Items.{field_put}
use Rattle.values.proofs.item.FieldInPlace.put.Goals as goal

pub returns-clause-put : goal.returns-clause-put
returns-clause-put c = field_put c.set.ensures.put c.set-2.ensures.put c.put.ensures.put
