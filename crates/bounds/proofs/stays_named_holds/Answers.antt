use Rattle.bounds.proofs.TypeNames.{stays_named}
use Rattle.bounds.proofs.stays_named_holds.Goals as goal

pub returns : goal.returns
returns c = stays_named
