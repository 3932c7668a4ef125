use Rattle.bounds.proofs.Heights.{no_deeper}
use Rattle.bounds.proofs.no_deeper_holds.Goals as goal

pub returns : goal.returns
returns c = no_deeper
