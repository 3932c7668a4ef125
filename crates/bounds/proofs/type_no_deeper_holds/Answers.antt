use Rattle.bounds.proofs.TypeHeights.{type_no_deeper}
use Rattle.bounds.proofs.type_no_deeper_holds.Goals as goal

pub returns : goal.returns
returns c = type_no_deeper
