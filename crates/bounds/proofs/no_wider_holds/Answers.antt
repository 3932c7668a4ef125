use Rattle.bounds.proofs.Widths.{no_wider}
use Rattle.bounds.proofs.no_wider_holds.Goals as goal

pub returns : goal.returns
returns c = no_wider
