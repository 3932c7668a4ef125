use Rattle.bounds.proofs.Widths.{as_wide}
use Rattle.bounds.proofs.as_wide_holds.Goals as goal

pub returns : goal.returns
returns c = as_wide
