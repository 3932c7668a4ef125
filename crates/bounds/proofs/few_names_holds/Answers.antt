use Rattle.bounds.proofs.Widths.{few_names}
use Rattle.bounds.proofs.few_names_holds.Goals as goal

pub returns : goal.returns
returns c = few_names
