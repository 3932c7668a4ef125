use Rattle.records.proofs.Merging.{merged_is_both}
use Rattle.records.proofs.laws.merged_is_both_holds.Goals as goal

pub returns : goal.returns
returns c = merged_is_both
