use mathlib.Core.Path.{refl}
use Rattle.query.specs.Data.{pick, same_text, is_text, same, get}
use Rattle.query.specs.Query.{table_at, on_list, on_bag, on_rec, on_truth, get_or_fail, apply1, apply2, keep_of, eval}
use Rattle.examples.proofs.work_for_rye_lots.Goals as goal

pub returns : goal.returns
unfolding eval table_at apply1 apply2 keep_of on_bag on_truth on_list on_rec get_or_fail get pick same_text same is_text
returns c = refl
