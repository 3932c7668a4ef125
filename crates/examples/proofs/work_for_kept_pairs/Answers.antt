use mathlib.Core.Path.{refl}
use Rattle.query.specs.Data.{pick, same_text, less_text, is_num, same, join, how_many, get, put, both}
use Rattle.query.specs.Query.{table_at, on_list, on_bag, on_rec, on_truth, get_or_fail, apply1, apply2, keep_of, with_each, all_pairs, eval}
use Rattle.examples.proofs.work_for_kept_pairs.Goals as goal

pub returns : goal.returns
unfolding eval table_at apply1 apply2 keep_of on_bag on_truth on_list on_rec get_or_fail get pick same_text same is_num all_pairs with_each both put less_text join how_many
returns c = refl
