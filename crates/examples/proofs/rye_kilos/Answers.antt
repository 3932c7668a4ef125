use mathlib.Core.Path.{refl}
use Rattle.query.specs.Data.{pick, same_text, less_text, is_num, is_text, same, join, how_many, get, put, both}
use Rattle.query.specs.Query.{table_at, on_list, on_bag, on_rec, on_num, on_truth, sum_all, get_or_fail, apply1, apply2, each_of, keep_of, same_there, with_same, matched_pairs, eval}
use Rattle.examples.proofs.rye_kilos.Goals as goal

pub returns : goal.returns
unfolding eval table_at matched_pairs with_same same_there same is_num both put less_text join how_many on_bag on_list on_rec get_or_fail get pick same_text apply1 apply2 sum_all each_of keep_of on_num on_truth is_text
returns c = refl
