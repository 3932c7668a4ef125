use mathlib.Core.Path.{refl}
use Rattle.query.specs.Data.{pick, same_text, how_many, get}
use Rattle.query.specs.Query.{table_at, on_list, on_bag, on_rec, on_num, sum_all, get_or_fail, apply1, each_of, eval}
use Rattle.examples.proofs.all_kilos.Goals as goal

pub returns : goal.returns
unfolding eval table_at apply1 sum_all each_of how_many on_bag on_num on_list on_rec get_or_fail get pick same_text
returns c = refl
