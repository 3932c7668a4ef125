use mathlib.Core.Path.{refl}
use Rattle.query.specs.Data.{pick, same_text, is_text, same, how_many, is_in, once, get}
use Rattle.query.specs.Query.{table_at, on_list, on_bag, on_rec, get_or_fail, apply1, each_of, eval}
use Rattle.examples.proofs.work_for_kinds.Goals as goal

pub returns : goal.returns
unfolding eval table_at apply1 each_of once is_in same is_text how_many on_bag on_list on_rec get_or_fail get pick same_text
returns c = refl
