-- The things of a bag from one of them on, and those of a bag's bags.
use Rattle.std.specs.Prelude.{ℕ, zero, suc, Bool, true, false, ◌&&◌}
use Rattle.query.specs.Data.{Data, unit, num, truth, text, bag, rec, left, right, Datas, none, more, join}

-- all but the first so many
unfoldable pub rest : ℕ → Datas → Datas
rest zero ds = ds
rest (suc i) none = none
rest (suc i) (more d ds) = rest i ds

unfoldable pub a_bag : Data → Bool
a_bag unit = false
a_bag (num n) = false
a_bag (truth b) = false
a_bag (text t) = false
a_bag (bag ds) = true
a_bag (rec fs) = false
a_bag (left d) = false
a_bag (right d) = false

-- what is in a bag; in anything else there is nothing
unfoldable pub things : Data → Datas
things unit = none
things (num n) = none
things (truth b) = none
things (text t) = none
things (bag ds) = ds
things (rec fs) = none
things (left d) = none
things (right d) = none

unfoldable pub all_bags : Datas → Bool
all_bags none = true
all_bags (more d ds) = a_bag d && all_bags ds

-- one bag after the other
unfoldable pub joined_all : Datas → Datas
joined_all none = none
joined_all (more d ds) = join (things d) (joined_all ds)
