-- What the operators on bags promise. What they make is told for whatever data the bags that they are given stand for.
use Rattle.std.specs.Prelude.{◌≡◌, ℕ, ◌+◌, ◌*◌, ◌<◌, ◌≤◌, Bool, true, false, List, length, Some, None, Option, Ok, Err, Result}
use Rattle.query.specs.Data.{Data, bag, Datas, none, more, join, how_many, is_in, once}
use Rattle.query.specs.Query.{Got, failed, flat_all, sum_all}
use Rattle.values.specs.Memory.{Used, Under, Holds, HoldsAll, Kept}
use Rattle.values.specs.Height.{height, height_all}
use Rattle.values.specs.Making.{MadeAs, Makes, BagLies}
use Rattle.values.specs.declared.value.Place.{Place}
use Rattle.values.specs.declared.value.Value.{Value}
use Rattle.values.specs.Made.{Made}
use Rattle.bags.specs.Things.{all_bags, joined_all}
use Rattle.bags.specs.declared.flat.Flattened.{Flattened}
use Rattle.bags.specs.declared.flat.NotFlat.{NotFlat}
use Rattle.bags.specs.declared.flat.NotFlat.TheVariants as unflat

-- a bag of some things lies at a place
pub record ABag (p : Place) (m : List ℕ) (top : ℕ) : Type 0 where
  pub bytes : List ℕ
  pub used : Used
  pub things : Datas
  pub lies : BagLies bytes m p things used top

-- one value in a bag
pub record PutsInBag (v : Value) (m : List ℕ) (top : ℕ) (n : List ℕ) (r : Option Made) : Type 0 where
  pub kept : Kept top m n
  pub means : (bs : List ℕ) (u : Used) (d : Data) → Holds bs m u d v → Under u top → Makes bs (bag (more d none)) u top 3 n r

-- two bags in one
pub record Joins (x y : Place) (m : List ℕ) (top : ℕ) (n : List ℕ) (r : Option Made) : Type 0 where
  pub kept : Kept top m n
  pub means : (bs : List ℕ) (u : Used) (ds es : Datas) → BagLies bs m x ds u top → BagLies bs m y es u top → Makes bs (bag (join ds es)) u top (3 * how_many (join ds es)) n r

-- a sum, or a thing that is no number
abbrev pub SumIs : Datas → Option ℕ → Type 0
SumIs ds (Some n) = (f : ℕ → Got) → sum_all ds f ≡ f n
SumIs ds None = (f : ℕ → Got) → sum_all ds f ≡ failed 0

pub record Sums (p : Place) (m : List ℕ) (r : Option ℕ) : Type 0 where
  pub means : (bs : List ℕ) (u : Used) (ds : Datas) (top : ℕ) → BagLies bs m p ds u top → SumIs ds r

-- how many in all, or a thing that is no bag
abbrev pub CountIs : Datas → Option ℕ → Type 0
CountIs ds (Some n) = (all_bags ds ≡ true) × (n ≡ how_many (joined_all ds))
CountIs ds None = all_bags ds ≡ false

pub record Counts (p : Place) (m : List ℕ) (r : Option ℕ) : Type 0 where
  pub means : (bs : List ℕ) (u : Used) (ds : Datas) (top : ℕ) → BagLies bs m p ds u top → CountIs ds r

-- a bag of bags is a bag of what is in them, or one of its things is no bag
pub record FlatIs (ds xs : Datas) (count : ℕ) : Type 0 where
  pub flat : (f : Datas → Got) → flat_all ds f ≡ f xs
  pub many : count ≡ how_many xs

abbrev pub FlatMakes : List ℕ → Datas → Used → ℕ → List ℕ → ℕ → Result Flattened NotFlat → Type 0
FlatMakes bs ds u top n end (Ok f) = (xs : Datas) × FlatIs ds xs f.count × MadeAs bs (bag xs) u top (3 * how_many xs) n (record { value = f.bag; top = end })
FlatMakes bs ds u top n end (Err (unflat.NoRoom k)) = (xs : Datas) × FlatIs ds xs k × (length n < top + 3 * how_many xs)
FlatMakes bs ds u top n end (Err unflat.NoBag) = (f : Datas → Got) → flat_all ds f ≡ failed 0

pub record Flattens (p : Place) (m : List ℕ) (top : ℕ) (n : List ℕ) (end : ℕ) (r : Result Flattened NotFlat) : Type 0 where
  pub kept : Kept top m n
  pub means : (bs : List ℕ) (u : Used) (ds : Datas) → BagLies bs m p ds u top → FlatMakes bs ds u top n end r

-- a datum is in a bag
pub record IsWithin (bs m : List ℕ) (v : Value) (p : Place) (depth : ℕ) (r : Bool) : Type 0 where
  pub means : (u : Used) (d : Data) (ds : Datas) (top : ℕ) → Holds bs m u d v → HoldsAll bs m u ds p.start p.count → Under u top → top ≤ length m → height d ≤ depth → r ≡ is_in d ds

-- each of a bag once
pub record TakesOnce (bs : List ℕ) (p : Place) (m : List ℕ) (depth top : ℕ) (n : List ℕ) (r : Option Made) : Type 0 where
  pub kept : Kept top m n
  pub means : (u : Used) (ds : Datas) → BagLies bs m p ds u top → height_all ds ≤ depth → Makes bs (bag (once ds)) u top (3 * how_many ds) n r
