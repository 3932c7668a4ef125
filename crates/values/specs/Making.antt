-- What it is to have made a value in free memory, or to lack the room for it.
use Rattle.std.specs.Prelude.{ℕ, ◌+◌, ◌*◌, ◌<◌, ◌≤◌, List, length, Some, None, Option}
use Rattle.query.specs.Data.{Data, Datas, Fields}
use Rattle.values.specs.Memory.{Used, Under, Grown, Run, Holds, HoldsAll, HoldsFields}
use Rattle.values.specs.declared.value.Place.{Place}
use Rattle.values.specs.Made.{Made}

-- a value that stands for d was made above old, in at most `need` words
pub record MadeAs (bs : List ℕ) (d : Data) (u : Used) (old need : ℕ) (m : List ℕ) (r : Made) : Type 0 where
  pub now_used : Used
  pub grown : Grown u now_used old r.top
  pub holds : Holds bs m now_used d r.value
  pub above : old ≤ r.top
  pub within : r.top ≤ length m
  pub thrifty : r.top ≤ old + need

-- or fewer than `need` words were left
abbrev pub Makes : List ℕ → Data → Used → ℕ → ℕ → List ℕ → Option Made → Type 0
Makes bs d u old need m (Some r) = MadeAs bs d u old need m r
Makes bs d u old need m None = length m < old + need

-- a bag's things, a record's fields lie at a place, in words that are in use below a top
pub record BagLies (bs m : List ℕ) (p : Place) (ds : Datas) (u : Used) (top : ℕ) : Type 0 where
  pub run : Run u p.start (3 * p.count)
  pub lie : HoldsAll bs m u ds p.start p.count
  pub low : Under u top
  pub room : top ≤ length m

pub record RecordLies (bs m : List ℕ) (p : Place) (fs : Fields) (u : Used) (top : ℕ) : Type 0 where
  pub run : Run u p.start (5 * p.count)
  pub lie : HoldsFields bs m u fs p.start p.count
  pub low : Under u top
  pub room : top ≤ length m
