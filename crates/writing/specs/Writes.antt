-- What it is to have written out the datum that a value stands for.
use Rattle.std.specs.Prelude.{ℕ, ◌*◌, List, ◌∷◌, length, Option}
use Rattle.query.specs.Data.{Data, Fields}
use Rattle.format.specs.Coding.{name, writes}
use Rattle.format.specs.Wire.{names, write_data, FitsData}
use Rattle.values.specs.Memory.{Used, Under, Run, Holds, HoldsFields, loaded}
use Rattle.values.specs.declared.value.Place.{Place}
use Rattle.values.specs.declared.value.Value.{Value}
use Rattle.writing.specs.Puts.{Put}

-- whatever the value stands for in memory, that was written at the front, or there was no room for it
pub record Writes (bs m : List ℕ) (v : Value) (was now : List ℕ) (r : Option ℕ) : Type 0 where
  pub means : (d : Data) (u : Used) → Holds bs m u d v → Under u (length m) → FitsData d → Put (write_data d) was now r

-- the same of any datum, also of one whose counts the format has no room for
pub record WritesAny (bs m : List ℕ) (v : Value) (was now : List ℕ) (r : Option ℕ) : Type 0 where
  pub means : (d : Data) (u : Used) → Holds bs m u d v → Under u (length m) → Put (write_data d) was now r

-- the same of the names of fields that lie at a place
pub record WritesNames (bs m : List ℕ) (p : Place) (was now : List ℕ) (r : Option ℕ) : Type 0 where
  pub means : (fs : Fields) (u : Used) → Run u p.start (5 * p.count) → HoldsFields bs m u fs p.start p.count → Under u (length m) → Put (writes name (names fs)) was now r

-- the same of a tag and what a slot holds
pub record WritesSide (bs m : List ℕ) (tag at : ℕ) (was now : List ℕ) (r : Option ℕ) : Type 0 where
  pub means : (d : Data) (u : Used) → Run u at 3 → Holds bs m u d (loaded m at) → Under u (length m) → Put (tag ∷ write_data d) was now r
