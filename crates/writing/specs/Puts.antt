-- What it is to have written numbers at the front of others, and to have read from memory.
use Rattle.std.specs.Prelude.{◌≡◌, ℕ, ◌<◌, ◌≤◌, List, length, take, Some, None, Option}
use Rattle.format.specs.Coding.{name}
use Rattle.values.specs.Memory.{Spelled}
use Rattle.values.specs.declared.value.Place.{Place}

-- `now` begins with vs, which have n numbers
pub record BeginsWith (vs was now : List ℕ) (n : ℕ) : Type 0 where
  pub end : n ≡ length vs
  pub within : n ≤ length was
  pub is : take n now ≡ vs

-- or there was no room for them
abbrev pub Put : List ℕ → List ℕ → List ℕ → Option ℕ → Type 0
Put vs was now (Some n) = BeginsWith vs was now n
Put vs was now None = length was < length vs

-- of any values: no more was written than there was room for
abbrev pub Within : List ℕ → Option ℕ → Type 0
Within was (Some n) = n ≤ length was
Within was None = Unit {0}

-- a name or a text that stands at a place was written
pub record PutsName (bs : List ℕ) (p : Place) (was now : List ℕ) (r : Option ℕ) : Type 0 where
  pub means : (t : List ℕ) → Spelled bs t p.start p.count → Put (name.write t) was now r
