-- Memory as it is lent: all of its words are one row, those that are only read first.
use Rattle.std.specs.Prelude.{◌≡◌, ℕ, ◌+◌, ◌*◌, ◌<◌, List, ◌++◌, length, slice_index, Some, None, Option}
use Rattle.values.specs.Memory.{decoded, Put, Copied}
use Rattle.values.specs.declared.row.Row.{Row}
use Rattle.values.specs.declared.lent.Memory.{Memory}
use Rattle.values.specs.declared.value.Place.{Place}
use Rattle.values.specs.declared.value.Value.{Value}
use Rattle.values.specs.Made.{Made}

abbrev pub words : Row → List ℕ
words r = r.kept.now ++ r.made.now

abbrev pub all : Memory → List ℕ
all m = m.kept.now ++ m.made.now

-- three words are a value's slot
abbrev pub IsDecoded : List ℕ → Value → Type 0
IsDecoded ws v = decoded (slice_index ws 0) (slice_index ws 1) (slice_index ws 2) ≡ v

-- one word was written, and nothing else
pub record WordPut (at w : ℕ) (m n : List ℕ) : Type 0 where
  pub there : slice_index n at ≡ w
  pub long : length n ≡ length m
  pub others : (k : ℕ) → ((k ≡ at) → ⊥) → slice_index n k ≡ slice_index m k

-- what is only read is the same, and memory is in use as far as it was
pub record Steady (m n : Memory) : Type 0 where
  pub frozen : n.kept.now ≡ m.kept.now
  pub top : n.top ≡ m.top

-- so too, and what is made lies in the slice that was lent
pub record SteadyThere (m n : Memory) : Type 0 where
  pub frozen : n.kept.now ≡ m.kept.now
  pub same : n.made.ghost_name ≡ m.made.ghost_name
  pub top : n.top ≡ m.top

-- a value that was made, with where free memory begins after it
abbrev pub made_to : ℕ → Option Value → Option Made
made_to top (Some v) = Some (record { value = v; top = top })
made_to top None = None

-- what is only read is the same, and so many words more are in use
pub record Moved (m n : Memory) (by : ℕ) : Type 0 where
  pub frozen : n.kept.now ≡ m.kept.now
  pub top : n.top ≡ m.top + by

-- so too, and what is made lies in the slice that was lent
pub record MovedThere (m n : Memory) (by : ℕ) : Type 0 where
  pub frozen : n.kept.now ≡ m.kept.now
  pub same : n.made.ghost_name ≡ m.made.ghost_name
  pub top : n.top ≡ m.top + by

-- there is no room for so many words, and all is as it was
pub record Crowded (m n : Memory) (need : ℕ) : Type 0 where
  pub short : length (all m) < m.top + need
  pub words : all n ≡ all m
  pub steady : SteadyThere m n

-- room for so many things was taken where free memory began
pub record Taken (width count : ℕ) (m n : Memory) (start : ℕ) : Type 0 where
  pub begins : start ≡ m.top
  pub words : all n ≡ all m
  pub moved : MovedThere m n (width * count)

abbrev pub Reserves : ℕ → ℕ → Memory → Memory → Option ℕ → Type 0
Reserves width count m n (Some start) = Taken width count m n start
Reserves width count m n None = Crowded m n (width * count)

-- a thing was written where free memory began
pub record Pushed {A : Type 0} (width : ℕ) (read : List ℕ → ℕ → A) (x : A) (m n : Memory) (start : ℕ) : Type 0 where
  pub begins : start ≡ m.top
  pub put : Put width read m.top x (all m) (all n)
  pub moved : Moved m n width

abbrev pub Pushes : {A : Type 0} → ℕ → (List ℕ → ℕ → A) → A → Memory → Memory → Option ℕ → Type 0
Pushes width read x m n (Some start) = Pushed width read x m n start
Pushes width read x m n None = Crowded m n width

-- so too, in the slice that was lent
pub record PushedThere {A : Type 0} (width : ℕ) (read : List ℕ → ℕ → A) (x : A) (m n : Memory) (start : ℕ) : Type 0 where
  pub begins : start ≡ m.top
  pub put : Put width read m.top x (all m) (all n)
  pub moved : MovedThere m n width

abbrev pub PushesThere : {A : Type 0} → ℕ → (List ℕ → ℕ → A) → A → Memory → Memory → Option ℕ → Type 0
PushesThere width read x m n (Some start) = PushedThere width read x m n start
PushesThere width read x m n None = Crowded m n width

-- the values of a place were copied to where free memory began
pub record Appended (p : Place) (m n : Memory) (start : ℕ) : Type 0 where
  pub begins : start ≡ m.top
  pub copied : Copied p m.top p.count (all m) (all n)
  pub moved : MovedThere m n (3 * p.count)

abbrev pub Appends : Place → Memory → Memory → Option ℕ → Type 0
Appends p m n (Some start) = Appended p m n start
Appends p m n None = Crowded m n (3 * p.count)
