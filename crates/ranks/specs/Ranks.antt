-- Names in order, each once.
use Rattle.std.specs.Prelude.{◌≡◌, ℕ, ◌+◌, ◌<◌, ◌≤◌, true, List, [], ◌∷◌, length, get_or, take, drop, Some, None, vec_items, vec_capacity, Option, slice_index_or}
use Rattle.query.specs.Data.{Name, less_text}
use Rattle.std.specs.declared.cmp.Ordering.{Ordering}
use Rattle.std.specs.declared.cmp.Ordering.TheVariants.{Less, Equal, Greater}
use Rattle.ranks.specs.declared.names.Place.{Place}
use Rattle.ranks.specs.declared.names.Names.{Names}

-- which of two texts comes first
abbrev pub Ways : List ℕ → List ℕ → Ordering → Type 0
Ways x y Less = less_text x y ≡ true
Ways x y Equal = x ≡ y
Ways x y Greater = less_text y x ≡ true

-- the name at a place
abbrev pub name_at : List ℕ → Place → Name
name_at xs p = take p.length (drop p.start xs)

unfoldable pub names_at : List ℕ → List Place → List Name
names_at xs [] = []
names_at xs (p ∷ ps) = name_at xs p ∷ names_at xs ps

abbrev pub nowhere : Place
nowhere = record { start = 0; length = 0 }

-- each comes before those after it
abbrev pub Ordered : List Name → Type 0
Ordered ns = (i j : ℕ) → i < j → j < length ns → less_text (slice_index_or ns i []) (slice_index_or ns j []) ≡ true

-- a name is among some, under a number
pub record In (ns : List Name) (n : Name) : Type 0 where
  pub at : ℕ
  pub within : at < length ns
  pub is : get_or ns at [] ≡ n

-- whatever is among the one is among the other
abbrev pub Among : List Name → List Name → Type 0
Among ns ms = (n : Name) → In ns n → In ms n

abbrev pub names_of : List ℕ → Names → List Name
names_of xs v = names_at xs (vec_items v.places)

-- the places of names in the bytes, in the names' order, and no more than there is room for
pub record Listed (xs : List ℕ) (v : Names) : Type 0 where
  pub lie : (i : ℕ) → i < length (vec_items v.places) → (get_or (vec_items v.places) i nowhere).start + (get_or (vec_items v.places) i nowhere).length ≤ length xs
  pub ordered : Ordered (names_of xs v)
  pub few : length (vec_items v.places) ≤ 8200
  pub cap : 8200 ≤ vec_capacity v.places

-- where a name stands, or where it is to be put
pub record PutAt (ns : List Name) (n : Name) (i : ℕ) : Type 0 where
  pub within : i ≤ length ns
  pub before : (k : ℕ) → k < i → less_text (slice_index_or ns k []) n ≡ true
  pub after : (k : ℕ) → i ≤ k → k < length ns → less_text n (slice_index_or ns k []) ≡ true

-- a name was put among the others, if it was not there
pub record Put (xs : List ℕ) (v u : Names) (n : Name) : Type 0 where
  pub listed : Listed xs u
  pub among : Among (names_of xs v) (names_of xs u)
  pub there : length (names_of xs v) < 8200 → In (names_of xs u) n
  pub few : length (names_of xs u) ≤ length (names_of xs v) + 1
  pub same : In (names_of xs v) n → length (names_of xs u) ≡ length (names_of xs v)

-- the number of a name
abbrev pub RankOf : List Name → Name → Option ℕ → Type 0
RankOf ns n None = In ns n → ⊥
RankOf ns n (Some k) = (k < length ns) × (slice_index_or ns k [] ≡ n)
