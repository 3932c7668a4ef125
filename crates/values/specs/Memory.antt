-- How data lie in memory. A slot is three words: a kind, and two numbers. A field is five: where its name stands in the request's bytes, how
-- many bytes that has, and a slot. A bag is slots in a row, a record fields in a row. Texts stay in the request's bytes.
use Rattle.std.specs.Prelude.{◌≡◌, ℕ, suc, ◌+◌, ◌*◌, ◌<◌, ◌≤◌, Bool, true, false, cond, T, ◌⊎◌, List, length, take, drop, ◌==◌, slice_index}
use Rattle.query.specs.Data.{Data, unit, num, truth, text, bag, rec, left, right, Datas, none, more, Fields, no_field, field}
use Rattle.values.specs.declared.value.Place.{Place}
use Rattle.values.specs.declared.value.Field.{Field}
use Rattle.values.specs.declared.value.Value.{Value}
use Rattle.values.specs.declared.value.Value.TheVariants.{Nothing, Number, Truth, Text, Bag, Record, Left, Right}

-- the value of a kind and two numbers
abbrev pub decoded : ℕ → ℕ → ℕ → Value
decoded k x y =
    cond (k == 1) (Number x)
    (cond (k == 2) (Truth false)
    (cond (k == 3) (Truth true)
    (cond (k == 4) (Text (record { start = x; count = y }))
    (cond (k == 5) (Bag (record { start = x; count = y }))
    (cond (k == 6) (Record (record { start = x; count = y }))
    (cond (k == 7) (Left x)
    (cond (k == 8) (Right x) Nothing)))))))

unfoldable pub loaded : List ℕ → ℕ → Value
loaded m at = decoded (slice_index m at) (slice_index m (at + 1)) (slice_index m (at + 2))

unfoldable pub loaded_field : List ℕ → ℕ → Field
loaded_field m at = record { name = record { start = slice_index m at; count = slice_index m (at + 1) }; value = loaded m (at + 2) }

-- what lies below a place is as it was
pub record Kept (top : ℕ) (m n : List ℕ) : Type 0 where
  pub long : length n ≡ length m
  pub same : (k : ℕ) → k < top → slice_index n k ≡ slice_index m k

-- one thing of so many words was written, and nothing else
pub record Put {A : Type 0} (width : ℕ) (read : List ℕ → ℕ → A) (at : ℕ) (x : A) (m n : List ℕ) : Type 0 where
  pub there : read n at ≡ x
  pub long : length n ≡ length m
  pub before : (k : ℕ) → k < at → slice_index n k ≡ slice_index m k
  pub after : (k : ℕ) → at + width ≤ k → slice_index n k ≡ slice_index m k

-- a slot was written, and nothing else
abbrev pub Stored : ℕ → Value → List ℕ → List ℕ → Type 0
Stored at v m n = Put 3 loaded at v m n

-- a field was written, and nothing else
abbrev pub StoredField : ℕ → Field → List ℕ → List ℕ → Type 0
StoredField at f m n = Put 5 loaded_field at f m n

-- each slot of a place lies below another place
pub record Readable (p : Place) (top : ℕ) : Type 0 where
  pub spots : (i : ℕ) → i < p.count → p.start + 3 * i + 3 ≤ top

-- slots were copied, and nothing below changed
pub record Copied (p : Place) (to count : ℕ) (m n : List ℕ) : Type 0 where
  pub kept : Kept to m n
  pub there : (i : ℕ) → i < count → loaded n (to + 3 * i) ≡ loaded m (p.start + 3 * i)

-- which words are in use, each by its number
abbrev pub Used : Type 0
Used = ℕ → Bool

pub record Under (u : Used) (top : ℕ) : Type 0 where
  pub low : (k : ℕ) → T (u k) → k < top

-- more are in use, all of them new
pub record Grown (u w : Used) (top end : ℕ) : Type 0 where
  pub wider : (k : ℕ) → T (u k) → T (w k)
  pub fresh : (k : ℕ) → T (w k) → T (u k) ⊎ ((top ≤ k) × (k < end))

-- so many words are in use
pub record Run (u : Used) (start count : ℕ) : Type 0 where
  pub used : (k : ℕ) → start ≤ k → k < start + count → T (u k)

-- a text or a name stands in the request's bytes
pub record Spelled (bs t : List ℕ) (start count : ℕ) : Type 0 where
  pub within : start + count ≤ length bs
  pub is : t ≡ take count (drop start bs)

-- A value stands for a datum, all of which lies in words that are in use, and in the request's bytes bs.
unfoldable mutual
  pub Holds : List ℕ → List ℕ → Used → Data → Value → Type 0
  Holds bs m u unit v = v ≡ Nothing
  Holds bs m u (num n) v = v ≡ Number n
  Holds bs m u (truth b) v = v ≡ Truth b
  Holds bs m u (text t) v = (p : Place) × (v ≡ Text p) × Spelled bs t p.start p.count
  Holds bs m u (bag ds) v = (p : Place) × (v ≡ Bag p) × Run u p.start (3 * p.count) × HoldsAll bs m u ds p.start p.count
  Holds bs m u (rec fs) v = (p : Place) × (v ≡ Record p) × Run u p.start (5 * p.count) × HoldsFields bs m u fs p.start p.count
  Holds bs m u (left d) v = (k : ℕ) × (v ≡ Left k) × Run u k 3 × Holds bs m u d (loaded m k)
  Holds bs m u (right d) v = (k : ℕ) × (v ≡ Right k) × Run u k 3 × Holds bs m u d (loaded m k)

  pub HoldsAll : List ℕ → List ℕ → Used → Datas → ℕ → ℕ → Type 0
  HoldsAll bs m u none at k = k ≡ 0
  HoldsAll bs m u (more d ds) at k = (j : ℕ) × (k ≡ suc j) × Holds bs m u d (loaded m at) × HoldsAll bs m u ds (at + 3) j

  pub HoldsFields : List ℕ → List ℕ → Used → Fields → ℕ → ℕ → Type 0
  HoldsFields bs m u no_field at k = k ≡ 0
  HoldsFields bs m u (field n d fs) at k =
      (j : ℕ) × (k ≡ suc j) × Spelled bs n (slice_index m at) (slice_index m (at + 1)) × Holds bs m u d (loaded m (at + 2)) × HoldsFields bs m u fs (at + 5) j

-- two memories agree on what is in use
pub record Agree (u : Used) (m n : List ℕ) : Type 0 where
  pub same : (k : ℕ) → T (u k) → slice_index n k ≡ slice_index m k
