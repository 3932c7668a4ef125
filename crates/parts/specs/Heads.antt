-- What a head counts besides itself and the things after it: texts, names, operators, types and data.
use Rattle.std.specs.Prelude.{◌≡◌, ℕ, ◌+◌, ◌<◌, ◌≤◌, List, ◌∷◌, ◌++◌, length, Some, None, Option}
use Rattle.query.specs.Query.{Op1}
use Rattle.query.specs.Size.{size_d, size_t, size_1, sizes}
use Rattle.format.specs.Coding.{Coding, both_of}
use Rattle.format.specs.Wire.{write_1, Fits1, types, data_of}
use Rattle.format.specs.Heads.{DataHead, unit_h, num_h, truth_h, text_h, bag_h, rec_h, left_h, right_h, TyHead, unit_t, num_t, truth_t, text_t, bag_t, rec_t, either_t, QueryHead, table_q, it_q, env_q, just_q, two_q, one_q, each_q, keep_q, product_q, matched_q, default_q, left_q, right_q, either_q, then_q, with_env_q}

unfoldable pub own_d : DataHead → ℕ
own_d unit_h = 0
own_d (num_h n) = 0
own_d (truth_h b) = 0
own_d (text_h t) = length t
own_d (bag_h k) = 0
own_d (rec_h ns) = sizes ns
own_d left_h = 0
own_d right_h = 0

unfoldable pub own_t : TyHead → ℕ
own_t unit_t = 0
own_t num_t = 0
own_t truth_t = 0
own_t text_t = 0
own_t bag_t = 0
own_t (rec_t ns) = sizes ns
own_t either_t = 0

unfoldable pub own_q : QueryHead → ℕ
own_q (table_q n) = 0
own_q it_q = 0
own_q env_q = 0
own_q (just_q t d) = size_t t + size_d d
own_q (two_q o) = 0
own_q (one_q o) = size_1 o
own_q each_q = 0
own_q keep_q = 0
own_q product_q = 0
own_q (matched_q m n) = length m + length n
own_q default_q = 0
own_q (left_q t) = size_t t
own_q (right_q t) = size_t t
own_q either_q = 0
own_q then_q = 0
own_q with_env_q = 0

-- operators on one thing, as they stand in front of it
abbrev pub operators : Coding
operators = record { T = Op1; write = write_1; Fits = Fits1 }

-- a type and a datum of it, written out in a query
abbrev pub written_out : Coding
written_out = both_of types data_of

abbrev pub written_size : written_out.T → ℕ
written_size w = size_t w.0 + size_d w.1

-- of something of so many parts
abbrev pub Weighs : ℕ → ℕ → Option ℕ → Type 0
Weighs limit size None = limit < size
Weighs limit size (Some n) = (n ≡ size) × (size ≤ limit)

abbrev pub BoundedBy : ℕ → Option ℕ → Type 0
BoundedBy limit None = Unit {0}
BoundedBy limit (Some n) = n ≤ limit

-- the bytes are those after a head's tag: whichever head a node tells of, what it counts of its own was counted
pub record Weighed (H : Coding) {N : Type 0} (Tells : N → H.T → Type 0) (own : H.T → ℕ) (limit : ℕ) (xs : List ℕ) (node : N) (r : Option ℕ) : Type 0 where
  pub weighs : (h : H.T) (t : ℕ) (rest : List ℕ) → H.Fits h → Tells node h → t ∷ xs ≡ H.write h ++ rest → Weighs limit (own h) r
  pub bounded : BoundedBy limit r
