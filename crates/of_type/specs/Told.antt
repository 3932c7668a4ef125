-- What is told of data and of their types in front of bytes.
use Rattle.std.specs.Prelude.{◌≡◌, ℕ, ◌≤◌, Bool, true, false, List, ◌++◌, length, Some, None, Option}
use Rattle.query.specs.Data.{Data}
use Rattle.query.specs.Query.{Ty, Tables}
use Rattle.query.specs.Types.{Schema, is_of, tables_are}
use Rattle.query.specs.Size.{size_t, size_s}
use Rattle.format.specs.Coding.{many, writes}
use Rattle.format.specs.Wire.{write_ty, FitsTy, write_data, FitsData, types, data_of}

-- is it of the type, and of how many bytes
abbrev pub Answer : Data → Ty → Option ℕ → Type 0
Answer d t None = is_of d t ≡ false
Answer d t (Some e) = (is_of d t ≡ true) × (e ≡ length (write_data d))

abbrev pub Within : List ℕ → Option ℕ → Type 0
Within xs None = Unit {0}
Within xs (Some e) = e ≤ length xs

-- whatever datum and type stand in front, unless the type is too large
pub record IsOfTold (limit : ℕ) (xs ys : List ℕ) (r : Option ℕ) : Type 0 where
  pub within : Within xs r
  pub tells : (d : Data) (t : Ty) (rest rest' : List ℕ) → FitsData d → FitsTy t → xs ≡ write_data d ++ rest → ys ≡ write_ty t ++ rest' → size_t t ≤ limit → Answer d t r

-- whatever tables and types stand in front, unless the types are too large
pub record TablesTold (limit : ℕ) (xs : List ℕ) (k : ℕ) (ys : List ℕ) (n : ℕ) (r : Bool) : Type 0 where
  pub tells : (ts : Tables) (ss : Schema) (rest rest' : List ℕ) → (many data_of k).Fits ts → (many types n).Fits ss → xs ≡ writes data_of ts ++ rest → ys ≡ writes types ss ++ rest' → size_s ss ≤ limit → r ≡ tables_are ts ss
