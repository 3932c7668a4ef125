-- What is begun and not yet closed, and what of it is still to come: as bytes, and as text.
use Rattle.std.specs.Prelude.{◌≡◌, ℕ, suc, ◌+◌, ◌^◌, ◌<◌, Bool, true, false, List, [], ◌∷◌, ◌++◌, length, drop, IsSomeAnd, codes, decimal, Option}
use Rattle.query.specs.Data.{Name, Data, Datas, Fields, how_many}
use Rattle.format.specs.Coding.{le, name, writes, AllFit}
use Rattle.format.specs.Wire.{names, write_names, FitNames, write_data, write_datas, write_values, FitsData, FitsDatas, FitsValues}
use Rattle.printing.specs.declared.datum.Whole.{Whole}
use Rattle.printing.specs.declared.datum.Whole.TheVariants.{Bag, Record, Side}
use Rattle.printing.specs.declared.datum.Open.{Open}
use Rattle.printing.specs.Texts.{bytes_quoted}
use Rattle.printing.specs.Datums.{text_of, things_text, fields_text}

-- the byte that closes a whole
abbrev pub closing_of : Whole → ℕ
closing_of Bag = 93
closing_of (Record at) = 125
closing_of Side = 41

-- things still to come, before what closes them
pub record ThingsLeft (close left : ℕ) (begun : Bool) (bytes text : List ℕ) : Type 0 where
  pub ds : Datas
  pub fits : FitsDatas ds
  pub many : how_many ds ≡ left
  pub bytes_are : bytes ≡ write_datas ds
  pub text_is : text ≡ things_text begun ds ++ (close ∷ [])

-- fields still to come, whose names stand at a place
pub record FieldsLeft (words : List ℕ) (at left : ℕ) (begun : Bool) (bytes text : List ℕ) : Type 0 where
  pub fs : Fields
  pub fits : FitsValues fs
  pub names_fit : AllFit name (names fs)
  pub many : length (names fs) ≡ left
  pub after : List ℕ
  pub names_are : drop at words ≡ writes name (names fs) ++ after
  pub bytes_are : bytes ≡ write_values fs
  pub text_is : text ≡ fields_text begun fs ++ (125 ∷ [])

abbrev pub LeftOf : List ℕ → Whole → ℕ → Bool → List ℕ → List ℕ → Type 0
LeftOf words Bag left begun bytes text = ThingsLeft 93 left begun bytes text
LeftOf words (Record at) left begun bytes text = FieldsLeft words at left begun bytes text
LeftOf words Side left begun bytes text = ThingsLeft 41 left begun bytes text

-- what is open, the last first, and the bytes and the text of all that is still to come of it
pub data Stands (words : List ℕ) : List Open → List ℕ → List ℕ → Type 0 where
  all_closed : {all : List Open} {bytes text : List ℕ} → all ≡ [] → bytes ≡ [] → text ≡ [] → Stands words all bytes text
  one_open : {all : List Open} {bytes text : List ℕ} (os : List Open) (o : Open) (bs ts bs' ts' : List ℕ)
      → all ≡ os ++ (o ∷ [])
      → bytes ≡ bs ++ bs'
      → text ≡ ts ++ ts'
      → LeftOf words o.whole o.left o.begun bs ts
      → Stands words os bs' ts'
      → Stands words all bytes text

-- a datum is due, and then the rest of what is open
pub record Due (words : List ℕ) (os : List Open) (bytes text : List ℕ) : Type 0 where
  pub d : Data
  pub fits : FitsData d
  pub bs : List ℕ
  pub ts : List ℕ
  pub stands : Stands words os bs ts
  pub bytes_are : bytes ≡ write_data d ++ bs
  pub text_is : text ≡ text_of d ++ ts

-- with what is out, some text that is still to come makes up the whole
pub record Still (ToCome : List ℕ → Type 0) (out whole : List ℕ) : Type 0 where
  pub text : List ℕ
  pub there : ToCome text
  pub is : out ++ text ≡ whole

-- a whole with so many parts was opened
pub record Opened (whole : Whole) (left : ℕ) (opening : List ℕ) (os os' : List Open) (out out' : List ℕ) : Type 0 where
  pub opens : os' ≡ os ++ (record { whole = whole; left = left; begun = false } ∷ [])
  pub text_is : out' ≡ out ++ opening

-- a number stood there: it was appended
pub record NumberShown (words : List ℕ) (at : ℕ) (out out' : List ℕ) (r : Option ℕ) : Type 0 where
  pub is : (n : ℕ) (rest : List ℕ) → n < 2 ^ 64 → drop at words ≡ le 8 n ++ rest → IsSomeAnd r (λ e. (drop e words ≡ rest) × (out' ≡ out ++ decimal n))

-- a text stood there: it was appended
pub record TextShown (words : List ℕ) (at : ℕ) (out out' : List ℕ) (r : Option ℕ) : Type 0 where
  pub is : (t rest : List ℕ) → name.Fits t → drop at words ≡ name.write t ++ rest → IsSomeAnd r (λ e. (drop e words ≡ rest) × (out' ≡ out ++ bytes_quoted t))

-- a count stood there: a bag of so many things was opened
pub record BagBegun (words : List ℕ) (at : ℕ) (os os' : List Open) (out out' : List ℕ) (r : Option ℕ) : Type 0 where
  pub is : (n : ℕ) (rest : List ℕ) → n < 2 ^ 32 → drop at words ≡ le 4 n ++ rest
      → IsSomeAnd r (λ e. (drop e words ≡ rest) × Opened Bag n (codes "[") os os' out out')

-- names stood there: a record with these was opened
pub record RecordBegun (words : List ℕ) (at : ℕ) (os os' : List Open) (out out' : List ℕ) (r : Option ℕ) : Type 0 where
  pub is : (ns : List Name) (rest : List ℕ) → FitNames ns → drop at words ≡ write_names ns ++ rest
      → IsSomeAnd r (λ e. (drop e words ≡ rest) × Opened (Record (at + 4)) (length ns) (codes "{") os os' out out')

-- a datum was due: what is now open makes up the rest of the text
pub record Headed (words : List ℕ) (at : ℕ) (os os' : List Open) (out out' : List ℕ) (r : Option ℕ) : Type 0 where
  pub goes_on : (text : List ℕ) → Due words os (drop at words) text → IsSomeAnd r (λ e. Still (Stands words os' (drop e words)) out' (out ++ text))

-- the next part of a whole, and what comes after it
pub record Next (Left : List ℕ → List ℕ → Type 0) (bytes text out out' : List ℕ) : Type 0 where
  pub d : Data
  pub fits : FitsData d
  pub bs : List ℕ
  pub ts : List ℕ
  pub part : Left bs ts
  pub bytes_are : bytes ≡ write_data d ++ bs
  pub text_is : out' ++ (text_of d ++ ts) ≡ out ++ text

-- parts were to come: what stands in front of the next was appended
pub record Fronted (words : List ℕ) (whole : Whole) (begun : Bool) (out out' : List ℕ) (r : Option Whole) : Type 0 where
  pub goes_on : (left : ℕ) (bytes text : List ℕ) → LeftOf words whole (suc left) begun bytes text → IsSomeAnd r (λ w. Next (λ bs ts. LeftOf words w left true bs ts) bytes text out out')

-- a datum is due, or all is out
abbrev pub Onward : List ℕ → List Open → List ℕ → List ℕ → List ℕ → Bool → Type 0
Onward words os bytes out whole true = Still (Due words os bytes) out whole
Onward words os bytes out whole false = out ≡ whole

pub record Between (words : List ℕ) (os os' : List Open) (out out' : List ℕ) (r : Bool) : Type 0 where
  pub goes_on : (bytes text : List ℕ) → Stands words os bytes text → Onward words os' bytes out' (out ++ text) r
