-- What a table holds. Assumes nothing: these are definitions.
use Rattle.std.specs.Prelude.{◌≡◌, ℕ, ◌+◌, ◌<◌, ◌≤◌, Bool, true, false, List, length, get_or, Some, None, Option, ◌≢◌, slice_index_or}
use Rattle.types.specs.Shapes.{Shape, s_unit, shape, shapes, Good, Grown}
use Rattle.types.specs.declared.entry.Field.{Field}
use Rattle.types.specs.declared.entry.Entry.{Entry}
use Rattle.types.specs.declared.entry.Entry.TheVariants.{Unit as Unit', Num, Truth, Text, Bag, Either, Record}
use Rattle.types.specs.declared.entry.Run.{Run}
use Rattle.types.specs.declared.entry.Two.{Two}

-- a test tells whether something holds
abbrev pub Tells : Bool → Type 0 → Type 0
Tells true P = P
Tells false P = P → ⊥

-- the fields of an entry stand before a place
abbrev pub Lies : ℕ → Entry → Type 0
Lies top Unit' = Unit {0}
Lies top Num = Unit {0}
Lies top Truth = Unit {0}
Lies top Text = Unit {0}
Lies top (Bag j) = Unit {0}
Lies top (Either p) = Unit {0}
Lies top (Record p) = p.start + p.count ≤ top

pub record Sound (w : ℕ) (es : List Entry) (fs : List Field) : Type 0 where
  pub lies : (i : ℕ) → i < length es → Lies (length fs) (slice_index_or es i Unit')
  pub good : Good w (shapes fs es)

abbrev pub no_such : Field
no_such = record { name = 0; of = 0 }

-- a shape has its number, and what there was is still there
pub record Made (w : ℕ) (es : List Entry) (fs : List Field) (es' : List Entry) (fs' : List Field) (s : Shape) (extra r : ℕ) : Type 0 where
  pub sound : Sound w es' fs'
  pub grown : Grown (shapes fs es) (shapes fs' es')
  pub here : r < length es'
  pub is : get_or (shapes fs' es') r s_unit ≡ s
  pub few : length es' ≤ length es + 1
  pub slim : length fs' ≤ length fs + extra

abbrev pub Found : List Field → List Entry → Entry → Option ℕ → Type 0
Found fs es e None = (i : ℕ) → i < length es → shape fs (slice_index_or es i Unit') ≢ shape fs e
Found fs es e (Some i) = (i < length es) × (shape fs (slice_index_or es i Unit') ≡ shape fs e)

-- the part of a bag, and the fields of a record
abbrev pub bag_part : Entry → Option ℕ
bag_part Unit' = None
bag_part Num = None
bag_part Truth = None
bag_part Text = None
bag_part (Bag j) = Some j
bag_part (Either p) = None
bag_part (Record p) = None

abbrev pub run_part : Entry → Option Run
run_part Unit' = None
run_part Num = None
run_part Truth = None
run_part Text = None
run_part (Bag j) = None
run_part (Either p) = None
run_part (Record p) = Some p

-- the two sides of an either
abbrev pub sides_part : Entry → Option Two
sides_part Unit' = None
sides_part Num = None
sides_part Truth = None
sides_part Text = None
sides_part (Bag j) = None
sides_part (Either p) = Some p
sides_part (Record p) = None
