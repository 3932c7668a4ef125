-- What it is to have compared two values: the outcome stands for the way of the data that the values hold.
use Rattle.std.specs.Prelude.{◌≡◌, ℕ, ◌*◌, ◌≤◌, Bool, List, length}
use Rattle.query.specs.Data.{Data, Datas, Fields, same, same_text}
use Rattle.ordering.specs.Order.{Way, before, alike, behind, way, way_all, way_fields, way_text, rank}
use Rattle.values.specs.Memory.{Used, Under, Run, Spelled, Holds, HoldsAll, HoldsFields, loaded}
use Rattle.values.specs.Height.{height, height_all, height_fields}
use Rattle.values.specs.declared.value.Place.{Place}
use Rattle.values.specs.declared.value.Value.{Value}
use Rattle.values.specs.declared.value.Value.TheVariants.{Nothing, Number, Truth, Text, Bag, Record, Left, Right}
use Rattle.std.specs.declared.cmp.Ordering.{Ordering}
use Rattle.std.specs.declared.cmp.Ordering.TheVariants.{Less, Equal, Greater}
use Rattle.compare.specs.declared.Kind.{Kind}
use Rattle.compare.specs.declared.Kind.TheVariants as kinds

-- the way that an outcome stands for
abbrev pub stands : Ordering → Way
stands Less = before
stands Equal = alike
stands Greater = behind

-- a value's kind, which is its datum's
abbrev pub kind_of : Value → Kind
kind_of Nothing = kinds.Nothing
kind_of (Number n) = kinds.Number
kind_of (Truth b) = kinds.Truth
kind_of (Text p) = kinds.Text
kind_of (Bag p) = kinds.Bag
kind_of (Record p) = kinds.Record
kind_of (Left k) = kinds.Left
kind_of (Right k) = kinds.Right

-- two texts or names that stand in the request's bytes
pub record OrdersTexts (bs : List ℕ) (a b : Place) (o : Ordering) : Type 0 where
  pub is : (s t : List ℕ) → Spelled bs s a.start a.count → Spelled bs t b.start b.count → stands o ≡ way_text s t

pub record MatchesTexts (bs : List ℕ) (a b : Place) (r : Bool) : Type 0 where
  pub is : (s t : List ℕ) → Spelled bs s a.start a.count → Spelled bs t b.start b.count → r ≡ same_text s t

-- two values whose data lie in memory; the first datum nests no deeper than the depth
pub record Orders (bs m : List ℕ) (a b : Value) (depth : ℕ) (o : Ordering) : Type 0 where
  pub is : (d e : Data) (u : Used) → Holds bs m u d a → Holds bs m u e b → Under u (length m) → height d ≤ depth → stands o ≡ way d e

pub record Matches (bs m : List ℕ) (a b : Value) (depth : ℕ) (r : Bool) : Type 0 where
  pub is : (d e : Data) (u : Used) → Holds bs m u d a → Holds bs m u e b → Under u (length m) → height d ≤ depth → r ≡ same d e

-- two bags' things
pub record BagsLie (bs m : List ℕ) (p q : Place) (depth : ℕ) (u : Used) (ds es : Datas) : Type 0 where
  pub run_p : Run u p.start (3 * p.count)
  pub run_q : Run u q.start (3 * q.count)
  pub lie_p : HoldsAll bs m u ds p.start p.count
  pub lie_q : HoldsAll bs m u es q.start q.count
  pub low : Under u (length m)
  pub flat : height_all ds ≤ depth

pub record OrdersBags (bs m : List ℕ) (p q : Place) (depth : ℕ) (o : Ordering) : Type 0 where
  pub is : (ds es : Datas) (u : Used) → BagsLie bs m p q depth u ds es → stands o ≡ way_all ds es

-- two records' fields
pub record RecordsLie (bs m : List ℕ) (p q : Place) (depth : ℕ) (u : Used) (fs gs : Fields) : Type 0 where
  pub run_p : Run u p.start (5 * p.count)
  pub run_q : Run u q.start (5 * q.count)
  pub lie_p : HoldsFields bs m u fs p.start p.count
  pub lie_q : HoldsFields bs m u gs q.start q.count
  pub low : Under u (length m)
  pub flat : height_fields fs ≤ depth

pub record OrdersRecords (bs m : List ℕ) (p q : Place) (depth : ℕ) (o : Ordering) : Type 0 where
  pub is : (fs gs : Fields) (u : Used) → RecordsLie bs m p q depth u fs gs → stands o ≡ way_fields fs gs

-- what is on the sides of two eithers
pub record OrdersSides (bs m : List ℕ) (i j depth : ℕ) (o : Ordering) : Type 0 where
  pub is : (d e : Data) (u : Used) → Run u i 3 → Run u j 3 → Holds bs m u d (loaded m i) → Holds bs m u e (loaded m j) → Under u (length m) → height d ≤ depth → stands o ≡ way d e

-- an outcome that needs no look at memory, unless both have parts and are of one kind
pub record FlatWay (bs : List ℕ) (a b : Value) (o : Ordering) : Type 0 where
  pub is : (m : List ℕ) (d e : Data) (u : Used) → Holds bs m u d a → Holds bs m u e b → (rank d ≡ rank e → height d ≡ 0) → stands o ≡ way d e
