-- What the operators on records promise. What they make is told for whatever data the records that they are given stand for.
use Rattle.std.specs.Prelude.{◌≡◌, ℕ, ◌+◌, ◌*◌, ◌<◌, ◌≤◌, Bool, true, false, List, [], ◌∷◌, Some, None, Option}
use Rattle.query.specs.Data.{pick, Name, Data, rec, Fields, no_field, field, get, left_out, both, one_of, only, in_order}
use Rattle.format.specs.Coding.{name, many}
use Rattle.format.specs.Nodes.{Stands}
use Rattle.values.specs.Memory.{Used, Under, Spelled, Holds, Kept, loaded_field}
use Rattle.values.specs.Making.{Makes, RecordLies}
use Rattle.values.specs.declared.value.Place.{Place}
use Rattle.values.specs.declared.value.Value.{Value}
use Rattle.values.specs.declared.value.Field.{Field}
use Rattle.values.specs.Made.{Made}
use Rattle.compare.specs.Compare.{MatchesTexts}
use Rattle.records.specs.declared.pair.Pair.{Pair}
use Rattle.records.specs.Parts.{how_many_fields, rest_fields, merged}

-- each field of a place lies below another place
pub record FieldsBelow (p : Place) (top : ℕ) : Type 0 where
  pub spots : (i : ℕ) → i < p.count → p.start + 5 * i + 5 ≤ top

-- a record of one field
pub record MakesField (p : Place) (v : Value) (m : List ℕ) (top : ℕ) (n : List ℕ) (r : Option Made) : Type 0 where
  pub kept : Kept top m n
  pub means : (bs : List ℕ) (u : Used) (a : Name) (d : Data) → Spelled bs a p.start p.count → Holds bs m u d v → Under u top → Makes bs (rec (field a d no_field)) u top 5 n r

-- a field of that number has the name, or has another
abbrev pub IsNamed : List ℕ → Place → Place → List ℕ → ℕ → Bool → Type 0
IsNamed bs q p m i b = MatchesTexts bs q (loaded_field m (p.start + 5 * i)).name b

-- the number of the first field with a name, or none has it
abbrev pub FindsIndex : List ℕ → Place → Place → List ℕ → Option ℕ → Type 0
FindsIndex bs q p m (Some i) = (i < p.count) × IsNamed bs q p m i true × ((k : ℕ) → k < i → IsNamed bs q p m k false)
FindsIndex bs q p m None = (k : ℕ) → k < p.count → IsNamed bs q p m k false

-- what a record has under a name, none or one
abbrev pub Found : List ℕ → List ℕ → Used → List Data → Option Value → Type 0
Found bs m u ds (Some v) = (d : Data) × (ds ≡ d ∷ []) × Holds bs m u d v
Found bs m u ds None = ds ≡ []

pub record Finds (bs : List ℕ) (q p : Place) (m : List ℕ) (r : Option Value) : Type 0 where
  pub means : (a : Name) (u : Used) (fs : Fields) (top : ℕ) → Spelled bs a q.start q.count → RecordLies bs m p fs u top → Found bs m u (get a fs) r

-- the next field of two records side by side
pub record Next (bs m : List ℕ) (u : Used) (all to_come : Fields) (f : Field) : Type 0 where
  pub called : Name
  pub datum : Data
  pub is : all ≡ field called datum to_come
  pub spelled : Spelled bs called f.name.start f.name.count
  pub holds : Holds bs m u datum f.value

pub record Steps (bs : List ℕ) (x y : Place) (m : List ℕ) (i j : ℕ) (r : Field × ℕ × ℕ) : Type 0 where
  pub on_first : i ≤ r.1
  pub on_second : j ≤ r.2
  pub on : i + j < r.1 + r.2
  pub in_first : r.1 ≤ x.count
  pub in_second : r.2 ≤ y.count
  pub means : (u : Used) (fs gs : Fields) (top : ℕ) → RecordLies bs m x fs u top → RecordLies bs m y gs u top →
      Next bs m u (merged (rest_fields i fs) (rest_fields j gs)) (merged (rest_fields r.1 fs) (rest_fields r.2 gs)) r.0

-- two records are gone through by one field, or they have ended
abbrev pub Goes : List ℕ → List ℕ → Pair → Pair → Option Field → Type 0
Goes bs m s t (Some f) = (t.x ≡ s.x) × (t.y ≡ s.y) × Steps bs s.x s.y m s.i s.j (f, t.i, t.j)
Goes bs m s t None = (s.i ≡ s.x.count) × (s.j ≡ s.y.count)

-- all fields of two records
pub record JoinsRecords (bs : List ℕ) (x y : Place) (m : List ℕ) (top : ℕ) (n : List ℕ) (r : Option Made) : Type 0 where
  pub kept : Kept top m n
  pub means : (u : Used) (fs gs : Fields) → RecordLies bs m x fs u top → RecordLies bs m y gs u top → in_order gs ≡ true →
      Makes bs (rec (both fs gs)) u top (5 * how_many_fields (both fs gs)) n r

-- What is still to come of a record's fields from each of them on, where it is told of each by its number and its name whether it is kept: the
-- field itself only if it is, and then what is to come from the next on; in the end nothing.
pub record ToCome (told : ℕ → Place → Bool → Type 0) (bs m : List ℕ) (p : Place) (u : Used) (fs : Fields) (to_come : ℕ → Fields) : Type 0 where
  pub step : (i : ℕ) (b : Bool) → i < p.count → told i (loaded_field m (p.start + 5 * i)).name b →
      (t : Next bs m u (rest_fields i fs) (rest_fields (i + 1) fs) (loaded_field m (p.start + 5 * i))) → to_come i ≡ pick b (field t.called t.datum (to_come (i + 1))) (to_come (i + 1))
  pub ends : to_come p.count ≡ no_field

-- all that is to come from the first field on
pub record Keeps (told : ℕ → Place → Bool → Type 0) (p : Place) (m : List ℕ) (top : ℕ) (n : List ℕ) (r : Option Made) : Type 0 where
  pub kept : Kept top m n
  pub means : (bs : List ℕ) (u : Used) (fs : Fields) (to_come : ℕ → Fields) → RecordLies bs m p fs u top → ToCome told bs m p u fs to_come →
      Makes bs (rec (to_come 0)) u top (5 * how_many_fields (to_come 0)) n r

-- a record without a name
pub record LeavesOut (bs : List ℕ) (q p : Place) (m : List ℕ) (top : ℕ) (n : List ℕ) (r : Option Made) : Type 0 where
  pub kept : Kept top m n
  pub means : (a : Name) (u : Used) (fs : Fields) → Spelled bs a q.start q.count → RecordLies bs m p fs u top →
      Makes bs (rec (left_out a fs)) u top (5 * how_many_fields (left_out a fs)) n r

-- so many names stand in the request's bytes from a place on
pub record NamesStand (bs : List ℕ) (at k : ℕ) (ns : List Name) : Type 0 where
  pub stands : Stands (many name k) bs at ns
  pub fit : (many name k).Fits ns

pub record IsOneOf (bs : List ℕ) (at k : ℕ) (q : Place) (r : Bool) : Type 0 where
  pub means : (a : Name) (ns : List Name) → Spelled bs a q.start q.count → NamesStand bs at k ns → r ≡ one_of a ns

-- the fields with certain names
pub record TakesOnly (bs : List ℕ) (at k : ℕ) (p : Place) (m : List ℕ) (top : ℕ) (n : List ℕ) (r : Option Made) : Type 0 where
  pub kept : Kept top m n
  pub means : (ns : List Name) (u : Used) (fs : Fields) → NamesStand bs at k ns → RecordLies bs m p fs u top →
      Makes bs (rec (only ns fs)) u top (5 * how_many_fields (only ns fs)) n r
