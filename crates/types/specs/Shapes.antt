-- Types by the numbers of their parts, and what they are. Assumes nothing: these are definitions.
use Rattle.std.specs.Prelude.{◌≡◌, ℕ, suc, ◌<◌, ◌≤◌, List, [], ◌∷◌, ◌++◌, length, take, drop, ◌==◌, nat_lt, slice_index_or}
use Rattle.query.specs.Data.{Name, same_text, less_text}
use Rattle.query.specs.Query.{Ty, a_unit, a_num, a_truth, a_text, a_bag, a_rec, an_either, Tys, no_ty, ty}
use Rattle.types.specs.declared.entry.Field.{Field}
use Rattle.types.specs.declared.entry.Entry.{Entry}
use Rattle.types.specs.declared.entry.Run.{Run}
use Rattle.types.specs.declared.entry.Entry.TheVariants.{Unit as Unit', Num, Truth, Text, Bag, Either, Record}

-- the fields of a record
abbrev pub held : List Field → Run → List Field
held fs p = take p.count (drop p.start fs)

-- an entry, with the fields of a record in place of where they stand
pub data Shape : Type 0 where
  s_unit : Shape
  s_num : Shape
  s_truth : Shape
  s_text : Shape
  s_bag : ℕ → Shape
  s_either : ℕ → ℕ → Shape
  s_rec : List Field → Shape

abbrev pub shape : List Field → Entry → Shape
shape fs Unit' = s_unit
shape fs Num = s_num
shape fs Truth = s_truth
shape fs Text = s_text
shape fs (Bag j) = s_bag j
shape fs (Either p) = s_either p.left p.right
shape fs (Record p) = s_rec (held fs p)

unfoldable pub shapes : List Field → List Entry → List Shape
shapes fs [] = []
shapes fs (e ∷ es) = shape fs e ∷ shapes fs es

-- a list made from the left, each from what was made before
unfoldable pub built : {A B : Type 0} → (List B → A → B) → List B → List A → List B
built f bs [] = bs
built f bs (a ∷ as') = built f (bs ++ (f bs a ∷ [])) as'

-- the type of a shape, by the types of its parts, and the names
unfoldable pub run : List Name → List Ty → List Field → Tys
run ns ts [] = no_ty
run ns ts (f ∷ fs) = ty (slice_index_or ns f.name []) (slice_index_or ts f.of a_unit) (run ns ts fs)

unfoldable pub meaning : List Name → List Ty → Shape → Ty
meaning ns ts s_unit = a_unit
meaning ns ts s_num = a_num
meaning ns ts s_truth = a_truth
meaning ns ts s_text = a_text
meaning ns ts (s_bag j) = a_bag (slice_index_or ts j a_unit)
meaning ns ts (s_either j k) = an_either (slice_index_or ts j a_unit) (slice_index_or ts k a_unit)
meaning ns ts (s_rec fs) = a_rec (run ns ts fs)

abbrev pub types : List Name → List Shape → List Ty
types ns ss = built (meaning ns) [] ss

abbrev pub type_at : List Name → List Shape → ℕ → Ty
type_at ns ss i = slice_index_or (types ns ss) i a_unit

-- the names, in order, each once: so that they are compared by their numbers
pub record Ranked (ns : List Name) (w : ℕ) : Type 0 where
  pub many : length ns ≡ w
  pub same : (i j : ℕ) → i < w → j < w → same_text (slice_index_or ns i []) (slice_index_or ns j []) ≡ (i == j)
  pub less : (i j : ℕ) → i < w → j < w → less_text (slice_index_or ns i []) (slice_index_or ns j []) ≡ nat_lt i j

-- fields in the order of names, each once, from a name on
unfoldable pub Rising : ℕ → ℕ → ℕ → List Field → Type 0
Rising w b at [] = Unit {0}
Rising w b at (f ∷ fs) = (at ≤ f.name) × (f.name < w) × (f.of < b) × Rising w b (suc f.name) fs

-- the parts of a shape are below
unfoldable pub Below : ℕ → ℕ → Shape → Type 0
Below w b s_unit = Unit {0}
Below w b s_num = Unit {0}
Below w b s_truth = Unit {0}
Below w b s_text = Unit {0}
Below w b (s_bag j) = j < b
Below w b (s_either j k) = (j < b) × (k < b)
Below w b (s_rec fs) = Rising w b 0 fs

-- each part stands before, and no shape twice
pub record Good (w : ℕ) (ss : List Shape) : Type 0 where
  pub parts : (i : ℕ) → i < length ss → Below w i (slice_index_or ss i s_unit)
  pub once : (i j : ℕ) → i < length ss → j < length ss → slice_index_or ss i s_unit ≡ slice_index_or ss j s_unit → i ≡ j

-- what there was is still there
pub record Grown (old new : List Shape) : Type 0 where
  pub more : List Shape
  pub is : new ≡ old ++ more
