-- What is told of data and of their types in front of bytes, and what comes after them.
use Rattle.std.specs.Prelude.{◌≡◌, ℕ, ◌≤◌, Bool, true, false, List, ◌++◌, length, Some, None, Option}
use Rattle.query.specs.Data.{Data, bag, rec, left, right, Datas, Fields, how_many}
use Rattle.query.specs.Query.{Ty, a_bag, a_rec, an_either, Tys}
use Rattle.query.specs.Types.{is_of, all_of, tables_are}
use Rattle.query.specs.Size.{size_t, size_s}
use Rattle.format.specs.Coding.{Coding, many}
use Rattle.format.specs.Wire.{names, names_ty, write_ty, write_tys, FitsTy, write_data, write_datas, write_values, FitsData, FitsDatas, types, data_of}
use Rattle.format.specs.declared.node.DataNode.{DataNode}
use Rattle.format.specs.declared.node.DataNode.TheVariants as dn
use Rattle.of_type.specs.declared.Both.{Both}
use Rattle.of_type.specs.declared.Heads.{Heads}

-- exactly k things of a bag
abbrev pub datas : ℕ → Coding
datas k = record { T = Datas; write = write_datas; Fits = λ ds. (how_many ds ≡ k) × FitsDatas ds }

-- no byte comes anew, of data or of types
abbrev pub NoLonger : Both → Option Both → Type 0
NoLonger b None = Unit {0}
NoLonger b (Some e) = (length e.datum.now ≤ length b.datum.now) × (length e.ty.now ≤ length b.ty.now)

-- it holds, and this is what comes after; or it does not hold
abbrev pub Verdict : List ℕ → List ℕ → Bool → Option Both → Type 0
Verdict rest rest' h None = h ≡ false
Verdict rest rest' h (Some e) = (h ≡ true) × (e.datum.now ≡ rest) × (e.ty.now ≡ rest')

-- whatever of two sorts stands in front, whether it holds of them, unless the second is too large
pub record Judged (S U : Coding) (holds : S.T → U.T → Bool) (size : U.T → ℕ) (limit : ℕ) (b : Both) (r : Option Both) : Type 0 where
  pub within : NoLonger b r
  pub tells : (d : S.T) (t : U.T) (rest rest' : List ℕ) → S.Fits d → U.Fits t → b.datum.now ≡ S.write d ++ rest → b.ty.now ≡ U.write t ++ rest' → size t ≤ limit → Verdict rest rest' (holds d t) r

abbrev pub DatumIs : ℕ → Both → Option Both → Type 0
DatumIs limit b r = Judged data_of types is_of size_t limit b r

abbrev pub BagIs : ℕ → ℕ → Both → Option Both → Type 0
BagIs k limit b r = Judged (datas k) types all_of size_t limit b r

abbrev pub ValuesAre : ℕ → ℕ → Both → Option Both → Type 0
ValuesAre k limit b r = Judged (many data_of k) (many types k) tables_are size_s limit b r

-- a type was in front, and this is what comes after it
abbrev pub Past : Both → List ℕ → Option Both → Type 0
Past b rest None = ⊥
Past b rest (Some e) = (e.datum.now ≡ b.datum.now) × (e.ty.now ≡ rest)

pub record TypePast (b : Both) (r : Option Both) : Type 0 where
  pub within : NoLonger b r
  pub tells : (t : Ty) (rest : List ℕ) → FitsTy t → b.ty.now ≡ write_ty t ++ rest → Past b rest r

-- what a datum and a type of one kind are, and that their parts come next, in us and vs
pub record NoParts (d : Data) (t : Ty) (us vs rest rest' : List ℕ) : Type 0 where
  pub holds : is_of d t ≡ true
  pub after : us ≡ rest
  pub after_ty : vs ≡ rest'

pub record TwoBags (k : ℕ) (d : Data) (t : Ty) (us vs rest rest' : List ℕ) : Type 0 where
  pub ds : Datas
  pub u : Ty
  pub is : d ≡ bag ds
  pub is_ty : t ≡ a_bag u
  pub many : how_many ds ≡ k
  pub after : us ≡ write_datas ds ++ rest
  pub after_ty : vs ≡ write_ty u ++ rest'

pub record TwoRecords (k : ℕ) (d : Data) (t : Ty) (us vs rest rest' : List ℕ) : Type 0 where
  pub fs : Fields
  pub ts : Tys
  pub is : d ≡ rec fs
  pub is_ty : t ≡ a_rec ts
  pub same_names : names fs ≡ names_ty ts
  pub many : length (names fs) ≡ k
  pub after : us ≡ write_values fs ++ rest
  pub after_ty : vs ≡ write_tys ts ++ rest'

pub record TwoSides (side : Data → Data) (d : Data) (t : Ty) (us vs rest rest' : List ℕ) : Type 0 where
  pub x : Data
  pub u : Ty
  pub v : Ty
  pub is : d ≡ side x
  pub is_ty : t ≡ an_either u v
  pub after : us ≡ write_data x ++ rest
  pub after_ty : vs ≡ write_ty u ++ (write_ty v ++ rest')

abbrev pub Meeting : DataNode → Data → Ty → List ℕ → List ℕ → List ℕ → List ℕ → Type 0
Meeting dn.Nothing d t us vs rest rest' = NoParts d t us vs rest rest'
Meeting (dn.Number n) d t us vs rest rest' = NoParts d t us vs rest rest'
Meeting (dn.Truth b) d t us vs rest rest' = NoParts d t us vs rest rest'
Meeting (dn.Text n) d t us vs rest rest' = NoParts d t us vs rest rest'
Meeting (dn.Bag k) d t us vs rest rest' = TwoBags k d t us vs rest rest'
Meeting (dn.Record k) d t us vs rest rest' = TwoRecords k d t us vs rest rest'
Meeting dn.Left d t us vs rest rest' = TwoSides left d t us vs rest rest'
Meeting dn.Right d t us vs rest rest' = TwoSides right d t us vs rest rest'

abbrev pub Met : List ℕ → List ℕ → Data → Ty → Option Heads → Type 0
Met rest rest' d t None = is_of d t ≡ false
Met rest rest' d t (Some h) = Meeting h.node d t h.after.datum.now h.after.ty.now rest rest'

abbrev pub MetWithin : Both → Option Heads → Type 0
MetWithin b None = Unit {0}
MetWithin b (Some h) = NoLonger b (Some h.after)

-- whatever datum and type stand in front
pub record HeadsMet (b : Both) (r : Option Heads) : Type 0 where
  pub within : MetWithin b r
  pub tells : (d : Data) (t : Ty) (rest rest' : List ℕ) → FitsData d → FitsTy t → b.datum.now ≡ write_data d ++ rest → b.ty.now ≡ write_ty t ++ rest' → Met rest rest' d t r
