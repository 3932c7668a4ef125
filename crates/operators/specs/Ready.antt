-- What an operator is given: values that stand for typed data, and where its query stands in the request's bytes.
use Rattle.std.specs.Prelude.{◌≡◌, ℕ, ◌+◌, ◌*◌, ◌≤◌, true, List, [], ◌∷◌, ◌++◌, length, drop, Result}
use Rattle.query.specs.Data.{Name, Data}
use Rattle.query.specs.Query.{Ty, Query, adding}
use Rattle.query.specs.Types.{sound, is_of}
use Rattle.format.specs.Wire.{write_query, FitsQuery}
use Rattle.values.specs.Memory.{Used, Under, Holds, Kept}
use Rattle.values.specs.Height.{height_ty}
use Rattle.values.specs.declared.value.Value.{Value}
use Rattle.bounds.specs.Names.{named}
use Rattle.operators.specs.Applied.{Made1, one_query, one_got, one_type, IsSingle, Made2, two_query, two_got, two_type, IsJoint, price_of}
use Rattle.operators.specs.Means.{Means}
use Rattle.operators.specs.Came.{Came}
use Rattle.operators.specs.declared.came.Stop.{Stop}
use Rattle.operators.specs.declared.op.Single.{Single}
use Rattle.operators.specs.declared.op.Joint.{Joint}

-- a type whose records' names are in order and among some, and that nests no deeper than a limit
pub record Fine (ns : List Name) (deep : ℕ) (t : Ty) : Type 0 where
  pub in_order : sound t ≡ true
  pub within : named ns t ≡ true
  pub shallow : height_ty t ≤ deep

-- a query stands in the request's bytes
pub record Written (bs : List ℕ) (spot : ℕ) (q : Query) : Type 0 where
  pub rest : List ℕ
  pub fits : FitsQuery q
  pub is : drop spot bs ≡ write_query q ++ rest

pub record OneReady (bs : List ℕ) (spot deep : ℕ) (s : Single) (v : Value) (m : List ℕ) (top : ℕ) : Type 0 where
  pub rate : ℕ
  pub names : List Name
  pub dear : 5 * length names + 3 ≤ rate
  pub op : Made1
  pub told : IsSingle s op
  pub part : Query
  pub written : Written bs spot (one_query op part)
  pub datum : Data
  pub of : Ty
  pub to : Ty
  pub is : is_of datum of ≡ true
  pub typed : one_type op of ≡ to ∷ []
  pub fine_of : Fine names deep of
  pub fine_to : Fine names deep to
  pub used : Used
  pub holds : Holds bs m used datum v
  pub low : Under used top
  pub room : top ≤ length m

-- The unit of work that the operator costs was paid before its part was worked out; memory that is made here is paid for by it.
pub record Ones (bs : List ℕ) (spot deep : ℕ) (s : Single) (v : Value) (m : List ℕ) (top left : ℕ) (n : List ℕ) (r : Result Came Stop) : Type 0 where
  pub kept : Kept top m n
  pub means : (g : OneReady bs spot deep s v m top) → Means bs g.rate (adding 1 (one_got g.op g.datum)) (1 + left) g.used top n r

pub record TwoReady (bs : List ℕ) (spot deep : ℕ) (j : Joint) (a b : Value) (m : List ℕ) (top : ℕ) : Type 0 where
  pub rate : ℕ
  pub names : List Name
  pub dear : 5 * length names + 3 ≤ rate
  pub op : Made2
  pub told : IsJoint j op
  pub part_1 : Query
  pub part_2 : Query
  pub written : Written bs spot (two_query op part_1 part_2)
  pub datum_1 : Data
  pub datum_2 : Data
  pub of_1 : Ty
  pub of_2 : Ty
  pub to : Ty
  pub is_1 : is_of datum_1 of_1 ≡ true
  pub is_2 : is_of datum_2 of_2 ≡ true
  pub typed : two_type op of_1 of_2 ≡ to ∷ []
  pub fine_1 : Fine names deep of_1
  pub fine_2 : Fine names deep of_2
  pub fine_to : Fine names deep to
  pub used : Used
  pub holds_1 : Holds bs m used datum_1 a
  pub holds_2 : Holds bs m used datum_2 b
  pub low : Under used top
  pub room : top ≤ length m

pub record Twos (bs : List ℕ) (spot deep : ℕ) (j : Joint) (a b : Value) (m : List ℕ) (top left : ℕ) (n : List ℕ) (r : Result Came Stop) : Type 0 where
  pub kept : Kept top m n
  pub means : (g : TwoReady bs spot deep j a b m top) → Means bs g.rate (adding (price_of j) (two_got g.op g.datum_1 g.datum_2)) (price_of j + left) g.used top n r
