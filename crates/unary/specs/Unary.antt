-- What operators on one value promise, told for whatever datum the value stands for. A unit of work for the operator was paid before.
use Rattle.std.specs.Prelude.{◌≡◌, ℕ, ◌+◌, ◌*◌, ◌≤◌, List, [], ◌∷◌, length, Result}
use Rattle.query.specs.Data.{Name, Data, rec, left, right, Fields}
use Rattle.query.specs.Query.{Op1, distinct, project, Got, came, adding, apply1}
use Rattle.values.specs.Memory.{Used, Under, Run, Spelled, Holds, Kept, loaded}
use Rattle.values.specs.Height.{height}
use Rattle.values.specs.declared.value.Place.{Place}
use Rattle.values.specs.declared.value.Value.{Value}
use Rattle.records.specs.Parts.{how_many_fields}
use Rattle.records.specs.Records.{NamesStand}
use Rattle.operators.specs.Means.{Means}
use Rattle.operators.specs.Came.{Came}
use Rattle.operators.specs.declared.came.Stop.{Stop}

-- a value stands for some datum, in words that are in use below a top
pub record Lies (v : Value) (m : List ℕ) (top : ℕ) : Type 0 where
  pub bytes : List ℕ
  pub used : Used
  pub datum : Data
  pub holds : Holds bytes m used datum v
  pub low : Under used top
  pub room : top ≤ length m

-- it stands for this one, and a unit of work pays for a slot at least
pub record Given (bs : List ℕ) (rate : ℕ) (u : Used) (d : Data) (v : Value) (m : List ℕ) (top : ℕ) : Type 0 where
  pub dear : 3 ≤ rate
  pub holds : Holds bs m u d v
  pub low : Under u top
  pub room : top ≤ length m

-- a record that comes is paid for by a unit of work
abbrev pub PaysFor : ℕ → Got → Type 0
PaysFor rate g = (fs : Fields) → g.is ≡ rec fs ∷ [] → 5 * how_many_fields fs ≤ rate

-- what comes of a datum
pub record Turns (f : Data → Got) (v : Value) (m : List ℕ) (top budget : ℕ) (n : List ℕ) (r : Result Came Stop) : Type 0 where
  pub kept : Kept top m n
  pub means : (bs : List ℕ) (rate : ℕ) (u : Used) (d : Data) → Given bs rate u d v m top → Means bs rate (adding 1 (f d)) (1 + budget) u top n r

-- each thing of a bag once, where the bag nests no deeper than so much
pub record TurnsOnce (bs : List ℕ) (deep : ℕ) (v : Value) (m : List ℕ) (top budget : ℕ) (n : List ℕ) (r : Result Came Stop) : Type 0 where
  pub kept : Kept top m n
  pub means : (rate : ℕ) (u : Used) (d : Data) → Given bs rate u d v m top → height d ≤ deep → Means bs rate (adding 1 (apply1 distinct d)) (1 + budget) u top n r

-- what comes of a datum by a name that stands in the request's bytes
pub record TurnsByName (o : Name → Op1) (bs : List ℕ) (q : Place) (v : Value) (m : List ℕ) (top budget : ℕ) (n : List ℕ) (r : Result Came Stop) : Type 0 where
  pub kept : Kept top m n
  pub means : (a : Name) (rate : ℕ) (u : Used) (d : Data) → Spelled bs a q.start q.count → Given bs rate u d v m top → PaysFor rate (apply1 (o a) d) →
      Means bs rate (adding 1 (apply1 (o a) d)) (1 + budget) u top n r

-- and by as many names
pub record TurnsByNames (bs : List ℕ) (at k : ℕ) (v : Value) (m : List ℕ) (top budget : ℕ) (n : List ℕ) (r : Result Came Stop) : Type 0 where
  pub kept : Kept top m n
  pub means : (ns : List Name) (rate : ℕ) (u : Used) (d : Data) → NamesStand bs at k ns → Given bs rate u d v m top → PaysFor rate (apply1 (project ns) d) →
      Means bs rate (adding 1 (apply1 (project ns) d)) (1 + budget) u top n r

-- what is told of a slot's place holds a datum that is made of the slot's
pub record Sides (told : ℕ → Value → Type 0) (on : Data → Data) : Type 0 where
  pub holds : (bs m : List ℕ) (u : Used) (at : ℕ) (r : Value) (d : Data) → told at r → Run u at 3 → Holds bs m u d (loaded m at) → Holds bs m u (on d) r

-- a datum on the left, and on the right
abbrev pub to_left : Data → Got
to_left d = came 0 (left d)

abbrev pub to_right : Data → Got
to_right d = came 0 (right d)
