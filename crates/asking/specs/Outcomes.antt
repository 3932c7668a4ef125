-- What an outcome says of what a query comes to.
use Rattle.std.specs.Prelude.{◌≡◌, ℕ, ◌+◌, ◌*◌, ◌<◌, ◌≤◌, List, [], ◌∷◌, length, Ok, Err, Result}
use Rattle.query.specs.Data.{Data}
use Rattle.query.specs.Query.{Got, eval}
use Rattle.query.specs.Promise.{size_out}
use Rattle.format.specs.Wire.{write_data}
use Rattle.values.specs.Memory.{Used, Under, Holds}
use Rattle.values.specs.declared.value.Value.TheVariants.{Nothing}
use Rattle.operators.specs.Means.{Comes}
use Rattle.operators.specs.Came.{Came}
use Rattle.operators.specs.declared.came.Stop.{Stop}
use Rattle.operators.specs.declared.came.Stop.TheVariants.{Tired, NoRoom, Wrong}
use Rattle.eval.specs.Ready.{Setting, Ready}
use Rattle.asking.specs.declared.outcome.Outcome.{Outcome}

-- A datum was written, and what is not left of the budget was looked at; or memory ends before the datum's bytes do.
abbrev pub PutsOut : ℕ → Came → ℕ → Data → Result Outcome Stop → Type 0
PutsOut end c budget d (Ok o) = (o.words.now ≡ write_data d) × (o.looked + c.left ≡ budget)
PutsOut end c budget d (Err Tired) = ⊥
PutsOut end c budget d (Err NoRoom) = end < c.top + length (write_data d)
PutsOut end c budget d (Err Wrong) = ⊥

-- whatever datum the value stands for
pub record WrittenOut (bs m : List ℕ) (c : Came) (budget : ℕ) (r : Result Outcome Stop) : Type 0 where
  pub means : (d : Data) (u : Used) → Holds bs m u d c.value → Under u c.top → PutsOut (length m) c budget d r

-- what came is written out, and was looked at within the budget
pub record CameOut (g : Got) (budget : ℕ) (ws : List ℕ) (looked : ℕ) : Type 0 where
  pub datum : Data
  pub is : g.is ≡ datum ∷ []
  pub words : ws ≡ write_data datum
  pub counted : looked ≡ g.work
  pub within : g.work ≤ budget

-- memory ends too soon: for what was worked out with `spent` of the work, or for the bytes of what comes out
pub record Lacking (rate : ℕ) (g : Got) (budget old end : ℕ) : Type 0 where
  pub spent : ℕ
  pub part : spent ≤ g.work
  pub afford : spent ≤ budget
  pub lacks : end < old + (rate * spent + 9 * size_out g.is)

abbrev pub OutOf : ℕ → Got → ℕ → ℕ → ℕ → Result Outcome Stop → Type 0
OutOf rate g budget old end (Ok o) = CameOut g budget o.words.now o.looked
OutOf rate g budget old end (Err Tired) = Comes g → budget < g.work
OutOf rate g budget old end (Err NoRoom) = Comes g → Lacking rate g budget old end
OutOf rate g budget old end (Err Wrong) = g.is ≡ []

-- whichever query is ready to be worked out
pub record WorksOut (S : Setting) (qs : List ℕ) (m : List ℕ) (top budget : ℕ) (r : Result Outcome Stop) : Type 0 where
  pub means : (g : Ready S qs 0 Nothing Nothing m top) → OutOf g.world.rate (eval g.world.tables g.query g.along g.looked) budget top (length m) r
