-- What an outcome says of what something comes to: the budget spent equals what was looked at, and memory is paid for by work.
use Rattle.std.specs.Prelude.{◌≡◌, ℕ, ◌+◌, ◌*◌, ◌<◌, ◌≤◌, List, [], ◌∷◌, length, Ok, Err, Result}
use Rattle.query.specs.Data.{Data}
use Rattle.query.specs.Query.{Got}
use Rattle.values.specs.Memory.{Used, Grown, Holds}
use Rattle.operators.specs.Came.{Came}
use Rattle.operators.specs.declared.came.Stop.{Stop}
use Rattle.operators.specs.declared.came.Stop.TheVariants.{Tired, NoRoom, Wrong}

-- A value came: it stands for what was asked, in words used before or above the old top; what was looked at was paid,
-- and no more memory was taken than `rate` words for each unit of work.
pub record CameTo (bs : List ℕ) (rate : ℕ) (g : Got) (budget : ℕ) (u : Used) (old : ℕ) (m : List ℕ) (c : Came) : Type 0 where
  pub datum : Data
  pub is : g.is ≡ datum ∷ []
  pub now_used : Used
  pub grown : Grown u now_used old c.top
  pub holds : Holds bs m now_used datum c.value
  pub paid : g.work + c.left ≡ budget
  pub above : old ≤ c.top
  pub within : c.top ≤ length m
  pub thrifty : c.top ≤ old + rate * g.work

-- it comes to something
abbrev pub Comes : Got → Type 0
Comes g = g.is ≡ [] → ⊥

-- memory ends too soon: `spent` units of work were paid for, and these are part of the work and of the budget
pub record Short (rate : ℕ) (g : Got) (budget old end : ℕ) : Type 0 where
  pub spent : ℕ
  pub part : spent ≤ g.work
  pub afford : spent ≤ budget
  pub lacks : end < old + rate * spent

-- what a stop says
abbrev pub Stopped : ℕ → Got → ℕ → ℕ → ℕ → Stop → Type 0
Stopped rate g budget old end Tired = Comes g → budget < g.work
Stopped rate g budget old end NoRoom = Comes g → Short rate g budget old end
Stopped rate g budget old end Wrong = g.is ≡ []

abbrev pub Means : List ℕ → ℕ → Got → ℕ → Used → ℕ → List ℕ → Result Came Stop → Type 0
Means bs rate g budget u old m (Ok c) = CameTo bs rate g budget u old m c
Means bs rate g budget u old m (Err s) = Stopped rate g budget old (length m) s
