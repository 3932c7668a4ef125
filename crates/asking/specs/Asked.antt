-- The promise of asking: what the query comes to within the budget; tired only where it looks at more; no room only where less was lent than is enough.
use Rattle.std.specs.Prelude.{ℕ, ◌<◌, List, Ok, Err, Result}
use Rattle.query.specs.Query.{Query, Tables, asked}
use Rattle.query.specs.Types.{Schema}
use Rattle.query.specs.Promise.{enough_to_ask}
use Rattle.format.specs.declared.node.Ask.{Ask}
use Rattle.operators.specs.declared.came.Stop.{Stop}
use Rattle.operators.specs.declared.came.Stop.TheVariants.{Tired, NoRoom, Wrong}
use Rattle.asking.specs.Passed.{Passed}
use Rattle.asking.specs.Outcomes.{CameOut}
use Rattle.asking.specs.declared.outcome.Outcome.{Outcome}

abbrev pub Told : Schema → Tables → Query → ℕ → ℕ → Result Outcome Stop → Type 0
Told ss ts q budget lent (Ok o) = CameOut (asked ts q) budget o.words.now o.looked
Told ss ts q budget lent (Err Tired) = budget < (asked ts q).work
Told ss ts q budget lent (Err NoRoom) = lent < enough_to_ask ss ts q budget
Told ss ts q budget lent (Err Wrong) = ⊥

-- whatever was asked
pub record Tells (xs g : List ℕ) (a : Ask) (lent : ℕ) (r : Result Outcome Stop) : Type 0 where
  pub means : (p : Passed xs g a) → Told p.schema p.tables p.query a.work lent r
