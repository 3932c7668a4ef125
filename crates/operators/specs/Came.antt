-- What working out hands on, with where free memory begins after it.
use Rattle.std.specs.Prelude.{ℕ, Ok, Err, Result}
use Rattle.values.specs.declared.value.Value.{Value}
use Rattle.operators.specs.declared.came.Came as handed
use Rattle.operators.specs.declared.came.Stop.{Stop}

pub record Came : Type 0 where
  pub value : Value
  pub top : ℕ
  pub left : ℕ

-- the same with where free memory begins
abbrev pub came_at : ℕ → handed.Came → Came
came_at top c = record { value = c.value; top = top; left = c.left }

abbrev pub came_to : ℕ → Result handed.Came Stop → Result Came Stop
came_to top (Ok c) = Ok (came_at top c)
came_to top (Err s) = Err s
