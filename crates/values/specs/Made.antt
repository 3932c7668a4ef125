-- Something that was made in memory: its value, and where free memory begins after it.
use Rattle.std.specs.Prelude.{ℕ}
use Rattle.values.specs.declared.value.Value.{Value}

pub record Made : Type 0 where
  pub value : Value
  pub top : ℕ
