-- Numbers put on a stack.
use Rattle.std.specs.Prelude.{◌≡◌, ℕ, ◌<◌, ◌≤◌, ◌⊎◌, List, ◌∷◌, length, drop, Some, None, Option}

-- a number stands in place of so many; it does not where there were not as many, or none of them and no room
pub record Put (ns ms : List ℕ) (parts x : ℕ) (r : Option (Unit {0})) : Type 0 where
  pub few : length ms ≤ 8200
  pub none : r ≡ None → (length ns < parts) ⊎ ((length ns ≡ 8200) × (parts ≡ 0))
  pub some : r ≡ Some tt → (parts ≤ length ns) × (ms ≡ x ∷ drop parts ns)
