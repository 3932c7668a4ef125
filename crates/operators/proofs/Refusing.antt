-- A stop in place of nothing.
use Rattle.std.proofs.Common.{◌≡◌, Ok, Err, Result, Some, None, Option, refl}
use Rattle.std.specs.Option.{ok_or}
use Rattle.operators.specs.declared.came.Stop.{Stop}

pub stopped : {A : Type 0} (r : Option A) (s e : Stop) → ◌≡◌ {A = Result A Stop} (Err e) (ok_or r s) → (r ≡ None) × (e ≡ s)
stopped {A = A} None s e h = let z : ◌≡◌ {A = Result A Stop} (Err e) (Err s) = h in (refl, cc)
stopped {A = A} (Some x) s e h = absurd (let z : ◌≡◌ {A = Result A Stop} (Err e) (Ok x) = h in let y : ⊥ = cc in y)
