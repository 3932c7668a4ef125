-- What a call's `.ok()` hands on.
use Rattle.std.proofs.Common.{◌≡◌, Some, None, Result, Ok, Err, subst}
use Rattle.std.specs.Prelude.{MatchResult}
use Rattle.std.specs.Result.{result_ok}

module _ {T E : Type 0} (P : T → Type 0) (Q : E → Type 0) where
  pub taken : (r : Result T E) (x : T) → Some x ≡ result_ok r → MatchResult r P Q → P x
  taken (Ok y) x e m = let z : y ≡ x = cc in subst P z m
  taken (Err p) x e m = absurd cc

  pub not_taken : (r : Result T E) → None ≡ result_ok r → MatchResult r P Q → (p : E) × Q p
  not_taken (Ok y) e m = absurd cc
  not_taken (Err p) e m = (p, m)
