-- What is known where `ok()` gave something, and where it gave nothing; and of a part from the front.
use Rattle.std.proofs.Common.{◌≡◌, ℕ, ◌-◌, List, take, ap, ◌∙◌, Some, None, Result, Ok, Err, MatchResult, subst, arith}
use Rattle.std.specs.Result.{result_ok}
use Rattle.std.specs.List.{slice_range}

pub ok_some : {A E : Type 0} (P : A → Type 0) (Q : E → Type 0) (r : Result A E) (x : A) → Some x ≡ result_ok r → MatchResult r P Q → P x
ok_some {A} {E} P Q r x e m = go r e m
  where
    go : (r : Result A E) → Some x ≡ result_ok r → MatchResult r P Q → P x
    go (Ok y) e m = let q : y ≡ x = cc in subst P q m
    go (Err y) e m = let z : ◌≡◌ {A = ℕ} 0 1 = cc in absurd (omega arith)

pub ok_none : {A E : Type 0} (P : A → Type 0) (Q : E → Type 0) (r : Result A E) → None ≡ result_ok r → MatchResult r P Q → (x : E) × Q x
ok_none {A} {E} P Q r e m = go r e m
  where
    go : (r : Result A E) → None ≡ result_ok r → MatchResult r P Q → (x : E) × Q x
    go (Ok y) e m = let z : ◌≡◌ {A = ℕ} 0 1 = cc in absurd (omega arith)
    go (Err y) e m = (y, m)

pub front : (xs ys : List ℕ) (k : ℕ) → ys ≡ slice_range xs 0 k → ys ≡ take k xs
front xs ys k e = e ∙ ap (λ z. take z xs) (all k)
  where
    all : (k : ℕ) → k - 0 ≡ k
    all k = omega arith
