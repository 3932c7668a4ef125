-- What a call's `.ok()` hands on, and what `!=` says of bytes.
use Rattle.std.proofs.Common.{◌≡◌, ℕ, Bool, true, false, not, List, Some, None, Result, Ok, Err, sym, ap, ◌∙◌, subst, refl, true≢false}
use Rattle.std.specs.Prelude.{MatchResult}
use Rattle.std.specs.Result.{result_ok}
use Rattle.std.specs.Str.{bytes_eq}
use Rattle.std.proofs.lemmas.Slice.Eq.{bytes_eq-Decides}

module _ {T E : Type 0} (P : T → Type 0) (Q : E → Type 0) where
  pub taken : (r : Result T E) (x : T) → Some x ≡ result_ok r → MatchResult r P Q → P x
  taken (Ok y) x e m = let z : y ≡ x = cc in subst P z m
  taken (Err p) x e m = absurd cc

  pub not_taken : (r : Result T E) → None ≡ result_ok r → MatchResult r P Q → (p : E) × Q p
  not_taken (Ok y) e m = absurd cc
  not_taken (Err p) e m = (p, m)

pub differ : (xs ys : List ℕ) (r : Bool) → r ≡ not (bytes_eq xs ys) → r ≡ true → xs ≡ ys → ⊥
differ xs ys r e t q = true≢false (sym t ∙ e ∙ ap not ((bytes_eq-Decides xs ys).1 q))

pub alike : (xs ys : List ℕ) (r : Bool) → r ≡ not (bytes_eq xs ys) → r ≡ false → xs ≡ ys
alike xs ys r e f = (bytes_eq-Decides xs ys).0 (not_false (bytes_eq xs ys) (sym e ∙ f))
  where
    not_false : (b : Bool) → not b ≡ false → b ≡ true
    not_false true g = refl
    not_false false g = sym g
