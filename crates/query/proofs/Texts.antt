-- Texts: those told to be the same are the same, and which comes first is an order.
use mathlib.Core.Path.{◌≡◌, refl, sym, ◌∙◌, ap₂}
use mathlib.Core.Bool.{Bool, true, false, true≢false, false≢true}
use mathlib.Core.List.{List, [], ◌∷◌}
use Prim.Native.Nat.{ℕ}
use native.Mathlib.Omega.{arith}
use lib.Dec.{eqb}
use Rattle.query.specs.Data.{same_text, less_text}
use Rattle.query.proofs.Tests.{and_l, and_r, and_i, eqb_true, eqb_self}

pub same_text_true : (s t : List ℕ) → same_text s t ≡ true → s ≡ t
unfolding same_text
same_text_true [] [] e = refl
same_text_true [] (y ∷ ys) e = absurd (false≢true e)
same_text_true (x ∷ xs) [] e = absurd (false≢true e)
same_text_true (x ∷ xs) (y ∷ ys) e =
    ap₂ (λ (a : ℕ) (l : List ℕ). a ∷ l) (eqb_true x y (and_l (eqb x y) (same_text xs ys) e)) (same_text_true xs ys (and_r (eqb x y) (same_text xs ys) e))

pub same_text_self : (s : List ℕ) → same_text s s ≡ true
unfolding same_text
same_text_self [] = refl
same_text_self (x ∷ xs) = and_i (eqb x x) (same_text xs xs) (eqb_self x) (same_text_self xs)

pub less_else : (s t : List ℕ) → same_text s t ≡ false → less_text s t ≡ false → less_text t s ≡ true
unfolding same_text less_text
less_else [] [] p q = absurd (true≢false p)
less_else [] (y ∷ ys) p q = absurd (true≢false q)
less_else (x ∷ xs) [] p q = refl
less_else (x ∷ xs) (y ∷ ys) p q = let ih = less_else xs ys in grind arith

pub less_self : (s : List ℕ) → less_text s s ≡ false
unfolding less_text
less_self [] = refl
less_self (x ∷ xs) = let ih = less_self xs in grind arith

pub less_trans : (s t u : List ℕ) → less_text s t ≡ true → less_text t u ≡ true → less_text s u ≡ true
unfolding less_text
less_trans [] [] u p q = absurd (false≢true p)
less_trans [] (y ∷ t) [] p q = absurd (false≢true q)
less_trans [] (y ∷ t) (z ∷ u) p q = refl
less_trans (x ∷ s) [] u p q = absurd (false≢true p)
less_trans (x ∷ s) (y ∷ t) [] p q = absurd (false≢true q)
less_trans (x ∷ s) (y ∷ t) (z ∷ u) p q = let ih = less_trans s t u in grind arith

pub less_differs : (s t : List ℕ) → less_text s t ≡ true → same_text s t ≡ false
less_differs s t h = by (same_text s t) refl
  where
    by : (b : Bool) → same_text s t ≡ b → b ≡ false
    by true e = absurd (true≢false (sym (rw (same_text_true s t e) at h) ∙ less_self t))
    by false e = refl
