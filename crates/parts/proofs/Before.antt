-- Which of two strings of bytes comes first, by their first bytes.
use Rattle.std.proofs.Common.{◌≡◌, ℕ, true, false, List, ◌∷◌, Ordering, nat_cmp, arith}
use Rattle.std.specs.Ordering.{MatchOrdering}
use Rattle.std.proofs.lemmas.Bool.Decides.{nat_tests}
use Rattle.query.specs.Data.{less_text}

pub less_more : (x y : ℕ) (xs ys : List ℕ) (o : Ordering) → o ≡ nat_cmp x y → MatchOrdering o (less_text (x ∷ xs) (y ∷ ys) ≡ true) (less_text (x ∷ xs) (y ∷ ys) ≡ less_text xs ys) (less_text (x ∷ xs) (y ∷ ys) ≡ false)
unfolding less_text
less_more = grind (arith, nat_tests)
