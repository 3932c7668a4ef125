-- The library's orders are the ways of the definition, and one step of a comparison.
use Rattle.std.proofs.Common.{◌≡◌, ℕ, ◌<◌, Bool, true, false, List, [], ◌∷◌, sym, refl, ◌∙◌, subst, ap₂}
use mathlib.Core.Bool.{false≢true}
use Rattle.std.specs.declared.cmp.Ordering.{Ordering}
use Rattle.std.specs.declared.cmp.Ordering.TheVariants.{Less, Equal, Greater}
use Rattle.std.specs.Ordering.{is_ne, ordering_then, nat_cmp, bool_cmp, MatchOrdering}
use Rattle.std.specs.Cmp.{ranks}
use Rattle.std.specs.Cmp.Lexicographic.{slice_cmp}
use Rattle.ordering.specs.Order.{Way, before, alike, behind, then_way, way_num, way_truth, way_text}
use Rattle.ordering.proofs.Ways.{num_before, num_alike, num_behind}
use Rattle.compare.specs.Compare.{stands}

pub way_of_numbers : (x y : ℕ) → stands (nat_cmp x y) ≡ way_num x y
way_of_numbers x y = by (nat_cmp x y) (ranks x y)
  where
    by : (o : Ordering) → MatchOrdering o (x < y) (x ≡ y) (y < x) → stands o ≡ way_num x y
    by Less r = sym (num_before x y r)
    by Equal r = subst (λ (n : ℕ). alike ≡ way_num x n) r (sym (num_alike x))
    by Greater r = sym (num_behind x y r)

pub way_of_truths : (x y : Bool) → stands (bool_cmp x y) ≡ way_truth x y
unfolding way_truth
way_of_truths true true = refl
way_of_truths true false = refl
way_of_truths false true = refl
way_of_truths false false = refl

way_of_both : (o p : Ordering) → stands (ordering_then o p) ≡ then_way (stands o) (stands p)
unfolding then_way
way_of_both Less p = refl
way_of_both Equal p = refl
way_of_both Greater p = refl

pub way_of_bytes : (xs ys : List ℕ) → stands (slice_cmp nat_cmp xs ys) ≡ way_text xs ys
unfolding way_text
way_of_bytes [] [] = refl
way_of_bytes [] (y ∷ ys) = refl
way_of_bytes (x ∷ xs) [] = refl
way_of_bytes (x ∷ xs) (y ∷ ys) =
    way_of_both (nat_cmp x y) (slice_cmp nat_cmp xs ys) ∙ ap₂ (λ (v w : Way). then_way v w) (way_of_numbers x y) (way_of_bytes xs ys)

-- an outcome that is not alike is that of the whole
pub stops : (o : Ordering) (v w : Way) → stands o ≡ v → true ≡ is_ne o → stands o ≡ then_way v w
unfolding then_way
stops Less v w e h = subst (λ (x : Way). before ≡ then_way x w) e refl
stops Equal v w e h = absurd (false≢true (sym h))
stops Greater v w e h = subst (λ (x : Way). behind ≡ then_way x w) e refl

-- after one that is alike the rest decides
pub goes_on : (o : Ordering) (v w : Way) → stands o ≡ v → false ≡ is_ne o → then_way v w ≡ w
unfolding then_way
goes_on Less v w e h = absurd (false≢true h)
goes_on Equal v w e h = subst (λ (x : Way). then_way x w ≡ w) e refl
goes_on Greater v w e h = absurd (false≢true h)
