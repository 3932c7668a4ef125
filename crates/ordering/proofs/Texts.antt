-- Texts: only the same are alike, the order is total, and it is the one of names in a record.
use mathlib.Core.Path.{◌≡◌, refl, sym, ◌∙◌, ap, subst}
use mathlib.Core.Bool.{Bool, true, false, ◌&&◌, ◌||◌, false≢true}
use mathlib.Core.List.{List, [], ◌∷◌}
use Prim.Native.Nat.{ℕ}
use native.Mathlib.Omega.{arith}
use lib.Dec.{ltb, eqb}
use borrow.Author.Tests.{eqb-true, lt-ltb, le-ltb, eq-eqb, ne_eqb}
use Rattle.query.specs.Data.{pick, same_text, less_text}
use Rattle.ordering.specs.Order.{before, alike, behind, then_way, flip, way_num, way_text, AlikeTextIsSame, WayTextIsLess}
use Rattle.ordering.proofs.Ways.{and_l, and_r, and_i, before≢alike, behind≢alike, alike≢before, behind≢before, then_alike_l, then_alike_r, then_alike, then_flips, then_transits, num_alike, alike_num, num_flips, num_transits, num_before, num_behind, Numbers, less, even, over, numbers}

pub alike_text : (a b : List ℕ) → way_text a b ≡ alike → a ≡ b
unfolding way_text
alike_text [] [] h = refl
alike_text [] (y ∷ ys) h = absurd (before≢alike h)
alike_text (x ∷ xs) [] h = absurd (behind≢alike h)
alike_text (x ∷ xs) (y ∷ ys) h =
    let p : x ≡ y = alike_num x y (then_alike_l (way_num x y) (way_text xs ys) h) in
    let q : xs ≡ ys = alike_text xs ys (then_alike_r (way_num x y) (way_text xs ys) h) in cc

pub text_alike : (a : List ℕ) → way_text a a ≡ alike
unfolding way_text
text_alike [] = refl
text_alike (x ∷ xs) = then_alike (way_num x x) (way_text xs xs) (num_alike x) (text_alike xs)

pub text_flips : (a b : List ℕ) → way_text b a ≡ flip (way_text a b)
unfolding way_text flip
text_flips [] [] = refl
text_flips [] (y ∷ ys) = refl
text_flips (x ∷ xs) [] = refl
text_flips (x ∷ xs) (y ∷ ys) = rw (num_flips x y, text_flips xs ys) (then_flips (way_num x y) (way_text xs ys))

pub text_transits : (a b c : List ℕ) → way_text a b ≡ before → way_text b c ≡ before → way_text a c ≡ before
unfolding way_text
text_transits [] [] c h k = absurd (alike≢before h)
text_transits [] (y ∷ ys) [] h k = absurd (behind≢before k)
text_transits [] (y ∷ ys) (z ∷ zs) h k = refl
text_transits (x ∷ xs) [] c h k = absurd (behind≢before h)
text_transits (x ∷ xs) (y ∷ ys) [] h k = absurd (behind≢before k)
text_transits (x ∷ xs) (y ∷ ys) (z ∷ zs) h k =
    then_transits
    (way_num x y)
    (way_num y z)
    (way_num x z)
    (way_text xs ys)
    (way_text ys zs)
    (way_text xs zs)
    (num_transits x y z)
    (λ e. ap (λ (n : ℕ). way_num n z) (alike_num x y e))
    (λ e. ap (λ (n : ℕ). way_num x n) (sym (alike_num y z e)))
    (λ _ _. text_transits xs ys zs)
    h
    k

-- the way of two texts from the two tests on them
pub text_tests : (a b : List ℕ) → way_text a b ≡ pick (less_text a b) before (pick (same_text a b) alike behind)
unfolding way_text less_text same_text pick then_way
text_tests [] [] = refl
text_tests [] (y ∷ ys) = refl
text_tests (x ∷ xs) [] = refl
text_tests (x ∷ xs) (y ∷ ys) = by (numbers x y) (text_tests xs ys)
  where
    by : {m n : ℕ} → Numbers m n →
        way_text xs ys ≡ pick (less_text xs ys) before (pick (same_text xs ys) alike behind) →
        then_way (way_num m n) (way_text xs ys)
        ≡ pick (ltb m n || (eqb m n && less_text xs ys)) before (pick (eqb m n && same_text xs ys) alike behind)
    by (less {m} {n} l) ih = rw (num_before m n l, lt-ltb m n l)
    by (even {n}) ih = rw (num_alike n, le-ltb n n (omega arith), eq-eqb n n refl) ih
    by (over {m} {n} l) ih = rw (num_behind m n l, le-ltb m n (omega arith), ne_eqb m n (λ e. omega arith))

pub same-text-≡ : (a b : List ℕ) → same_text a b ≡ true → a ≡ b
unfolding same_text
same-text-≡ [] [] h = refl
same-text-≡ [] (y ∷ ys) h = absurd (false≢true h)
same-text-≡ (x ∷ xs) [] h = absurd (false≢true h)
same-text-≡ (x ∷ xs) (y ∷ ys) h =
    let p : x ≡ y = eqb-true x y (and_l (eqb x y) (same_text xs ys) h) in
    let q : xs ≡ ys = same-text-≡ xs ys (and_r (eqb x y) (same_text xs ys) h) in cc

pub same_text_self : (a : List ℕ) → same_text a a ≡ true
unfolding same_text
same_text_self [] = refl
same_text_self (x ∷ xs) = and_i (eqb x x) (same_text xs xs) (eq-eqb x x refl) (same_text_self xs)

pub alike_text_is_same : AlikeTextIsSame
unfolding AlikeTextIsSame
alike_text_is_same a b = (alike_text a b, text_alike a)

less_from : (l s : Bool) → pick l before (pick s alike behind) ≡ before → l ≡ true
unfolding pick
less_from true s h = refl
less_from false true h = absurd (alike≢before h)
less_from false false h = absurd (behind≢before h)

pub way_text_is_less : WayTextIsLess
unfolding WayTextIsLess pick
way_text_is_less a b = (
  λ h. less_from (less_text a b) (same_text a b) (sym (text_tests a b) ∙ h),
  λ h. text_tests a b ∙ rw h,
  λ h. subst (λ (c : List ℕ). same_text a c ≡ true) (alike_text a b h) (same_text_self a),
  λ h. subst (λ (c : List ℕ). way_text a c ≡ alike) (same-text-≡ a b h) (text_alike a),
)
