-- Facts on ways, on going first by one and then by another, and on the ways of numbers and truths.
use mathlib.Core.Path.{◌≡◌, refl, sym, ◌∙◌, ap}
use mathlib.Core.Bool.{Bool, true, false, ◌&&◌, false≢true}
use Prim.Native.Nat.{ℕ, ◌≤◌, ◌<◌}
use native.Mathlib.Omega.{arith}
use lib.Dec.{ltb, eqb}
use borrow.Author.Tests.{ltb-true, ltb-false, eqb-true, eqb-false, lt-ltb, le-ltb, eq-eqb, ne_eqb}
use Rattle.query.specs.Data.{pick}
use Rattle.ordering.specs.Order.{Way, before, alike, behind, then_way, flip, way_num, way_truth}

pub and_l : (a b : Bool) → (a && b) ≡ true → a ≡ true
and_l true b h = refl
and_l false b h = h

pub and_r : (a b : Bool) → (a && b) ≡ true → b ≡ true
and_r true b h = h
and_r false b h = absurd (false≢true h)

pub and_i : (a b : Bool) → a ≡ true → b ≡ true → (a && b) ≡ true
and_i true b h k = k
and_i false b h k = h

pub before≢alike : before ≡ alike → ⊥
before≢alike h = let z : ◌≡◌ {A = ℕ} 0 1 = cc in omega arith

pub behind≢alike : behind ≡ alike → ⊥
behind≢alike h = let z : ◌≡◌ {A = ℕ} 0 1 = cc in omega arith

pub alike≢before : alike ≡ before → ⊥
alike≢before h = let z : ◌≡◌ {A = ℕ} 0 1 = cc in omega arith

pub behind≢before : behind ≡ before → ⊥
behind≢before h = let z : ◌≡◌ {A = ℕ} 0 1 = cc in omega arith

-- first by one, then by another
pub then_alike_l : (v w : Way) → then_way v w ≡ alike → v ≡ alike
unfolding then_way
then_alike_l before w h = h
then_alike_l alike w h = refl
then_alike_l behind w h = h

pub then_alike_r : (v w : Way) → then_way v w ≡ alike → w ≡ alike
unfolding then_way
then_alike_r before w h = absurd (before≢alike h)
then_alike_r alike w h = h
then_alike_r behind w h = absurd (behind≢alike h)

pub then_alike : (v w : Way) → v ≡ alike → w ≡ alike → then_way v w ≡ alike
unfolding then_way
then_alike before w h k = h
then_alike alike w h k = k
then_alike behind w h k = h

pub then_flips : (v w : Way) → then_way (flip v) (flip w) ≡ flip (then_way v w)
unfolding then_way flip
then_flips before w = refl
then_flips alike w = refl
then_flips behind w = refl

-- three things compared: what is alike may stand for one another
pub then_transits : (p q r p' q' r' : Way) →
    (p ≡ before → q ≡ before → r ≡ before) → (p ≡ alike → r ≡ q) → (q ≡ alike → r ≡ p) →
    (p ≡ alike → q ≡ alike → p' ≡ before → q' ≡ before → r' ≡ before) →
    then_way p p' ≡ before → then_way q q' ≡ before → then_way r r' ≡ before
unfolding then_way
then_transits before before r p' q' r' t a b s h k = ap (λ (v : Way). then_way v r') (t refl refl)
then_transits before alike r p' q' r' t a b s h k = ap (λ (v : Way). then_way v r') (b refl)
then_transits before behind r p' q' r' t a b s h k = absurd (behind≢before k)
then_transits alike before r p' q' r' t a b s h k = ap (λ (v : Way). then_way v r') (a refl)
then_transits alike alike r p' q' r' t a b s h k = ap (λ (v : Way). then_way v r') (a refl) ∙ s refl refl h k
then_transits alike behind r p' q' r' t a b s h k = absurd (behind≢before k)
then_transits behind q r p' q' r' t a b s h k = absurd (behind≢before h)

-- numbers
pub num_before : (m n : ℕ) → m < n → way_num m n ≡ before
unfolding way_num pick
num_before m n h = rw (lt-ltb m n h)

pub num_alike : (n : ℕ) → way_num n n ≡ alike
unfolding way_num pick
num_alike n = rw (le-ltb n n (omega arith), eq-eqb n n refl)

pub num_behind : (m n : ℕ) → n < m → way_num m n ≡ behind
unfolding way_num pick
num_behind m n h = rw (le-ltb m n (omega arith), ne_eqb m n (λ e. omega arith))

-- a number is less than another, the same, or more
pub data Numbers : ℕ → ℕ → Type 0 where
  less : {m n : ℕ} → m < n → Numbers m n
  even : {n : ℕ} → Numbers n n
  over : {m n : ℕ} → n < m → Numbers m n

pub numbers : (m n : ℕ) → Numbers m n
numbers m n = by (ltb m n) (eqb m n) refl refl
  where
    by : (a b : Bool) → ltb m n ≡ a → eqb m n ≡ b → Numbers m n
    by true b p q = less (ltb-true m n p)
    by false true p q = rw (eqb-true m n q) even
    by false false p q =
        let l : n ≤ m = ltb-false m n p in let u : m ≡ n → ⊥ = eqb-false m n q in over (omega arith)

pub before_num : (m n : ℕ) → way_num m n ≡ before → m < n
before_num m n h = by (numbers m n) h
  where
    by : {a b : ℕ} → Numbers a b → way_num a b ≡ before → a < b
    by (less l) e = l
    by (even {n = a}) e = absurd (alike≢before (sym (num_alike a) ∙ e))
    by (over {m = a} {n = b} l) e = absurd (behind≢before (sym (num_behind a b l) ∙ e))

pub alike_num : (m n : ℕ) → way_num m n ≡ alike → m ≡ n
alike_num m n h = by (numbers m n) h
  where
    by : {a b : ℕ} → Numbers a b → way_num a b ≡ alike → a ≡ b
    by (less {m = a} {n = b} l) e = absurd (before≢alike (sym (num_before a b l) ∙ e))
    by even e = refl
    by (over {m = a} {n = b} l) e = absurd (behind≢alike (sym (num_behind a b l) ∙ e))

pub num_flips : (m n : ℕ) → way_num n m ≡ flip (way_num m n)
unfolding flip
num_flips m n = by (numbers m n)
  where
    by : {a b : ℕ} → Numbers a b → way_num b a ≡ flip (way_num a b)
    by (less {m = a} {n = b} l) = rw (num_before a b l, num_behind b a l)
    by (even {n = a}) = rw (num_alike a)
    by (over {m = a} {n = b} l) = rw (num_behind a b l, num_before b a l)

pub num_transits : (a b c : ℕ) → way_num a b ≡ before → way_num b c ≡ before → way_num a c ≡ before
num_transits a b c h k =
    let l : a < b = before_num a b h in let m : b < c = before_num b c k in num_before a c (omega arith)

-- truths
pub alike_truth : (a b : Bool) → way_truth a b ≡ alike → a ≡ b
unfolding way_truth
alike_truth true true h = refl
alike_truth true false h = absurd (behind≢alike h)
alike_truth false true h = absurd (before≢alike h)
alike_truth false false h = refl

pub truth_alike : (a : Bool) → way_truth a a ≡ alike
unfolding way_truth
truth_alike true = refl
truth_alike false = refl

pub truth_flips : (a b : Bool) → way_truth b a ≡ flip (way_truth a b)
unfolding way_truth flip
truth_flips true true = refl
truth_flips true false = refl
truth_flips false true = refl
truth_flips false false = refl

pub truth_transits : (a b c : Bool) → way_truth a b ≡ before → way_truth b c ≡ before → way_truth a c ≡ before
unfolding way_truth
truth_transits true true c h k = absurd (alike≢before h)
truth_transits true false c h k = absurd (behind≢before h)
truth_transits false true true h k = absurd (alike≢before k)
truth_transits false true false h k = absurd (behind≢before k)
truth_transits false false c h k = absurd (alike≢before h)
