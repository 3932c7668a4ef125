-- Which words are in use where something was made: those that were, and a range.
use Rattle.std.proofs.Common.{ℕ, ◌+◌, ◌<◌, ◌≤◌, Bool, true, false, cond, T, ltb, leb, ◌⊎◌, inl, inr, arith, le→leb, ltb→lt, lt→ltb, leb→le}
use Rattle.values.specs.Memory.{Used, Grown, Run}

or_first : (x y : Bool) → T x → T (cond x true y)
or_first true y t = tt
or_first false y t = elim t [ ]

or_second : (x y : Bool) → T y → T (cond x true y)
or_second true y t = tt
or_second false y t = t

or_split : (x y : Bool) → T (cond x true y) → T x ⊎ T y
or_split true y t = inl tt
or_split false y t = inr t

and_both : (x y : Bool) → T x → T y → T (cond x y false)
and_both true y s t = t
and_both false y s t = elim s [ ]

and_split : (x y : Bool) → T (cond x y false) → T x × T y
and_split true y t = (tt, t)
and_split false y t = elim t [ ]

-- those in use, and a range
pub ranged : Used → ℕ → ℕ → Used
ranged u a b k = cond (u k) true (cond (leb a k) (ltb k b) false)

pub ranged_old : (u : Used) (a b k : ℕ) → T (u k) → T (ranged u a b k)
unfolding ranged
ranged_old u a b k t = or_first (u k) _ t

pub ranged_new : (u : Used) (a b k : ℕ) → a ≤ k → k < b → T (ranged u a b k)
unfolding ranged
ranged_new u a b k p q = or_second (u k) _ (and_both (leb a k) (ltb k b) (le→leb a k p) (lt→ltb k b q))

pub ranged_split : (u : Used) (a b k : ℕ) → T (ranged u a b k) → T (u k) ⊎ ((a ≤ k) × (k < b))
unfolding ranged
ranged_split u a b k t = go (or_split (u k) _ t)
  where
    go : T (u k) ⊎ T (cond (leb a k) (ltb k b) false) → T (u k) ⊎ ((a ≤ k) × (k < b))
    go (inl s) = inl s
    go (inr s) = let p = and_split (leb a k) (ltb k b) s in inr (leb→le a k p.0, ltb→lt k b p.1)

pub grown_ranged : (u : Used) (a b : ℕ) → Grown u (ranged u a b) a b
grown_ranged u a b = record { wider = λ k t. ranged_old u a b k t; fresh = λ k t. ranged_split u a b k t }

pub run_ranged : (u : Used) (a b start count : ℕ) → a ≤ start → start + count ≤ b → Run (ranged u a b) start count
run_ranged u a b start count p q = record { used = λ k l h. ranged_new u a b k (omega arith) (omega arith) }
