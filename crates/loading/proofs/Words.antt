-- Which words are in use, as more are taken.
use Rattle.std.proofs.Common.{ℕ, ◌+◌, ◌<◌, ◌≤◌, T, ◌⊎◌, inl, inr, arith}
use Rattle.values.specs.Memory.{Used, Under, Grown, Run}
use Rattle.values.proofs.Ranged.{ranged, ranged_old, ranged_new, ranged_split}

pub run_ranged : (u : Used) (a b n : ℕ) → a + n ≤ b → Run (ranged u a b) a n
run_ranged u a b n h = record { used = λ k p q. ranged_new u a b k p (omega arith) }

pub grown_refl : (u : Used) (a : ℕ) → Grown u u a a
grown_refl u a = record { wider = λ k h. h; fresh = λ k h. inl h }

pub grown_trans : {u w x : Used} {a b c : ℕ} → Grown u w a b → Grown w x b c → a ≤ b → b ≤ c → Grown u x a c
grown_trans {u} {w} {x} {a} {b} {c} p q h k =
    record { wider = λ i t. q.wider i (p.wider i t); fresh = λ i t. go i (q.fresh i t) }
  where
    once_more : (i : ℕ) → T (u i) ⊎ ((a ≤ i) × (i < b)) → T (u i) ⊎ ((a ≤ i) × (i < c))
    once_more i (inl t) = inl t
    once_more i (inr s) = inr (s.0, omega (arith, s.1))

    go : (i : ℕ) → T (w i) ⊎ ((b ≤ i) × (i < c)) → T (u i) ⊎ ((a ≤ i) × (i < c))
    go i (inl t) = once_more i (p.fresh i t)
    go i (inr s) = inr (omega (arith, s.0), s.1)

-- what was reserved below is taken too
pub grown_reserved : {u w : Used} {top a b : ℕ} → Grown u w a b → top ≤ a → a ≤ b → Grown u (ranged w top a) top b
grown_reserved {u} {w} {top} {a} {b} p h k =
    record { wider = λ i t. ranged_old w top a i (p.wider i t); fresh = λ i t. go i (ranged_split w top a i t) }
  where
    old : (i : ℕ) → T (u i) ⊎ ((a ≤ i) × (i < b)) → T (u i) ⊎ ((top ≤ i) × (i < b))
    old i (inl t) = inl t
    old i (inr s) = inr (omega (arith, s.0), s.1)

    go : (i : ℕ) → T (w i) ⊎ ((top ≤ i) × (i < a)) → T (u i) ⊎ ((top ≤ i) × (i < b))
    go i (inl t) = old i (p.fresh i t)
    go i (inr s) = inr (s.0, omega (arith, s.1))

-- or above
pub grown_above : {u w : Used} {top a b : ℕ} → Grown u w top a → top ≤ a → a ≤ b → Grown u (ranged w a b) top b
grown_above {u} {w} {top} {a} {b} p h k =
    record { wider = λ i t. ranged_old w a b i (p.wider i t); fresh = λ i t. go i (ranged_split w a b i t) }
  where
    old : (i : ℕ) → T (u i) ⊎ ((top ≤ i) × (i < a)) → T (u i) ⊎ ((top ≤ i) × (i < b))
    old i (inl t) = inl t
    old i (inr s) = inr (s.0, omega (arith, s.1))

    go : (i : ℕ) → T (w i) ⊎ ((a ≤ i) × (i < b)) → T (u i) ⊎ ((top ≤ i) × (i < b))
    go i (inl t) = old i (p.fresh i t)
    go i (inr s) = inr (omega (arith, s.0), s.1)

-- what is in use lies below the old top, or from a on
pub apart : {u w : Used} {top a b : ℕ} → Under u top → Grown u w a b → (k : ℕ) → T (w k) → (k < top) ⊎ ((a ≤ k) × (k < b))
apart {u} {w} {top} {a} {b} p g k t = go (g.fresh k t)
  where
    go : T (u k) ⊎ ((a ≤ k) × (k < b)) → (k < top) ⊎ ((a ≤ k) × (k < b))
    go (inl s) = inl (p.low k s)
    go (inr s) = inr s

pub under_grown : {u w : Used} {top a b : ℕ} → Under u top → Grown u w a b → top ≤ b → Under w b
under_grown {u} {w} {top} {a} {b} p g h = record { low = λ k t. go k (apart p g k t) }
  where
    go : (k : ℕ) → (k < top) ⊎ ((a ≤ k) × (k < b)) → k < b
    go k (inl t) = omega (arith, t)
    go k (inr s) = s.1
