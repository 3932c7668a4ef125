-- Words in use: they stay, and more come above.
use Rattle.std.proofs.Common.{ℕ, ◌<◌, ◌≤◌, T, ◌⊎◌, inl, inr, arith}
use Rattle.values.specs.Memory.{Used, Under, Grown}

pub grown_refl : (u : Used) (a : ℕ) → Grown u u a a
grown_refl u a = record { wider = λ k h. h; fresh = λ k h. inl h }

pub grown_trans : {u w x : Used} {a b c : ℕ} → Grown u w a b → Grown w x b c → a ≤ b → b ≤ c → Grown u x a c
grown_trans {u} {w} {x} {a} {b} {c} p q h k = record { wider = λ i t. q.wider i (p.wider i t); fresh = λ i t. go i (q.fresh i t) }
  where
    once_more : (i : ℕ) → T (u i) ⊎ ((a ≤ i) × (i < b)) → T (u i) ⊎ ((a ≤ i) × (i < c))
    once_more i (inl t) = inl t
    once_more i (inr s) = inr (s.0, omega (arith, s.1))

    go : (i : ℕ) → T (w i) ⊎ ((b ≤ i) × (i < c)) → T (u i) ⊎ ((a ≤ i) × (i < c))
    go i (inl t) = once_more i (p.fresh i t)
    go i (inr s) = inr (omega (arith, s.0), s.1)

-- the same, seen from further apart
pub grown_wide : {u w : Used} {a b c e : ℕ} → Grown u w a b → c ≤ a → b ≤ e → Grown u w c e
grown_wide {u} {w} {a} {b} {c} {e} p h k = record { wider = p.wider; fresh = λ i t. go i (p.fresh i t) }
  where
    go : (i : ℕ) → T (u i) ⊎ ((a ≤ i) × (i < b)) → T (u i) ⊎ ((c ≤ i) × (i < e))
    go i (inl t) = inl t
    go i (inr s) = inr (omega (arith, s.0), omega (arith, s.1))

pub under_grown : {u w : Used} {a b : ℕ} → Under u a → Grown u w a b → a ≤ b → Under w b
under_grown {u} {w} {a} {b} p g h = record { low = λ k t. go k (g.fresh k t) }
  where
    go : (k : ℕ) → T (u k) ⊎ ((a ≤ k) × (k < b)) → k < b
    go k (inl t) = omega (arith, p.low k t)
    go k (inr s) = s.1
