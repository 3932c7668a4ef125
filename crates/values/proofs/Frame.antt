-- What stays where memory is written elsewhere.
use Rattle.std.proofs.Common.{◌≡◌, ℕ, ◌+◌, ◌*◌, ◌<◌, ◌≤◌, T, List, get_or, sym, refl, ◌∙◌, subst, arith}
use Rattle.query.specs.Data.{Data, unit, num, truth, text, bag, rec, left, right, Datas, none, more, Fields, no_field, field}
use Rattle.values.specs.Memory.{loaded, Stored, Kept, Used, Under, Spelled, Holds, HoldsAll, HoldsFields, Agree}
use Rattle.values.specs.Lent.{Pushed, PushedThere}
use Rattle.values.specs.declared.lent.Memory.{Memory}
use Rattle.values.specs.declared.value.Value.{Value}

pub kept_refl : {top : ℕ} {m : List ℕ} → Kept top m m
kept_refl = record { long = refl; same = λ k h. refl }

pub kept_trans : {a b : ℕ} {m n o : List ℕ} → Kept a m n → Kept b n o → a ≤ b → Kept a m o
kept_trans p q h = record { long = q.long ∙ p.long; same = λ k lt. q.same k (omega arith) ∙ p.same k lt }

pub kept_less : {a b : ℕ} {m n : List ℕ} → Kept b m n → a ≤ b → Kept a m n
kept_less p h = record { long = p.long; same = λ k lt. p.same k (omega arith) }

pub stored_kept : {at top : ℕ} {v : Value} {m n : List ℕ} → Stored at v m n → top ≤ at → Kept top m n
stored_kept s h = record { long = s.long; same = λ k lt. s.before k (omega arith) }

pub kept_agree : {u : Used} {top : ℕ} {m n : List ℕ} → Under u top → Kept top m n → Agree u m n
kept_agree below k = record { same = λ i h. k.same i (below.low i h) }

pub loaded_same : (m n : List ℕ) (at : ℕ) → get_or n at 0 ≡ get_or m at 0 → get_or n (at + 1) 0 ≡ get_or m (at + 1) 0 → get_or n (at + 2) 0 ≡ get_or m (at + 2) 0 → loaded n at ≡ loaded m at
unfolding loaded
loaded_same m n at a b c = rw (a, b, c) refl

-- a slot whose words stand
pub slot_same : (m n : List ℕ) (at : ℕ) → ((k : ℕ) → at ≤ k → k < at + 3 → get_or n k 0 ≡ get_or m k 0) → loaded n at ≡ loaded m at
slot_same m n at g = loaded_same m n at (g at (omega arith) (omega arith)) (g (at + 1) (omega arith) (omega arith)) (g (at + 2) (omega arith) (omega arith))

-- values stand as they stood
module _ (bs : List ℕ) where
  mutual
    unfolding Holds HoldsAll HoldsFields

    pub holds_kept : {m n : List ℕ} {u : Used} (w : Used) (d : Data) (v : Value) → Agree u m n → ((k : ℕ) → T (u k) → T (w k)) → Holds bs m u d v → Holds bs n w d v
    holds_kept w unit v a f h = h
    holds_kept w (num x) v a f h = h
    holds_kept w (truth b) v a f h = h
    holds_kept w (text t) v a f h = h
    holds_kept w (bag ds) v a f h =
        (h.0, h.1, record { used = λ k p q. f k (h.2.used k p q) }, all_kept w ds h.0.start h.0.count a f (λ k p q. a.same k (h.2.used k p q)) h.3)
    holds_kept w (rec fs) v a f h =
        (h.0, h.1, record { used = λ k p q. f k (h.2.used k p q) }, fields_kept w fs h.0.start h.0.count a f (λ k p q. a.same k (h.2.used k p q)) h.3)
    holds_kept {m} {n} w (left d) v a f h = (
      h.0,
      h.1,
      record { used = λ k p q. f k (h.2.used k p q) },
      subst (λ x. Holds bs n w d x) (sym (slot_same m n h.0 (λ k p q. a.same k (h.2.used k p q)))) (holds_kept w d (loaded m h.0) a f h.3),
    )
    holds_kept {m} {n} w (right d) v a f h = (
      h.0,
      h.1,
      record { used = λ k p q. f k (h.2.used k p q) },
      subst (λ x. Holds bs n w d x) (sym (slot_same m n h.0 (λ k p q. a.same k (h.2.used k p q)))) (holds_kept w d (loaded m h.0) a f h.3),
    )

    pub all_kept : {m n : List ℕ} {u : Used} (w : Used) (ds : Datas) (at count : ℕ) → Agree u m n → ((k : ℕ) → T (u k) → T (w k)) → ((k : ℕ) → at ≤ k → k < at + 3 * count → get_or n k 0 ≡ get_or m k 0) → HoldsAll bs m u ds at count → HoldsAll bs n w ds at count
    all_kept w none at count a f g h = h
    all_kept {m} {n} {u} w (more d ds) at count a f g h = (
      h.0,
      h.1,
      subst (λ v. Holds bs n w d v) (sym (slot_same m n at (λ k p q. g k p (omega (arith, h.1))))) (holds_kept w d (loaded m at) a f h.2),
      all_kept w ds (at + 3) h.0 a f (λ k p q. g k (omega arith) (omega (arith, h.1))) h.3,
    )

    pub fields_kept : {m n : List ℕ} {u : Used} (w : Used) (fs : Fields) (at count : ℕ) → Agree u m n → ((k : ℕ) → T (u k) → T (w k)) → ((k : ℕ) → at ≤ k → k < at + 5 * count → get_or n k 0 ≡ get_or m k 0) → HoldsFields bs m u fs at count → HoldsFields bs n w fs at count
    fields_kept w no_field at count a f g h = h
    fields_kept {m} {n} {u} w (field name d fs) at count a f g h =
        let w0 : get_or m at 0 ≡ get_or n at 0 = sym (g at (omega arith) (omega (arith, h.1))) in
        let w1 : get_or m (at + 1) 0 ≡ get_or n (at + 1) 0 = sym (g (at + 1) (omega arith) (omega (arith, h.1))) in (
          h.0,
          h.1,
          subst (λ x. Spelled bs name x (get_or n (at + 1) 0)) w0 (subst (λ y. Spelled bs name (get_or m at 0) y) w1 h.2),
          subst (λ v. Holds bs n w d v) (sym (slot_same m n (at + 2) (λ k p q. g k (omega arith) (omega (arith, h.1))))) (holds_kept w d (loaded m (at + 2)) a f h.3),
          fields_kept w fs (at + 5) h.0 a f (λ k p q. g k (omega arith) (omega (arith, h.1))) h.4,
        )

-- what was written into the slice that was lent was written
pub pushed_there : {A : Type 0} {width : ℕ} {read : List ℕ → ℕ → A} {x : A} {m n : Memory} {start : ℕ} → PushedThere width read x m n start → Pushed width read x m n start
pushed_there p = record { begins = p.begins; put = p.put; moved = record { frozen = p.moved.frozen; top = p.moved.top } }
