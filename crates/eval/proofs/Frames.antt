-- What stays held where memory grows.
use Rattle.std.proofs.Common.{◌≡◌, ℕ, zero, suc, ◌+◌, ◌*◌, ◌<◌, ◌≤◌, T, List, ◌∷◌, length, sym, ap, ◌∙◌, subst, arith}
use Rattle.query.specs.Data.{Data, Datas, none, more, how_many}
use Rattle.values.specs.Memory.{Kept, Agree, Used, Under, Grown, Holds, HoldsAll, loaded}
use Rattle.values.specs.declared.value.Value.{Value}
use Rattle.values.proofs.Frame.{kept_agree, holds_kept, all_kept}
use Rattle.operators.proofs.Grows.{under_grown}
use Rattle.eval.specs.Ready.{Setting, World, Row, Held}
use Rattle.literals.specs.Numbered.{thing_at}

pub row_kept : {bs m n : List ℕ} {u : Used} (w : Used) (ds : Datas) {at count : ℕ} → Agree u m n → ((k : ℕ) → T (u k) → T (w k)) → Row bs m u ds at count → Row bs n w ds at count
row_kept {bs} w ds {at} {count} a f r =
    record { run = record { used = λ k p q. f k (r.run.used k p q) }; lie = all_kept bs w ds at count a f (λ k p q. a.same k (r.run.used k p q)) r.lie }

pub held_kept : {S : Setting} {w : World} {along : Data} {e : Value} {m n : List ℕ} {u v : Used} {top high : ℕ} → Agree u m n → ((k : ℕ) → T (u k) → T (v k)) → Under v high → high ≤ length n → Held S w along e m u top → Held S w along e n v high
held_kept {S} {w} {along} {e} {m} {n} {u} {v} a f low room h =
    record {
      tables = row_kept v _ a f h.tables;
      literals = row_kept v _ a f h.literals;
      goes = holds_kept S.bytes v along e a f h.goes;
      low = low;
      room = room;
    }

pub held_later : {S : Setting} {w : World} {along : Data} {e : Value} {m n : List ℕ} {u v : Used} {top high : ℕ} → Held S w along e m u top → Kept top m n → Grown u v top high → top ≤ high → high ≤ length n → Held S w along e n v high
held_later h k g l r = held_kept (kept_agree h.low k) g.wider (under_grown h.low g l) r h

-- how many lie there, and one of them
pub as_many : (bs m : List ℕ) (u : Used) (ds : Datas) (at k : ℕ) → HoldsAll bs m u ds at k → how_many ds ≡ k
unfolding HoldsAll how_many
as_many bs m u none at k h = sym h
as_many bs m u (more d ds) at k h = ap suc (as_many bs m u ds (at + 3) h.0 h.3) ∙ sym h.1

pub one_of_row : (bs m : List ℕ) (u : Used) (ds : Datas) (at k n : ℕ) (d : Data) (l : List Data) → HoldsAll bs m u ds at k → thing_at ds n ≡ d ∷ l → (n < k) × Holds bs m u d (loaded m (at + 3 * n))
unfolding HoldsAll thing_at
one_of_row bs m u none at k n d l h e = let z : ◌≡◌ {A = ℕ} 0 1 = cc in absurd (omega arith)
one_of_row bs m u (more x ds) at k zero d l h e =
    let s : x ≡ d = cc in
    let z : at ≡ at + 3 * 0 = omega arith in
    (omega (arith, h.1), subst (λ a. Holds bs m u d (loaded m a)) z (subst (λ y. Holds bs m u y (loaded m at)) s h.2))
one_of_row bs m u (more x ds) at k (suc n) d l h e =
    let r = one_of_row bs m u ds (at + 3) h.0 n d l h.3 e in
    let z : at + 3 + 3 * n ≡ at + 3 * suc n = omega arith in
    (omega (arith, h.1, r.0), subst (λ a. Holds bs m u d (loaded m a)) z r.1)
