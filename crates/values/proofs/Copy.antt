-- Slots copied, and two bags in one.
use Rattle.std.proofs.Common.{◌≡◌, ℕ, suc, ◌+◌, ◌*◌, ◌<◌, ◌≤◌, List, sym, ap, ◌∙◌, subst, arith, below_more}
use Rattle.query.specs.Data.{Datas, none, more, join}
use Rattle.values.specs.Memory.{Stored, Used, Holds, HoldsAll, loaded, Readable, Copied, Agree}
use Rattle.values.proofs.Frame.{kept_trans, stored_kept, slot_same, holds_kept}
use Rattle.values.specs.declared.value.Place.{Place}
use Rattle.values.specs.declared.value.Value.{Value}

pub copied_more : (p : Place) (to i : ℕ) (m n n' : List ℕ) (x : Value) → Readable p to → i < p.count → Copied p to i m n → x ≡ loaded n (p.start + 3 * i) → Stored (to + 3 * i) x n n' → Copied p to (i + 1) m n'
copied_more p to i m n n' x r lt c e s =
    let far : p.start + 3 * i + 3 ≤ to = r.spots i lt in
    record {
      kept = kept_trans c.kept (stored_kept {top = to} s (omega arith)) (omega arith);
      there = below_more (λ j. loaded n' (to + 3 * j) ≡ loaded m (p.start + 3 * j)) i
          (λ j l. slot_same n n' (to + 3 * j) (λ k a b. s.before k (omega arith)) ∙ c.there j l)
          (s.there ∙ e ∙ slot_same m n (p.start + 3 * i) (λ k a b. c.kept.same k (omega arith)));
    }

-- what lies at a place lies where its slots were copied to
pub all_copied : (bs m n : List ℕ) (u : Used) (ds : Datas) (at to k : ℕ) → Agree u m n → ((i : ℕ) → i < k → loaded n (to + 3 * i) ≡ loaded m (at + 3 * i)) → HoldsAll bs m u ds at k → HoldsAll bs n u ds to k
unfolding HoldsAll
all_copied bs m n u none at to k a f h = h
all_copied bs m n u (more d ds) at to k a f h =
    let z : loaded n (to + 3 * 0) ≡ loaded m (at + 3 * 0) = f 0 (omega (arith, h.1)) in
    let e : at + 3 * 0 ≡ at = omega arith in
    let e' : to + 3 * 0 ≡ to = omega arith in
    let w : loaded n to ≡ loaded m at = sym (ap (loaded n) e') ∙ z ∙ ap (loaded m) e in (
      h.0,
      h.1,
      subst (λ v. Holds bs n u d v) (sym w) (holds_kept bs u d (loaded m at) a (λ k t. t) h.2),
      all_copied bs m n u ds (at + 3) (to + 3) h.0 a (λ i lt.
          let s : to + 3 + 3 * i ≡ to + 3 * (i + 1) = omega arith in
          let s' : at + 3 + 3 * i ≡ at + 3 * (i + 1) = omega arith in
          ap (loaded n) s ∙ f (i + 1) (omega (arith, h.1)) ∙ sym (ap (loaded m) s')) h.3,
    )

pub all_join : (bs m : List ℕ) (u : Used) (ds es : Datas) (at k l : ℕ) → HoldsAll bs m u ds at k → HoldsAll bs m u es (at + 3 * k) l → HoldsAll bs m u (join ds es) at (k + l)
unfolding HoldsAll join
all_join bs m u none es at k l h g =
    let e : at + 3 * k ≡ at = omega (arith, h) in
    let f : l ≡ k + l = omega (arith, h) in
    subst (λ x. HoldsAll bs m u es at x) f (subst (λ x. HoldsAll bs m u es x l) e g)
all_join bs m u (more d ds) es at k l h g =
    let e : at + 3 * k ≡ at + 3 + 3 * h.0 = omega (arith, h.1) in
    let f : k + l ≡ suc (h.0 + l) = omega (arith, h.1) in
    (h.0 + l, f, h.2, all_join bs m u ds es (at + 3) h.0 l h.3 (subst (λ x. HoldsAll bs m u es x l) e g))
