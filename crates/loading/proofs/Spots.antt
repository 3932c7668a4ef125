-- Bytes that stand at a place, and what stands after them.
use Rattle.std.proofs.Common.{◌≡◌, ℕ, ◌+◌, ◌≤◌, List, [], ◌∷◌, ◌++◌, length, get_or, take, drop, sym, refl, ap, ◌∙◌, subst, arith, length-append, length-drop, get_or-drop, drop-drop, take_at, drop_at}
use Rattle.std.proofs.lemmas.List.{append_assoc}
use Rattle.format.specs.Coding.{Coding}
use Rattle.format.specs.Nodes.{Stands}
use Rattle.values.specs.Memory.{Spelled}

pub record At (bs : List ℕ) (at : ℕ) (w : List ℕ) : Type 0 where
  pub within : at ≤ length bs
  pub rest : List ℕ
  pub is : drop at bs ≡ w ++ rest

pub at_stands : {S : Coding} {bs : List ℕ} {at : ℕ} {x : S.T} → Stands S bs at x → At bs at (S.write x)
at_stands s = record { within = s.within; rest = s.rest; is = s.is }

pub stands_at : (S : Coding) (bs : List ℕ) (at : ℕ) (x : S.T) → At bs at (S.write x) → Stands S bs at x
stands_at S bs at x s = record { within = s.within; rest = s.rest; is = s.is }

pub at_same : {bs : List ℕ} {at to : ℕ} {v w : List ℕ} → At bs at v → at ≡ to → v ≡ w → At bs to w
at_same {bs} {at} {to} {v} {w} a e f = subst (λ x. At bs x w) e (subst (λ x. At bs at x) f a)

pub at_long : {bs : List ℕ} {at : ℕ} {w : List ℕ} → At bs at w → at + length w ≤ length bs
at_long {bs} {at} {w} a = omega (arith, a.within, length-drop at bs, ap length a.is ∙ length-append w a.rest)

pub at_first : {bs : List ℕ} {at : ℕ} (u v : List ℕ) → At bs at (u ++ v) → At bs at u
at_first u v a = record { within = a.within; rest = v ++ a.rest; is = a.is ∙ append_assoc u v a.rest }

pub at_second : {bs : List ℕ} {at : ℕ} (u v : List ℕ) → At bs at (u ++ v) → At bs (at + length u) v
at_second {bs} {at} u v a =
    let l = at_long a in
    record {
      within = omega (arith, l, length-append u v);
      rest = a.rest;
      is = sym (drop-drop (length u) at bs) ∙ ap (drop (length u)) (a.is ∙ append_assoc u v a.rest) ∙ drop_at u (v ++ a.rest) (length u) refl;
    }

-- what stands after the first byte
pub at_tail : {bs : List ℕ} {at : ℕ} (x : ℕ) (v : List ℕ) → At bs at (x ∷ v) → At bs (at + 1) v
at_tail x v a = at_second (x ∷ []) v a

pub at_byte : {bs : List ℕ} {at : ℕ} {w : List ℕ} → (a : At bs at w) → get_or bs at 0 ≡ get_or (w ++ a.rest) 0 0
at_byte {bs} {at} {w} a = let z : at + 0 ≡ at = omega arith in ap (λ k. get_or bs k 0) (sym z) ∙ sym (get_or-drop at bs 0 0) ∙ ap (λ v. get_or v 0 0) a.is

pub at_spelled : {bs : List ℕ} {at : ℕ} {t : List ℕ} → At bs at t → Spelled bs t at (length t)
at_spelled {bs} {at} {t} a = record { within = at_long a; is = sym (ap (take (length t)) a.is ∙ take_at t a.rest (length t) refl) }
