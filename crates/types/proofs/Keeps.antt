-- The fields of a record that stay.
use Rattle.std.proofs.Common.{◌≡◌, ℕ, zero, suc, ◌+◌, ◌<◌, ◌≤◌, Bool, true, false, not, ◌||◌, nat_eq, List, [], ◌∷◌, ◌++◌, length, get_or, take, drop, sym, refl, ap, ◌∙◌, ap₂, arith}
use Rattle.std.proofs.lemmas.List.{length-append, append_assoc, append-nil}
use Rattle.std.specs.List.{list_any}
use mathlib.Core.Bool.{beq}
use Rattle.query.specs.Data.{pick}
use Rattle.types.specs.Shapes.{Rising}
use Rattle.types.specs.Tables.{no_such}
use Rattle.types.specs.Fields.{in_f, as_told, kept_f}
use Rattle.types.specs.declared.entry.Field.{Field}
use Rattle.types.proofs.Runs.{run_step, run_end}
use Rattle.types.proofs.Both.{pick_true, pick_false, rising_low, rising_length}

-- whether a number is in a list, as the library's word has it
in_any : (k : ℕ) (ks : List ℕ) → list_any (λ y. nat_eq y k) ks ≡ in_f k ks
unfolding in_f
in_any k [] = refl
in_any k (m ∷ ks) = ap₂ (λ (a b : Bool). a || b) (turned m k) (in_any k ks)
  where
    turned : (m k : ℕ) → nat_eq m k ≡ nat_eq k m
    turned m k = grind arith

pub stays_told : (k : ℕ) (ks : List ℕ) (r keep : Bool) → r ≡ list_any (λ y. nat_eq y k) ks → (b : Bool) → beq r keep ≡ b → as_told keep (in_f k ks) ≡ b
unfolding as_told
stays_told k ks r true e b q = sym (in_any k ks) ∙ (sym e ∙ (yes r ∙ q))
  where
    yes : (r : Bool) → r ≡ beq r true
    yes true = refl
    yes false = refl
stays_told k ks r false e b q = ap not (sym (in_any k ks) ∙ sym e) ∙ (no r ∙ q)
  where
    no : (r : Bool) → not r ≡ beq r false
    no true = refl
    no false = refl

-- what stays is in order still
pub kept_rises : (w k p : ℕ) (ks : List ℕ) (b : Bool) (fs : List Field) → Rising w k p fs → Rising w k p (kept_f ks b fs)
unfolding Rising kept_f pick
kept_rises w k p ks b [] r = tt
kept_rises w k p ks b (f ∷ fs) r = by (as_told b (in_f f.name ks)) (kept_rises w k (suc f.name) ks b fs r.3)
  where
    by : (c : Bool) → Rising w k (suc f.name) (kept_f ks b fs) → Rising w k p (pick c (f ∷ kept_f ks b fs) (kept_f ks b fs))
    by true h = (r.0, r.1, r.2, h)
    by false h = rising_low w k p (suc f.name) (kept_f ks b fs) (omega (arith, r.0)) h

-- what is done of a record, and what is to come
pub record Keeping (w k : ℕ) (fs : List Field) (a n : ℕ) (ks : List ℕ) (b : Bool) (gs : List Field) (i : ℕ) : Type 0 where
  pub done : List Field
  pub is : gs ≡ fs ++ done
  pub rest : kept_f ks b (take n (drop a fs)) ≡ done ++ kept_f ks b (drop i (take n (drop a fs)))
  pub wide : length (kept_f ks b (take n (drop a fs))) ≤ w

pub keep_begin : (w k : ℕ) (fs : List Field) (a n : ℕ) (ks : List ℕ) (b : Bool) → Rising w k 0 (take n (drop a fs)) → Keeping w k fs a n ks b fs 0
keep_begin w k fs a n ks b r = record {
  done = [];
  is = sym (append-nil fs);
  rest = refl;
  wide = omega (arith, rising_length w k 0 (kept_f ks b (take n (drop a fs))) (omega arith) (kept_rises w k 0 ks b (take n (drop a fs)) r));
}

module _ (w k : ℕ) (fs : List Field) (a n : ℕ) (ks : List ℕ) (b : Bool) (gs : List Field) (i : ℕ) (l : a + n ≤ length fs) (g : Keeping w k fs a n ks b gs i) where
  pub keep_lies : i < n → a + i < length gs
  keep_lies h = omega (arith, ap (λ (z : List Field). length z) g.is, length-append fs g.done)

  module _ (h : i < n) (f : Field) (q : f ≡ get_or gs (a + i) no_such) where
    here : f ≡ get_or fs (a + i) no_such
    here = q ∙ ap (λ (z : List Field). get_or z (a + i) no_such) g.is ∙ front fs g.done (a + i) (omega arith)
      where
        front : (xs ys : List Field) (j : ℕ) → j < length xs → get_or (xs ++ ys) j no_such ≡ get_or xs j no_such
        front [] ys j m = absurd (omega arith)
        front (x ∷ xs) ys zero m = refl
        front (x ∷ xs) ys (suc j) m = front xs ys j (omega arith)

    step : kept_f ks b (drop i (take n (drop a fs))) ≡ pick (as_told b (in_f f.name ks)) (f ∷ kept_f ks b (drop (i + 1) (take n (drop a fs)))) (kept_f ks b (drop (i + 1) (take n (drop a fs))))
    unfolding kept_f
    step = ap (λ (z : List Field). kept_f ks b z) (run_step fs a n i no_such l h ∙ ap (λ (z : Field). z ∷ drop (i + 1) (take n (drop a fs))) (sym here))

    pub keep_off : as_told b (in_f f.name ks) ≡ false → Keeping w k fs a n ks b gs (i + 1)
    keep_off e = record { done = g.done; is = g.is; rest = g.rest ∙ ap (λ (z : List Field). g.done ++ z) (step ∙ pick_false _ _ _ e); wide = g.wide }

    pub keep_room : as_told b (in_f f.name ks) ≡ true → length gs < length fs + w
    keep_room e =
        let tail = kept_f ks b (drop (i + 1) (take n (drop a fs))) in
        let l1 = ap (λ (z : List Field). length z) (g.rest ∙ ap (λ (z : List Field). g.done ++ z) (step ∙ pick_true _ _ _ e)) in
        let p1 = length-append g.done (f ∷ tail) in
        let l2 = ap (λ (z : List Field). length z) g.is in
        let p2 = length-append fs g.done in
        let wd = g.wide in
        omega arith

    pub keep_on : (hs : List Field) → hs ≡ gs ++ (f ∷ []) → as_told b (in_f f.name ks) ≡ true → Keeping w k fs a n ks b hs (i + 1)
    keep_on hs m e = record {
      done = g.done ++ (f ∷ []);
      is = m ∙ (ap (λ (z : List Field). z ++ (f ∷ [])) g.is ∙ append_assoc fs g.done (f ∷ []));
      rest = g.rest ∙ (ap (λ (z : List Field). g.done ++ z) (step ∙ pick_true _ _ _ e) ∙ sym (append_assoc g.done (f ∷ []) _));
      wide = g.wide;
    }

  pub keep_end : n ≤ i → gs ≡ fs ++ kept_f ks b (take n (drop a fs))
  unfolding kept_f
  keep_end h = g.is ∙ ap (λ (z : List Field). fs ++ z) (sym (g.rest ∙ (ap (λ (z : List Field). g.done ++ kept_f ks b z) (run_end fs a n i l h) ∙ append-nil g.done)))
