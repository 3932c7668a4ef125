-- What is told to be the same is the same, and each datum is the same as itself.
use mathlib.Core.Path.{◌≡◌, refl, sym, ◌∙◌, ap}
use mathlib.Core.Bool.{Bool, true, false, not, ◌&&◌, ◌||◌, false≢true}
use borrow.Author.Tests.{eqb-true, eq-eqb}
use Rattle.query.specs.Data.{Data, unit, num, truth, text, bag, rec, left, right, Datas, none, more, Fields, no_field, field, same_text, same, same_all, same_fields, is_unit, is_num, is_truth, is_text, is_bag, is_rec, is_left, is_right, is_none, is_more, is_no_field, is_field}
use Rattle.ordering.proofs.Ways.{and_l, and_r, and_i}
use Rattle.ordering.proofs.Texts.{same-text-≡, same_text_self}
use Rattle.ordering.proofs.Apart.{Apart, at_unit, at_num, at_truth, at_text, at_bag, at_rec, at_left, at_right}

same_truth : (a b : Bool) → ((a && b) || (not a && not b)) ≡ true → a ≡ b
same_truth true true h = refl
same_truth true false h = sym h
same_truth false true h = h
same_truth false false h = refl

same_truth_self : (a : Bool) → ((a && a) || (not a && not a)) ≡ true
same_truth_self true = refl
same_truth_self false = refl

-- told to be the same, so the same
Told : Data → Data → Type 0
Told d e = same d e ≡ true → d ≡ e

told_apart : (d e : Data) → Apart d e → Told d e
unfolding Told
told_apart d e a h = absurd (false≢true (sym a.differs ∙ h))

mutual
  unfolding Told same same_all same_fields is_unit is_num is_truth is_text is_bag is_rec is_left is_right is_none is_more is_no_field is_field

  pub same-≡ : (d e : Data) → same d e ≡ true → d ≡ e
  same-≡ unit e h = at_unit Told told_apart (λ _. refl) e h
  same-≡ (num m) e h = at_num Told told_apart m (λ n k. ap num (eqb-true m n k)) e h
  same-≡ (truth b) e h = at_truth Told told_apart b (λ c k. ap truth (same_truth b c k)) e h
  same-≡ (text s) e h = at_text Told told_apart s (λ t k. ap text (same-text-≡ s t k)) e h
  same-≡ (bag ds) e h = at_bag Told told_apart ds (λ es k. ap bag (same-all-≡ ds es k)) e h
  same-≡ (rec fs) e h = at_rec Told told_apart fs (λ gs k. ap rec (same-fields-≡ fs gs k)) e h
  same-≡ (left d) e h = at_left Told told_apart d (λ x k. ap left (same-≡ d x k)) e h
  same-≡ (right d) e h = at_right Told told_apart d (λ x k. ap right (same-≡ d x k)) e h

  pub same-all-≡ : (ds es : Datas) → same_all ds es ≡ true → ds ≡ es
  same-all-≡ none none h = refl
  same-all-≡ none (more e es) h = absurd (false≢true h)
  same-all-≡ (more d ds) none h = absurd (false≢true h)
  same-all-≡ (more d ds) (more e es) h =
      let p : d ≡ e = same-≡ d e (and_l (same d e) (same_all ds es) h) in
      let q : ds ≡ es = same-all-≡ ds es (and_r (same d e) (same_all ds es) h) in cc

  pub same-fields-≡ : (fs gs : Fields) → same_fields fs gs ≡ true → fs ≡ gs
  same-fields-≡ no_field no_field h = refl
  same-fields-≡ no_field (field m e gs) h = absurd (false≢true h)
  same-fields-≡ (field n d fs) no_field h = absurd (false≢true h)
  same-fields-≡ (field n d fs) (field m e gs) h =
      let k : (same d e && same_fields fs gs) ≡ true = and_r (same_text n m) (same d e && same_fields fs gs) h in
      let o : n ≡ m = same-text-≡ n m (and_l (same_text n m) (same d e && same_fields fs gs) h) in
      let p : d ≡ e = same-≡ d e (and_l (same d e) (same_fields fs gs) k) in
      let q : fs ≡ gs = same-fields-≡ fs gs (and_r (same d e) (same_fields fs gs) k) in cc

mutual
  unfolding same same_all same_fields is_unit is_num is_truth is_text is_bag is_rec is_left is_right is_none is_more is_no_field is_field

  pub same_self : (d : Data) → same d d ≡ true
  same_self unit = refl
  same_self (num n) = eq-eqb n n refl
  same_self (truth b) = same_truth_self b
  same_self (text t) = same_text_self t
  same_self (bag ds) = same_all_self ds
  same_self (rec fs) = same_fields_self fs
  same_self (left d) = same_self d
  same_self (right d) = same_self d

  pub same_all_self : (ds : Datas) → same_all ds ds ≡ true
  same_all_self none = refl
  same_all_self (more d ds) = and_i (same d d) (same_all ds ds) (same_self d) (same_all_self ds)

  pub same_fields_self : (fs : Fields) → same_fields fs fs ≡ true
  same_fields_self no_field = refl
  same_fields_self (field n d fs) =
      and_i (same_text n n) (same d d && same_fields fs fs) (same_text_self n) (and_i (same d d) (same_fields fs fs) (same_self d) (same_fields_self fs))
