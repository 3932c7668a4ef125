-- Only a datum and itself are alike, and that is what the test on two data tells.
use mathlib.Core.Path.{◌≡◌, refl, sym, ◌∙◌, ap, subst}
use mathlib.Core.Bool.{true}
use borrow.Author.Tests.{eqb-false}
use Rattle.query.specs.Data.{pick, Data, unit, num, truth, text, bag, rec, left, right, Datas, none, more, Fields, no_field, field, same}
use Rattle.ordering.specs.Order.{alike, then_way, way, way_all, way_fields, way_text, rank, way_num, on_num_way, on_truth_way, on_text_way, on_bag_way, on_rec_way, on_left_way, on_right_way, on_none_way, on_more_way, on_no_field_way, on_field_way, AlikeIsSame, AlikeIffSame}
use Rattle.ordering.proofs.Ways.{before≢alike, behind≢alike, then_alike_l, then_alike_r, then_alike, alike_num, num_alike, alike_truth, truth_alike}
use Rattle.ordering.proofs.Texts.{alike_text, text_alike}
use Rattle.ordering.proofs.Apart.{Apart, at_unit, at_num, at_truth, at_text, at_bag, at_rec, at_left, at_right}
use Rattle.ordering.proofs.Same.{same-≡, same_self}

-- alike, so the same
Tells : Data → Data → Type 0
Tells d e = way d e ≡ alike → d ≡ e

tells_apart : (d e : Data) → Apart d e → Tells d e
unfolding Tells
tells_apart d e a h = absurd (eqb-false (rank d) (rank e) a.ranks (alike_num (rank d) (rank e) (sym a.goes ∙ h)))

mutual
  unfolding Tells way way_all way_fields on_num_way on_truth_way on_text_way on_bag_way on_rec_way on_left_way on_right_way on_none_way on_more_way on_no_field_way on_field_way

  pub alike-≡ : (d e : Data) → way d e ≡ alike → d ≡ e
  alike-≡ unit e h = at_unit Tells tells_apart (λ _. refl) e h
  alike-≡ (num m) e h = at_num Tells tells_apart m (λ n k. ap num (alike_num m n k)) e h
  alike-≡ (truth b) e h = at_truth Tells tells_apart b (λ c k. ap truth (alike_truth b c k)) e h
  alike-≡ (text s) e h = at_text Tells tells_apart s (λ t k. ap text (alike_text s t k)) e h
  alike-≡ (bag ds) e h = at_bag Tells tells_apart ds (λ es k. ap bag (alike-all-≡ ds es k)) e h
  alike-≡ (rec fs) e h = at_rec Tells tells_apart fs (λ gs k. ap rec (alike-fields-≡ fs gs k)) e h
  alike-≡ (left d) e h = at_left Tells tells_apart d (λ x k. ap left (alike-≡ d x k)) e h
  alike-≡ (right d) e h = at_right Tells tells_apart d (λ x k. ap right (alike-≡ d x k)) e h

  pub alike-all-≡ : (ds es : Datas) → way_all ds es ≡ alike → ds ≡ es
  alike-all-≡ none none h = refl
  alike-all-≡ none (more e es) h = absurd (before≢alike h)
  alike-all-≡ (more d ds) none h = absurd (behind≢alike h)
  alike-all-≡ (more d ds) (more e es) h =
      let p : d ≡ e = alike-≡ d e (then_alike_l (way d e) (way_all ds es) h) in
      let q : ds ≡ es = alike-all-≡ ds es (then_alike_r (way d e) (way_all ds es) h) in cc

  pub alike-fields-≡ : (fs gs : Fields) → way_fields fs gs ≡ alike → fs ≡ gs
  alike-fields-≡ no_field no_field h = refl
  alike-fields-≡ no_field (field m e gs) h = absurd (before≢alike h)
  alike-fields-≡ (field n d fs) no_field h = absurd (behind≢alike h)
  alike-fields-≡ (field n d fs) (field m e gs) h =
      let k : then_way (way d e) (way_fields fs gs) ≡ alike =
      then_alike_r (way_text n m) (then_way (way d e) (way_fields fs gs)) h in
      let o : n ≡ m = alike_text n m (then_alike_l (way_text n m) (then_way (way d e) (way_fields fs gs)) h) in
      let p : d ≡ e = alike-≡ d e (then_alike_l (way d e) (way_fields fs gs) k) in
      let q : fs ≡ gs = alike-fields-≡ fs gs (then_alike_r (way d e) (way_fields fs gs) k) in cc

mutual
  unfolding way way_all way_fields way_num pick rank on_num_way on_truth_way on_text_way on_bag_way on_rec_way on_left_way on_right_way on_none_way on_more_way on_no_field_way on_field_way

  pub way_alike : (d : Data) → way d d ≡ alike
  way_alike unit = refl
  way_alike (num n) = num_alike n
  way_alike (truth b) = truth_alike b
  way_alike (text t) = text_alike t
  way_alike (bag ds) = way_all_alike ds
  way_alike (rec fs) = way_fields_alike fs
  way_alike (left d) = way_alike d
  way_alike (right d) = way_alike d

  pub way_all_alike : (ds : Datas) → way_all ds ds ≡ alike
  way_all_alike none = refl
  way_all_alike (more d ds) = then_alike (way d d) (way_all ds ds) (way_alike d) (way_all_alike ds)

  pub way_fields_alike : (fs : Fields) → way_fields fs fs ≡ alike
  way_fields_alike no_field = refl
  way_fields_alike (field n d fs) =
      then_alike (way_text n n) (then_way (way d d) (way_fields fs fs)) (text_alike n) (then_alike (way d d) (way_fields fs fs) (way_alike d) (way_fields_alike fs))

pub alike_is_same : AlikeIsSame
unfolding AlikeIsSame
alike_is_same d e = (alike-≡ d e, way_alike d)

pub alike_iff_same : AlikeIffSame
unfolding AlikeIffSame
alike_iff_same d e = (
  λ h. subst (λ (x : Data). same d x ≡ true) (alike-≡ d e h) (same_self d),
  λ h. subst (λ (x : Data). way d x ≡ alike) (same-≡ d e h) (way_alike d),
)
