-- Two data the other way round go the other way.
use mathlib.Core.Path.{◌≡◌, refl, sym, ◌∙◌, ap}
use Rattle.query.specs.Data.{pick, Data, unit, num, truth, text, bag, rec, left, right, Datas, none, more, Fields, no_field, field}
use Rattle.ordering.specs.Order.{then_way, flip, way, way_all, way_fields, way_text, rank, way_num, on_num_way, on_truth_way, on_text_way, on_bag_way, on_rec_way, on_left_way, on_right_way, on_none_way, on_more_way, on_no_field_way, on_field_way, WayFlips}
use Rattle.ordering.proofs.Ways.{then_flips, num_flips, truth_flips}
use Rattle.ordering.proofs.Texts.{text_flips}
use Rattle.ordering.proofs.Apart.{Apart, at_unit, at_num, at_truth, at_text, at_bag, at_rec, at_left, at_right}

Flips : Data → Data → Type 0
Flips d e = way e d ≡ flip (way d e)

flips_apart : (d e : Data) → Apart d e → Flips d e
unfolding Flips
flips_apart d e a = a.comes ∙ (num_flips (rank d) (rank e) ∙ ap flip (sym a.goes))

mutual
  unfolding Flips flip rank pick way_num way way_all way_fields on_num_way on_truth_way on_text_way on_bag_way on_rec_way on_left_way on_right_way on_none_way on_more_way on_no_field_way on_field_way

  pub way_flips : (d e : Data) → way e d ≡ flip (way d e)
  way_flips unit e = at_unit Flips flips_apart refl e
  way_flips (num m) e = at_num Flips flips_apart m (λ n. num_flips m n) e
  way_flips (truth b) e = at_truth Flips flips_apart b (λ c. truth_flips b c) e
  way_flips (text s) e = at_text Flips flips_apart s (λ t. text_flips s t) e
  way_flips (bag ds) e = at_bag Flips flips_apart ds (λ es. all_flips ds es) e
  way_flips (rec fs) e = at_rec Flips flips_apart fs (λ gs. fields_flips fs gs) e
  way_flips (left d) e = at_left Flips flips_apart d (λ x. way_flips d x) e
  way_flips (right d) e = at_right Flips flips_apart d (λ x. way_flips d x) e

  pub all_flips : (ds es : Datas) → way_all es ds ≡ flip (way_all ds es)
  all_flips none none = refl
  all_flips none (more e es) = refl
  all_flips (more d ds) none = refl
  all_flips (more d ds) (more e es) =
      rw (way_flips d e, all_flips ds es) (then_flips (way d e) (way_all ds es))

  pub fields_flips : (fs gs : Fields) → way_fields gs fs ≡ flip (way_fields fs gs)
  fields_flips no_field no_field = refl
  fields_flips no_field (field m e gs) = refl
  fields_flips (field n d fs) no_field = refl
  fields_flips (field n d fs) (field m e gs) =
      rw (text_flips n m, way_flips d e, fields_flips fs gs, then_flips (way d e) (way_fields fs gs)) (then_flips (way_text n m) (then_way (way d e) (way_fields fs gs)))

pub flips : WayFlips
unfolding WayFlips
flips d e = way_flips d e
