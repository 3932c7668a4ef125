-- What comes before another comes before all that the other comes before.
use mathlib.Core.Path.{◌≡◌, refl, sym, ◌∙◌, ap}
use Prim.Native.Nat.{ℕ}
use borrow.Author.Tests.{eqb-false}
use Rattle.query.specs.Data.{pick, Name, Data, unit, num, truth, text, bag, rec, left, right, Datas, none, more, Fields, no_field, field}
use Rattle.ordering.specs.Order.{Way, before, alike, behind, then_way, way, way_all, way_fields, way_text, rank, way_num, on_num_way, on_truth_way, on_text_way, on_bag_way, on_rec_way, on_left_way, on_right_way, on_none_way, on_more_way, on_no_field_way, on_field_way, WayTransits}
use Rattle.ordering.proofs.Ways.{alike≢before, behind≢before, then_transits, alike_num, num_transits, truth_transits}
use Rattle.ordering.proofs.Texts.{alike_text, text_transits}
use Rattle.ordering.proofs.Apart.{Apart, at_unit, at_num, at_truth, at_text, at_bag, at_rec, at_left, at_right}
use Rattle.ordering.proofs.Alike.{alike-≡}

-- any two data go first by their kinds
ByKind : Data → Data → Type 0
ByKind d e = then_way (way_num (rank d) (rank e)) (way d e) ≡ way d e

then_first : (v w : Way) → (v ≡ alike → ⊥) → then_way v w ≡ v
unfolding then_way
then_first before w h = refl
then_first alike w h = absurd (h refl)
then_first behind w h = refl

apart_ways : (d e : Data) → Apart d e → way_num (rank d) (rank e) ≡ alike → ⊥
apart_ways d e a h = eqb-false (rank d) (rank e) a.ranks (alike_num (rank d) (rank e) h)

kind_apart : (d e : Data) → Apart d e → ByKind d e
unfolding ByKind
kind_apart d e a = then_first (way_num (rank d) (rank e)) (way d e) (apart_ways d e a) ∙ sym a.goes

by_kind : (d e : Data) → ByKind d e
unfolding ByKind then_way way_num pick rank
by_kind unit e = at_unit ByKind kind_apart refl e
by_kind (num m) e = at_num ByKind kind_apart m (λ n. refl) e
by_kind (truth b) e = at_truth ByKind kind_apart b (λ c. refl) e
by_kind (text s) e = at_text ByKind kind_apart s (λ t. refl) e
by_kind (bag ds) e = at_bag ByKind kind_apart ds (λ es. refl) e
by_kind (rec fs) e = at_rec ByKind kind_apart fs (λ gs. refl) e
by_kind (left d) e = at_left ByKind kind_apart d (λ x. refl) e
by_kind (right d) e = at_right ByKind kind_apart d (λ x. refl) e

-- so data that are not all of one kind go through by their kinds
Through : Data → Data → Data → Type 0
Through d e f = way d e ≡ before → way e f ≡ before → way d f ≡ before

through : (d e f : Data) → (way_num (rank d) (rank e) ≡ alike → way_num (rank e) (rank f) ≡ alike → ⊥) → Through d e f
unfolding Through ByKind
through d e f no_one h k =
    sym (by_kind d f)
    ∙ then_transits
    (way_num (rank d) (rank e))
    (way_num (rank e) (rank f))
    (way_num (rank d) (rank f))
    (way d e)
    (way e f)
    (way d f)
    (num_transits (rank d) (rank e) (rank f))
    (λ p. ap (λ (n : ℕ). way_num n (rank f)) (alike_num (rank d) (rank e) p))
    (λ p. ap (λ (n : ℕ). way_num (rank d) n) (sym (alike_num (rank e) (rank f) p)))
    (λ p q _ _. absurd (no_one p q))
    (by_kind d e ∙ h)
    (by_kind e f ∙ k)

From : Data → Data → Type 0
From d e = (f : Data) → Through d e f

from_apart : (d e : Data) → Apart d e → From d e
unfolding From
from_apart d e a f = through d e f (λ p _. apart_ways d e a p)

to_apart : (d e f : Data) → Apart e f → Through d e f
to_apart d e f a = through d e f (λ _ q. apart_ways e f a q)

mutual
  unfolding From Through rank pick way_num way way_all way_fields on_num_way on_truth_way on_text_way on_bag_way on_rec_way on_left_way on_right_way on_none_way on_more_way on_no_field_way on_field_way

  pub way_transits : (d e f : Data) → way d e ≡ before → way e f ≡ before → way d f ≡ before
  way_transits unit e = at_unit From from_apart (λ f h. absurd (alike≢before h)) e
  way_transits (num a) e = at_num From from_apart a (λ b. at_num (Through (num a)) (to_apart (num a)) b (λ c. num_transits a b c)) e
  way_transits (truth a) e = at_truth From from_apart a (λ b. at_truth (Through (truth a)) (to_apart (truth a)) b (λ c. truth_transits a b c)) e
  way_transits (text a) e = at_text From from_apart a (λ b. at_text (Through (text a)) (to_apart (text a)) b (λ c. text_transits a b c)) e
  way_transits (bag a) e = at_bag From from_apart a (λ b. at_bag (Through (bag a)) (to_apart (bag a)) b (λ c. all_transits a b c)) e
  way_transits (rec a) e = at_rec From from_apart a (λ b. at_rec (Through (rec a)) (to_apart (rec a)) b (λ c. fields_transits a b c)) e
  way_transits (left a) e = at_left From from_apart a (λ b. at_left (Through (left a)) (to_apart (left a)) b (λ c. way_transits a b c)) e
  way_transits (right a) e = at_right From from_apart a (λ b. at_right (Through (right a)) (to_apart (right a)) b (λ c. way_transits a b c)) e

  pub all_transits : (ds es fs : Datas) → way_all ds es ≡ before → way_all es fs ≡ before → way_all ds fs ≡ before
  all_transits none none fs h k = absurd (alike≢before h)
  all_transits none (more e es) none h k = absurd (behind≢before k)
  all_transits none (more e es) (more f fs) h k = refl
  all_transits (more d ds) none fs h k = absurd (behind≢before h)
  all_transits (more d ds) (more e es) none h k = absurd (behind≢before k)
  all_transits (more d ds) (more e es) (more f fs) h k =
      then_transits
      (way d e)
      (way e f)
      (way d f)
      (way_all ds es)
      (way_all es fs)
      (way_all ds fs)
      (way_transits d e f)
      (λ p. ap (λ (x : Data). way x f) (alike-≡ d e p))
      (λ p. ap (λ (x : Data). way d x) (sym (alike-≡ e f p)))
      (λ _ _. all_transits ds es fs)
      h
      k

  pub fields_transits : (ds es fs : Fields) → way_fields ds es ≡ before → way_fields es fs ≡ before → way_fields ds fs ≡ before
  fields_transits no_field no_field fs h k = absurd (alike≢before h)
  fields_transits no_field (field m e es) no_field h k = absurd (behind≢before k)
  fields_transits no_field (field m e es) (field o f fs) h k = refl
  fields_transits (field n d ds) no_field fs h k = absurd (behind≢before h)
  fields_transits (field n d ds) (field m e es) no_field h k = absurd (behind≢before k)
  fields_transits (field n d ds) (field m e es) (field o f fs) h k =
      then_transits
      (way_text n m)
      (way_text m o)
      (way_text n o)
      (then_way (way d e) (way_fields ds es))
      (then_way (way e f) (way_fields es fs))
      (then_way (way d f) (way_fields ds fs))
      (text_transits n m o)
      (λ p. ap (λ (x : Name). way_text x o) (alike_text n m p))
      (λ p. ap (λ (x : Name). way_text n x) (sym (alike_text m o p)))
      (λ _ _. then_transits
      (way d e)
      (way e f)
      (way d f)
      (way_fields ds es)
      (way_fields es fs)
      (way_fields ds fs)
      (way_transits d e f)
      (λ p. ap (λ (x : Data). way x f) (alike-≡ d e p))
      (λ p. ap (λ (x : Data). way d x) (sym (alike-≡ e f p)))
      (λ _ _. fields_transits ds es fs))
      h
      k

pub transits : WayTransits
unfolding WayTransits
transits d e f = way_transits d e f
