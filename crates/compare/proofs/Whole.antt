-- Two values, once their parts are compared.
use Rattle.std.proofs.Common.{◌≡◌, ℕ, suc, ◌+◌, ◌-◌, ◌<◌, ◌≤◌, Bool, true, false, List, length, sym, refl, ap, ◌∙◌, subst, ap₂, arith}
use Rattle.std.specs.declared.cmp.Ordering.{Ordering}
use Rattle.std.specs.declared.cmp.Ordering.TheVariants.{Less, Equal, Greater}
use Rattle.std.specs.Bool.{Decides}
use Rattle.std.specs.Ordering.{is_eq, nat_cmp}
use Rattle.std.specs.Cmp.Lexicographic.{slice_cmp}
use Rattle.query.specs.Data.{Data, bag, rec, left, right, Datas, Fields, same, same_text}
use Rattle.query.proofs.Texts.{same_text_true, same_text_self}
use Rattle.ordering.specs.Order.{Way, alike, way, way_text, on_bag_way, on_rec_way, on_left_way, on_right_way, AlikeIffSame, WayTextIsLess}
use Rattle.ordering.proofs.Alike.{alike_iff_same}
use Rattle.ordering.proofs.Texts.{way_text_is_less, text_alike}
use Rattle.values.specs.Memory.{Used, Spelled, Holds}
use Rattle.values.specs.Height.{height, height_all, height_fields}
use Rattle.values.specs.declared.value.Place.{Place}
use Rattle.values.specs.declared.value.Value.{Value}
use Rattle.values.specs.declared.value.Value.TheVariants.{Bag, Record, Left, Right}
use Rattle.compare.specs.Compare.{stands, OrdersTexts, MatchesTexts, Orders, Matches, OrdersBags, OrdersRecords, OrdersSides, FlatWay}
use Rattle.compare.proofs.One.{Shape, shape, spelled_one}
use Rattle.compare.proofs.Told.{ways, one_value, Unmet, low}
use Rattle.compare.proofs.Steps.{way_of_bytes}

-- a value by another name
known_as : (bs m : List ℕ) (u : Used) (d : Data) (a v : Value) → a ≡ v → Holds bs m u d a → Shape bs m u d v
known_as bs m u d a v e h = shape bs m u d v (subst (λ (x : Value). Holds bs m u d x) e h)

high_bag : (d : Data) (ds : Datas) (k : ℕ) → d ≡ bag ds → height d ≤ k → suc (height_all ds) ≤ k
unfolding height
high_bag d ds k e h = subst (λ (x : Data). height x ≤ k) e h

high_rec : (d : Data) (fs : Fields) (k : ℕ) → d ≡ rec fs → height d ≤ k → suc (height_fields fs) ≤ k
unfolding height
high_rec d fs k e h = subst (λ (x : Data). height x ≤ k) e h

high_left : (d x : Data) (k : ℕ) → d ≡ left x → height d ≤ k → suc (height x) ≤ k
unfolding height
high_left d x k e h = subst (λ (z : Data). height z ≤ k) e h

high_right : (d x : Data) (k : ℕ) → d ≡ right x → height d ≤ k → suc (height x) ≤ k
unfolding height
high_right d x k e h = subst (λ (z : Data). height z ≤ k) e h

module _ (bs m : List ℕ) (a b : Value) where
  -- what lies at one place is alike
  pub whole_one : (depth : ℕ) → a ≡ b → Orders bs m a b depth Equal
  whole_one depth p = record { is = λ d e u h g l k. one_value bs m u b d e (subst (λ (x : Value). Holds bs m u d x) p h) g }

  pub whole_known : (depth : ℕ) (o : Ordering) → FlatWay bs a b o → Unmet a b → Orders bs m a b depth o
  whole_known depth o s n = record { is = λ d e u h g l k. s.is m d e u h g (low bs a b n m u d e h g) }

  module _ (depth deep : ℕ) (within : (1 ≤ depth) × (deep ≡ depth - 1)) (o : Ordering) where
    pub whole_bags : (p q : Place) → a ≡ Bag p → b ≡ Bag q → OrdersBags bs m p q deep o → Orders bs m a b depth o
    unfolding way on_bag_way
    whole_bags p q ea eb s = record {
      is = λ d e u h g l k.
          let x = known_as bs m u d a (Bag p) ea h in
          let y = known_as bs m u e b (Bag q) eb g in
          s.is x.0 y.0 u (record { run_p = x.2; run_q = y.2; lie_p = x.3; lie_q = y.3; low = l; flat = omega (arith, high_bag d x.0 depth x.1 k) }) ∙ sym (ways x.1 y.1);
    }

    pub whole_records : (p q : Place) → a ≡ Record p → b ≡ Record q → OrdersRecords bs m p q deep o → Orders bs m a b depth o
    unfolding way on_rec_way
    whole_records p q ea eb s = record {
      is = λ d e u h g l k.
          let x = known_as bs m u d a (Record p) ea h in
          let y = known_as bs m u e b (Record q) eb g in
          s.is x.0 y.0 u (record { run_p = x.2; run_q = y.2; lie_p = x.3; lie_q = y.3; low = l; flat = omega (arith, high_rec d x.0 depth x.1 k) }) ∙ sym (ways x.1 y.1);
    }

    module _ (i j : ℕ) (s : OrdersSides bs m i j deep o) where
      pub whole_lefts : a ≡ Left i → b ≡ Left j → Orders bs m a b depth o
      unfolding way on_left_way
      whole_lefts ea eb = record {
        is = λ d e u h g l k.
            let x = known_as bs m u d a (Left i) ea h in
            let y = known_as bs m u e b (Left j) eb g in
            s.is x.0 y.0 u x.2 y.2 x.3 y.3 l (omega (arith, high_left d x.0 depth x.1 k)) ∙ sym (ways x.1 y.1);
      }

      pub whole_rights : a ≡ Right i → b ≡ Right j → Orders bs m a b depth o
      unfolding way on_right_way
      whole_rights ea eb = record {
        is = λ d e u h g l k.
            let x = known_as bs m u d a (Right i) ea h in
            let y = known_as bs m u e b (Right j) eb g in
            s.is x.0 y.0 u x.2 y.2 x.3 y.3 l (omega (arith, high_right d x.0 depth x.1 k)) ∙ sym (ways x.1 y.1);
      }

-- alike is the same
tells : (o : Ordering) (w : Way) (b : Bool) → stands o ≡ w → (w ≡ alike → b ≡ true) → (b ≡ true → w ≡ alike) → is_eq o ≡ b
tells Less w true e f g = absurd (let z : ◌≡◌ {A = ℕ} 0 1 = cc (g refl) in omega arith)
tells Less w false e f g = refl
tells Equal w b e f g = sym (f (sym e))
tells Greater w true e f g = absurd (let z : ◌≡◌ {A = ℕ} 0 1 = cc (g refl) in omega arith)
tells Greater w false e f g = refl

pub texts_match : (bs : List ℕ) (a b : Place) (o : Ordering) → OrdersTexts bs a b o → MatchesTexts bs a b (is_eq o)
unfolding WayTextIsLess
texts_match bs a b o s = record { is = λ x y h k. tells o (way_text x y) (same_text x y) (s.is x y h k) (way_text_is_less x y).2 (way_text_is_less x y).3 }

pub values_match : (bs m : List ℕ) (a b : Value) (depth : ℕ) (o : Ordering) → Orders bs m a b depth o → Matches bs m a b depth (is_eq o)
unfolding AlikeIffSame
values_match bs m a b depth o s = record { is = λ d e u h g l k. tells o (way d e) (same d e) (s.is d e u h g l k) (alike_iff_same d e).0 (alike_iff_same d e).1 }

module _ (bs : List ℕ) (a b : Place) where
  -- texts at one place are alike
  pub texts_one : a ≡ b → OrdersTexts bs a b Equal
  texts_one e = subst (λ (x : Place). OrdersTexts bs a x Equal) e (record { is = λ s t h k. sym (subst (λ (x : List ℕ). way_text s x ≡ alike) (spelled_one h k) (text_alike s)) })

  pub texts_past_a : (o : Ordering) → length bs < a.start + a.count → OrdersTexts bs a b o
  texts_past_a o n = record { is = λ s t h k. absurd (let z : ⊥ = omega (arith, h.within) in z) }

  pub texts_past_b : (o : Ordering) → length bs < b.start + b.count → OrdersTexts bs a b o
  texts_past_b o n = record { is = λ s t h k. absurd (let z : ⊥ = omega (arith, k.within) in z) }

  pub texts_read : (x y : List ℕ) (o : Ordering) → Spelled bs x a.start a.count → Spelled bs y b.start b.count → o ≡ slice_cmp nat_cmp x y → OrdersTexts bs a b o
  texts_read x y o p q e = record { is = λ s t h k. ap stands e ∙ way_of_bytes x y ∙ ap₂ (λ (v w : List ℕ). way_text v w) (spelled_one p h) (spelled_one q k) }

-- what `==` says of two texts
decided : (x y : List ℕ) (r : Bool) → Decides r (x ≡ y) → r ≡ same_text x y
decided x y true d = sym (subst (λ (z : List ℕ). same_text x z ≡ true) (d.0 refl) (same_text_self x))
decided x y false d = by (same_text x y) refl
  where
    by : (s : Bool) → same_text x y ≡ s → false ≡ same_text x y
    by true e = absurd (let no : false ≡ true = d.1 (same_text_true x y e) in cc)
    by false e = sym e

module _ (bs : List ℕ) (a b : Place) where
  -- a name at one place is the same
  pub names_one : a ≡ b → MatchesTexts bs a b true
  names_one e =
      record {
        is = λ s t p q.
            let r : Spelled bs t a.start a.count = subst (λ (z : Place). Spelled bs t z.start z.count) (sym e) q in
            let w : s ≡ t = spelled_one p r in
            sym (subst (λ (z : List ℕ). same_text s z ≡ true) w (same_text_self s));
      }

  pub names_read : (x y : List ℕ) (r : Bool) → Spelled bs x a.start a.count → Spelled bs y b.start b.count → Decides r (x ≡ y) → MatchesTexts bs a b r
  names_read x y r p q d = record { is = λ s t g h. decided x y r d ∙ ap₂ same_text (spelled_one p g) (spelled_one q h) }
