-- Two records, field by field.
use Rattle.std.proofs.Common.{◌≡◌, ℕ, ◌+◌, ◌-◌, ◌*◌, ◌<◌, ◌≤◌, min, max, true, false, List, get_or, sym, refl, ap, ◌∙◌, subst, arith}
use Rattle.query.specs.Data.{Name, Data, Fields, no_field, field}
use Rattle.ordering.specs.Order.{then_way, way, way_fields, way_num, way_text, on_no_field_way, on_field_way}
use Rattle.ordering.proofs.Ways.{Numbers, less, even, over, numbers, num_before, num_alike, num_behind}
use Rattle.values.specs.Memory.{Used, Spelled, Holds, HoldsFields, loaded, loaded_field}
use Rattle.values.specs.Height.{height, height_fields}
use Rattle.values.specs.declared.value.Place.{Place}
use Rattle.values.specs.declared.value.Field.{Field}
use Rattle.std.specs.declared.cmp.Ordering.{Ordering}
use Rattle.std.specs.Ordering.{is_ne}
use Rattle.compare.specs.Compare.{stands, OrdersTexts, Orders, RecordsLie, OrdersRecords}
use Rattle.compare.proofs.Steps.{stops, goes_on}

-- what is still to come of two records, after so many fields of each that were alike
pub record Rest (bs m : List ℕ) (p q : Place) (depth i : ℕ) (u : Used) (ds es : Fields) : Type 0 where
  pub xs : Fields
  pub ys : Fields
  pub lie_xs : HoldsFields bs m u xs (p.start + 5 * i) (p.count - i)
  pub lie_ys : HoldsFields bs m u ys (q.start + 5 * i) (q.count - i)
  pub flat : height_fields xs ≤ depth
  pub same : way_fields ds es ≡ way_fields xs ys

pub record RecordsFrom (bs m : List ℕ) (p q : Place) (depth i : ℕ) : Type 0 where
  pub rest : (ds es : Fields) (u : Used) → RecordsLie bs m p q depth u ds es → Rest bs m p q depth i u ds es

-- a place and a count, each under another name
moved : (bs m : List ℕ) (u : Used) (ds : Fields) (at bt n k : ℕ) → at ≡ bt → n ≡ k → HoldsFields bs m u ds at n → HoldsFields bs m u ds bt k
moved bs m u ds at bt n k p q h = subst (λ (x : ℕ). HoldsFields bs m u ds x k) p (subst (λ (x : ℕ). HoldsFields bs m u ds at x) q h)

pub records_begin : (bs m : List ℕ) (p q : Place) (depth : ℕ) → RecordsFrom bs m p q depth 0
records_begin bs m p q depth = record {
  rest = λ ds es u l. record {
    xs = ds;
    ys = es;
    flat = l.flat;
    same = refl;
    lie_xs = moved bs m u ds _ _ _ _ (omega arith) (omega arith) l.lie_p;
    lie_ys = moved bs m u es _ _ _ _ (omega arith) (omega arith) l.lie_q;
  };
}

-- the first of a record's fields, and the others
record First (bs m : List ℕ) (u : Used) (ds : Fields) (at n : ℕ) : Type 0 where
  name : Name
  item : Data
  others : Fields
  is : ds ≡ field name item others
  spelled : Spelled bs name (get_or m at 0) (get_or m (at + 1) 0)
  holds : Holds bs m u item (loaded m (at + 2))
  lie : HoldsFields bs m u others (at + 5) (n - 1)

first : (bs m : List ℕ) (u : Used) (ds : Fields) (at n : ℕ) → 0 < n → HoldsFields bs m u ds at n → First bs m u ds at n
unfolding HoldsFields
first bs m u no_field at n l h = absurd (let z : ⊥ = omega (arith, h) in z)
first bs m u (field t d ds) at n l h =
    record { name = t; item = d; others = ds; is = refl; spelled = h.2; holds = h.3; lie = moved bs m u ds (at + 5) (at + 5) _ _ refl (omega (arith, h.1)) h.4 }

ended : (bs m : List ℕ) (u : Used) (ds : Fields) (at n : ℕ) → n ≡ 0 → HoldsFields bs m u ds at n → ds ≡ no_field
unfolding HoldsFields
ended bs m u no_field at n e h = refl
ended bs m u (field t d ds) at n e h = absurd (let z : ⊥ = omega (arith, h.1) in z)

-- a record's height is that of its highest field
flat_item : (ds xs : Fields) (t : Name) (d : Data) (k : ℕ) → ds ≡ field t d xs → height_fields ds ≤ k → height d ≤ k
unfolding height_fields
flat_item ds xs t d k e h = let l : max (height d) (height_fields xs) ≤ k = subst (λ (x : Fields). height_fields x ≤ k) e h in omega arith

flat_others : (ds xs : Fields) (t : Name) (d : Data) (k : ℕ) → ds ≡ field t d xs → height_fields ds ≤ k → height_fields xs ≤ k
unfolding height_fields
flat_others ds xs t d k e h = let l : max (height d) (height_fields xs) ≤ k = subst (λ (x : Fields). height_fields x ≤ k) e h in omega arith

field_ways : (ds xs es ys : Fields) → ds ≡ xs → es ≡ ys → way_fields ds es ≡ way_fields xs ys
field_ways ds xs es ys p q = ap (λ (z : Fields). way_fields z es) p ∙ ap (λ (z : Fields). way_fields xs z) q

both_more : (ds xs es ys : Fields) (s t : Name) (d e : Data) → ds ≡ field s d xs → es ≡ field t e ys → way_fields ds es ≡ then_way (way_text s t) (then_way (way d e) (way_fields xs ys))
unfolding way_fields on_field_way
both_more ds xs es ys s t d e p q = field_ways ds (field s d xs) es (field t e ys) p q

-- a field that was loaded
spelled_as : (bs m : List ℕ) (f : Field) (t : Name) (at : ℕ) → f ≡ loaded_field m at → Spelled bs t (get_or m at 0) (get_or m (at + 1) 0) → Spelled bs t f.name.start f.name.count
unfolding loaded_field
spelled_as bs m f t at e h = subst (λ (g : Field). Spelled bs t g.name.start g.name.count) (sym e) h

held_as : (bs m : List ℕ) (u : Used) (f : Field) (d : Data) (at : ℕ) → f ≡ loaded_field m at → Holds bs m u d (loaded m (at + 2)) → Holds bs m u d f.value
unfolding loaded_field
held_as bs m u f d at e h = subst (λ (g : Field). Holds bs m u d g.value) (sym e) h

module _ (bs m : List ℕ) (p q : Place) (depth i : ℕ) (f : RecordsFrom bs m p q depth i) where
  module _ (x y : Field) (named : Ordering) (lp : i < p.count) (lq : i < q.count) (ex : x ≡ loaded_field m (p.start + 5 * i)) (ey : y ≡ loaded_field m (q.start + 5 * i)) (t : OrdersTexts bs x.name y.name named) where
    module _ (u : Used) (ds es : Fields) (l : RecordsLie bs m p q depth u ds es) where
      w : Rest bs m p q depth i u ds es
      w = f.rest ds es u l

      a : First bs m u w.xs (p.start + 5 * i) (p.count - i)
      a = first bs m u w.xs (p.start + 5 * i) (p.count - i) (omega arith) w.lie_xs

      b : First bs m u w.ys (q.start + 5 * i) (q.count - i)
      b = first bs m u w.ys (q.start + 5 * i) (q.count - i) (omega arith) w.lie_ys

      step : way_fields ds es ≡ then_way (way_text a.name b.name) (then_way (way a.item b.item) (way_fields a.others b.others))
      step = w.same ∙ both_more w.xs a.others w.ys b.others a.name b.name a.item b.item a.is b.is

      names : stands named ≡ way_text a.name b.name
      names = t.is a.name b.name (spelled_as bs m x a.name (p.start + 5 * i) ex a.spelled) (spelled_as bs m y b.name (q.start + 5 * i) ey b.spelled)

    pub names_stop : true ≡ is_ne named → OrdersRecords bs m p q depth named
    names_stop n = record { is = λ ds es u l. stops named _ _ (names u ds es l) n ∙ sym (step u ds es l) }

    module _ (o : Ordering) (alike-names : false ≡ is_ne named) (s : Orders bs m x.value y.value depth o) where
      item : (u : Used) (ds es : Fields) (l : RecordsLie bs m p q depth u ds es) → stands o ≡ way (a u ds es l).item (b u ds es l).item
      item u ds es l =
          s.is (a u ds es l).item (b u ds es l).item u
          (held_as bs m u x (a u ds es l).item (p.start + 5 * i) ex (a u ds es l).holds)
          (held_as bs m u y (b u ds es l).item (q.start + 5 * i) ey (b u ds es l).holds)
          l.low
          (flat_item (w u ds es l).xs (a u ds es l).others (a u ds es l).name (a u ds es l).item depth (a u ds es l).is (w u ds es l).flat)

      onward : (u : Used) (ds es : Fields) (l : RecordsLie bs m p q depth u ds es) → way_fields ds es ≡ then_way (way (a u ds es l).item (b u ds es l).item) (way_fields (a u ds es l).others (b u ds es l).others)
      onward u ds es l = step u ds es l ∙ goes_on named _ _ (names u ds es l) alike-names

      pub fields_stop : true ≡ is_ne o → OrdersRecords bs m p q depth o
      fields_stop n = record { is = λ ds es u l. stops o _ _ (item u ds es l) n ∙ sym (onward u ds es l) }

      pub fields_go_on : false ≡ is_ne o → RecordsFrom bs m p q depth (i + 1)
      fields_go_on n = record {
        rest = λ ds es u l. record {
          xs = (a u ds es l).others;
          ys = (b u ds es l).others;
          flat = flat_others (w u ds es l).xs (a u ds es l).others (a u ds es l).name (a u ds es l).item depth (a u ds es l).is (w u ds es l).flat;
          same = onward u ds es l ∙ goes_on o _ _ (item u ds es l) n;
          lie_xs = moved bs m u (a u ds es l).others _ _ _ _ (omega arith) (omega arith) (a u ds es l).lie;
          lie_ys = moved bs m u (b u ds es l).others _ _ _ _ (omega arith) (omega arith) (b u ds es l).lie;
        };
      }

  module _ (e : i ≡ min p.count q.count) where
    done : (u : Used) (xs ys : Fields) → HoldsFields bs m u xs (p.start + 5 * i) (p.count - i) → HoldsFields bs m u ys (q.start + 5 * i) (q.count - i) → way_fields xs ys ≡ way_num p.count q.count
    unfolding way_fields on_no_field_way on_field_way
    done u xs ys h k = by (numbers p.count q.count) refl refl
      where
        by : {c d : ℕ} → Numbers c d → p.count ≡ c → q.count ≡ d → way_fields xs ys ≡ way_num c d
        by (less {m = c} {n = d} l) g j =
            let y = first bs m u ys (q.start + 5 * i) (q.count - i) (omega arith) k in
            rw (num_before c d l) (field_ways xs no_field ys (field y.name y.item y.others) (ended bs m u xs (p.start + 5 * i) (p.count - i) (omega arith) h) y.is)
        by (even {n = c}) g j =
            rw (num_alike c) (field_ways xs no_field ys no_field (ended bs m u xs (p.start + 5 * i) (p.count - i) (omega arith) h) (ended bs m u ys (q.start + 5 * i) (q.count - i) (omega arith) k))
        by (over {m = c} {n = d} l) g j =
            let x = first bs m u xs (p.start + 5 * i) (p.count - i) (omega arith) h in
            rw (num_behind c d l) (field_ways xs (field x.name x.item x.others) ys no_field x.is (ended bs m u ys (q.start + 5 * i) (q.count - i) (omega arith) k))

    pub records_end : (o : Ordering) → stands o ≡ way_num p.count q.count → OrdersRecords bs m p q depth o
    records_end o s = record { is = λ ds es u l. let w = f.rest ds es u l in s ∙ sym (w.same ∙ done u w.xs w.ys w.lie_xs w.lie_ys) }
