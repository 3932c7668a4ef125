-- Two bags, thing by thing.
use Rattle.std.proofs.Common.{◌≡◌, ℕ, ◌+◌, ◌-◌, ◌*◌, ◌<◌, ◌≤◌, min, max, true, false, List, sym, refl, ap, ◌∙◌, subst, arith}
use Rattle.query.specs.Data.{Data, Datas, none, more}
use Rattle.ordering.specs.Order.{then_way, way, way_all, way_num, on_none_way, on_more_way}
use Rattle.ordering.proofs.Ways.{Numbers, less, even, over, numbers, num_before, num_alike, num_behind}
use Rattle.values.specs.Memory.{Used, Holds, HoldsAll, loaded}
use Rattle.values.specs.Height.{height, height_all}
use Rattle.values.specs.declared.value.Place.{Place}
use Rattle.values.specs.declared.value.Value.{Value}
use Rattle.std.specs.declared.cmp.Ordering.{Ordering}
use Rattle.std.specs.Ordering.{is_ne}
use Rattle.compare.specs.Compare.{stands, Orders, BagsLie, OrdersBags}
use Rattle.compare.proofs.Steps.{stops, goes_on}

-- what is still to come of two bags, after so many things of each that were alike
pub record Rest (bs m : List ℕ) (p q : Place) (depth i : ℕ) (u : Used) (ds es : Datas) : Type 0 where
  pub xs : Datas
  pub ys : Datas
  pub lie_xs : HoldsAll bs m u xs (p.start + 3 * i) (p.count - i)
  pub lie_ys : HoldsAll bs m u ys (q.start + 3 * i) (q.count - i)
  pub flat : height_all xs ≤ depth
  pub same : way_all ds es ≡ way_all xs ys

pub record BagsFrom (bs m : List ℕ) (p q : Place) (depth i : ℕ) : Type 0 where
  pub rest : (ds es : Datas) (u : Used) → BagsLie bs m p q depth u ds es → Rest bs m p q depth i u ds es

-- a place and a count, each under another name
moved : (bs m : List ℕ) (u : Used) (ds : Datas) (at bt n k : ℕ) → at ≡ bt → n ≡ k → HoldsAll bs m u ds at n → HoldsAll bs m u ds bt k
moved bs m u ds at bt n k p q h = subst (λ (x : ℕ). HoldsAll bs m u ds x k) p (subst (λ (x : ℕ). HoldsAll bs m u ds at x) q h)

pub bags_begin : (bs m : List ℕ) (p q : Place) (depth : ℕ) → BagsFrom bs m p q depth 0
bags_begin bs m p q depth = record {
  rest = λ ds es u l. record {
    xs = ds;
    ys = es;
    flat = l.flat;
    same = refl;
    lie_xs = moved bs m u ds _ _ _ _ (omega arith) (omega arith) l.lie_p;
    lie_ys = moved bs m u es _ _ _ _ (omega arith) (omega arith) l.lie_q;
  };
}

-- the first of a bag's things, and the others
record First (bs m : List ℕ) (u : Used) (ds : Datas) (at n : ℕ) : Type 0 where
  item : Data
  others : Datas
  is : ds ≡ more item others
  holds : Holds bs m u item (loaded m at)
  lie : HoldsAll bs m u others (at + 3) (n - 1)

first : (bs m : List ℕ) (u : Used) (ds : Datas) (at n : ℕ) → 0 < n → HoldsAll bs m u ds at n → First bs m u ds at n
unfolding HoldsAll
first bs m u none at n l h = absurd (let z : ⊥ = omega (arith, h) in z)
first bs m u (more d ds) at n l h =
    record { item = d; others = ds; is = refl; holds = h.2; lie = moved bs m u ds (at + 3) (at + 3) _ _ refl (omega (arith, h.1)) h.3 }

ended : (bs m : List ℕ) (u : Used) (ds : Datas) (at n : ℕ) → n ≡ 0 → HoldsAll bs m u ds at n → ds ≡ none
unfolding HoldsAll
ended bs m u none at n e h = refl
ended bs m u (more d ds) at n e h = absurd (let z : ⊥ = omega (arith, h.1) in z)

-- a bag's height is that of its highest thing
flat_item : (ds xs : Datas) (d : Data) (k : ℕ) → ds ≡ more d xs → height_all ds ≤ k → height d ≤ k
unfolding height_all
flat_item ds xs d k e h = let l : max (height d) (height_all xs) ≤ k = subst (λ (x : Datas). height_all x ≤ k) e h in omega arith

flat_others : (ds xs : Datas) (d : Data) (k : ℕ) → ds ≡ more d xs → height_all ds ≤ k → height_all xs ≤ k
unfolding height_all
flat_others ds xs d k e h = let l : max (height d) (height_all xs) ≤ k = subst (λ (x : Datas). height_all x ≤ k) e h in omega arith

all_ways : (ds xs es ys : Datas) → ds ≡ xs → es ≡ ys → way_all ds es ≡ way_all xs ys
all_ways ds xs es ys p q = ap (λ (z : Datas). way_all z es) p ∙ ap (λ (z : Datas). way_all xs z) q

both_more : (ds xs es ys : Datas) (d e : Data) → ds ≡ more d xs → es ≡ more e ys → way_all ds es ≡ then_way (way d e) (way_all xs ys)
unfolding way_all on_more_way
both_more ds xs es ys d e p q = all_ways ds (more d xs) es (more e ys) p q

module _ (bs m : List ℕ) (p q : Place) (depth i : ℕ) (f : BagsFrom bs m p q depth i) where
  module _ (x y : Value) (o : Ordering) (lp : i < p.count) (lq : i < q.count) (ex : x ≡ loaded m (p.start + 3 * i)) (ey : y ≡ loaded m (q.start + 3 * i)) (s : Orders bs m x y depth o) where
    module _ (u : Used) (ds es : Datas) (l : BagsLie bs m p q depth u ds es) where
      w : Rest bs m p q depth i u ds es
      w = f.rest ds es u l

      a : First bs m u w.xs (p.start + 3 * i) (p.count - i)
      a = first bs m u w.xs (p.start + 3 * i) (p.count - i) (omega arith) w.lie_xs

      b : First bs m u w.ys (q.start + 3 * i) (q.count - i)
      b = first bs m u w.ys (q.start + 3 * i) (q.count - i) (omega arith) w.lie_ys

      step : way_all ds es ≡ then_way (way a.item b.item) (way_all a.others b.others)
      step = w.same ∙ both_more w.xs a.others w.ys b.others a.item b.item a.is b.is

      item : stands o ≡ way a.item b.item
      item =
          s.is a.item b.item u
          (subst (λ (v : Value). Holds bs m u a.item v) (sym ex) a.holds)
          (subst (λ (v : Value). Holds bs m u b.item v) (sym ey) b.holds)
          l.low
          (flat_item w.xs a.others a.item depth a.is w.flat)

    pub bags_stop : true ≡ is_ne o → OrdersBags bs m p q depth o
    bags_stop n = record { is = λ ds es u l. stops o _ _ (item u ds es l) n ∙ sym (step u ds es l) }

    pub bags_go_on : false ≡ is_ne o → BagsFrom bs m p q depth (i + 1)
    bags_go_on n = record {
      rest = λ ds es u l. record {
        xs = (a u ds es l).others;
        ys = (b u ds es l).others;
        flat = flat_others (w u ds es l).xs (a u ds es l).others (a u ds es l).item depth (a u ds es l).is (w u ds es l).flat;
        same = step u ds es l ∙ goes_on o _ _ (item u ds es l) n;
        lie_xs = moved bs m u (a u ds es l).others _ _ _ _ (omega arith) (omega arith) (a u ds es l).lie;
        lie_ys = moved bs m u (b u ds es l).others _ _ _ _ (omega arith) (omega arith) (b u ds es l).lie;
      };
    }

  module _ (e : i ≡ min p.count q.count) where
    done : (u : Used) (xs ys : Datas) → HoldsAll bs m u xs (p.start + 3 * i) (p.count - i) → HoldsAll bs m u ys (q.start + 3 * i) (q.count - i) → way_all xs ys ≡ way_num p.count q.count
    unfolding way_all on_none_way on_more_way
    done u xs ys h k = by (numbers p.count q.count) refl refl
      where
        by : {c d : ℕ} → Numbers c d → p.count ≡ c → q.count ≡ d → way_all xs ys ≡ way_num c d
        by (less {m = c} {n = d} l) g j =
            let y = first bs m u ys (q.start + 3 * i) (q.count - i) (omega arith) k in
            rw (num_before c d l) (all_ways xs none ys (more y.item y.others) (ended bs m u xs (p.start + 3 * i) (p.count - i) (omega arith) h) y.is)
        by (even {n = c}) g j =
            rw (num_alike c) (all_ways xs none ys none (ended bs m u xs (p.start + 3 * i) (p.count - i) (omega arith) h) (ended bs m u ys (q.start + 3 * i) (q.count - i) (omega arith) k))
        by (over {m = c} {n = d} l) g j =
            let x = first bs m u xs (p.start + 3 * i) (p.count - i) (omega arith) h in
            rw (num_behind c d l) (all_ways xs (more x.item x.others) ys none x.is (ended bs m u ys (q.start + 3 * i) (q.count - i) (omega arith) k))

    pub bags_end : (o : Ordering) → stands o ≡ way_num p.count q.count → OrdersBags bs m p q depth o
    bags_end o s = record { is = λ ds es u l. let w = f.rest ds es u l in s ∙ sym (w.same ∙ done u w.xs w.ys w.lie_xs w.lie_ys) }
