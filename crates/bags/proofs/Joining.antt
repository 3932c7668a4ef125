-- One value in a bag, and two bags in one.
use Rattle.std.proofs.Common.{◌≡◌, ℕ, ◌+◌, ◌*◌, ◌<◌, List, length, Some, None, sym, refl, ap, subst, arith}
use Rattle.query.specs.Data.{Datas, none, more, join, how_many}
use Rattle.values.specs.Memory.{Used, Holds, HoldsAll, Kept, loaded, Agree}
use Rattle.values.specs.Lent.{all, Pushed, Appended, Crowded}
use Rattle.values.specs.Making.{BagLies}
use Rattle.values.proofs.Frame.{kept_refl, kept_agree, kept_less, kept_trans, stored_kept, holds_kept, all_kept}
use Rattle.values.proofs.Copy.{all_copied, all_join}
use Rattle.values.specs.declared.lent.Memory.{Memory}
use Rattle.values.specs.declared.value.Place.{Place}
use Rattle.values.specs.declared.value.Value.{Value}
use Rattle.values.specs.declared.value.Value.TheVariants.{Bag}
use Rattle.bags.specs.Bags.{PutsInBag, Joins}
use Rattle.bags.proofs.Things.{as_many, join_many, bag_made, top_within, crowded_kept}

pub one_made : {v : Value} {m n : Memory} {start : ℕ} → Pushed 3 loaded v m n start → PutsInBag v (all m) m.top (all n) (Some (record { value = Bag (record { start = start; count = 1 }); top = n.top }))
unfolding HoldsAll
one_made {v} {m} {n} {start} s =
    let kept : Kept m.top (all m) (all n) = stored_kept s.put (omega arith) in
    record {
      kept = kept;
      means = λ bs u d h low.
          rw s.begins
          (bag_made bs (all n) (more d none) u m.top n.top m.top 1 3
          (0, refl, subst (λ x. Holds bs (all n) u d x) (sym s.put.there) (holds_kept bs u d v (kept_agree low kept) (λ k t. t) h), refl)
          (omega arith) (omega (arith, s.moved.top)) (top_within n) (omega (arith, s.moved.top)));
    }

pub one_no_room : {v : Value} {m n : Memory} → Crowded m n 3 → PutsInBag v (all m) m.top (all n) None
one_no_room c = record { kept = crowded_kept c; means = λ bs u d k low. omega (arith, ap length c.words, c.short) }

module _ (x y : Place) (m : Memory) where
  counted : {bs : List ℕ} {u : Used} {ds es : Datas} → BagLies bs (all m) x ds u m.top → BagLies bs (all m) y es u m.top → how_many (join ds es) ≡ x.count + y.count
  counted {bs} {u} {ds} {es} g h = omega (arith, join_many ds es, as_many bs (all m) u ds x.start x.count g.lie, as_many bs (all m) u es y.start y.count h.lie)

  pub first_no_room : {n : Memory} → Crowded m n (3 * x.count) → Joins x y (all m) m.top (all n) None
  first_no_room c = record { kept = crowded_kept c; means = λ bs u ds es g h. omega (arith, counted g h, ap length c.words, c.short) }

  pub no_room_for_both : length (all m) < m.top + 3 * (x.count + y.count) → Joins x y (all m) m.top (all m) None
  no_room_for_both short = record { kept = kept_refl; means = λ bs u ds es g h. omega (arith, counted g h, short) }

  module _ {n : Memory} {start : ℕ} (c : Appended x m n start) where
    pub second_no_room : {o : Memory} → Crowded n o (3 * y.count) → Joins x y (all m) m.top (all o) None
    second_no_room {o} e =
        record {
          kept = kept_trans c.copied.kept (crowded_kept {top = m.top} e) (omega arith);
          means = λ bs u ds es g h. omega (arith, counted g h, ap length e.words, e.short, c.moved.top);
        }

    pub both_joined : {o : Memory} {next : ℕ} → Appended y n o next → Joins x y (all m) m.top (all o) (Some (record { value = Bag (record { start = start; count = x.count + y.count }); top = o.top }))
    both_joined {o} e =
        let at : n.top ≡ m.top + 3 * x.count = c.moved.top in
        let kept : Kept m.top (all n) (all o) = kept_less e.copied.kept (omega (arith, at)) in
        record {
          kept = kept_trans c.copied.kept kept (omega arith);
          means = λ bs u ds es g h.
              let a : Agree u (all m) (all n) = kept_agree g.low c.copied.kept in
              let b : Agree u (all n) (all o) = kept_agree g.low kept in
              let one : HoldsAll bs (all o) u ds m.top x.count =
              all_kept bs u ds m.top x.count b (λ k t. t) (λ k p q. e.copied.kept.same k (omega (arith, at))) (all_copied bs (all m) (all n) u ds x.start m.top x.count a c.copied.there g.lie) in
              let there : HoldsAll bs (all n) u es y.start y.count =
              all_kept bs u es y.start y.count a (λ k t. t) (λ k p q. a.same k (h.run.used k p q)) h.lie in
              let other : HoldsAll bs (all o) u es n.top y.count = all_copied bs (all n) (all o) u es y.start n.top y.count b e.copied.there there in
              rw c.begins
              (bag_made bs (all o) (join ds es) u m.top o.top m.top (x.count + y.count) (3 * how_many (join ds es))
              (all_join bs (all o) u ds es m.top x.count y.count one (subst (λ k. HoldsAll bs (all o) u es k y.count) at other))
              (omega arith) (omega (arith, at, e.moved.top)) (top_within o) (omega (arith, at, e.moved.top, counted g h)));
        }
