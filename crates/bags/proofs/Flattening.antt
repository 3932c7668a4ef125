-- A bag of bags as one bag.
use Rattle.std.proofs.Common.{◌≡◌, ℕ, ◌+◌, ◌*◌, ◌<◌, ◌≤◌, true, false, ◌&&◌, List, length, Some, None, Option, Ok, Err, Result, sym, refl, ap, ◌∙◌, subst, arith}
use Rattle.std.specs.Option.{ok_or}
use Rattle.query.specs.Data.{Data, unit, num, truth, text, bag, rec, left, right, Datas, none, more, join, how_many}
use Rattle.query.specs.Query.{Got, failed, on_bag, flat_all}
use Rattle.values.specs.Memory.{Used, Run, Holds, HoldsAll, Kept, Agree, Readable, loaded}
use Rattle.values.specs.Lent.{all, Appended, Appends, Crowded}
use Rattle.values.specs.declared.lent.Memory.{Memory}
use Rattle.values.specs.Making.{BagLies}
use Rattle.values.proofs.Frame.{kept_refl, kept_agree, kept_less, kept_trans, slot_same, all_kept}
use Rattle.values.proofs.Copy.{all_copied, all_join}
use Rattle.values.specs.declared.value.Place.{Place}
use Rattle.values.specs.declared.value.Value.{Value}
use Rattle.values.specs.declared.value.Value.TheVariants.{Bag}
use Rattle.bags.specs.declared.flat.NotFlat.{NotFlat}
use Rattle.bags.specs.declared.flat.NotFlat.TheVariants as unflat
use Rattle.bags.specs.Things.{rest, a_bag, things, all_bags, joined_all}
use Rattle.bags.specs.Bags.{ABag, Counts, Flattens}
use Rattle.bags.proofs.Things.{thing_at, rest_all, as_many, join_many, join_none, join_assoc, bag_made, top_within, crowded_kept}

-- the definition in one step, where all are bags, and where one is none
pub flat_joins : (ds : Datas) (f : Datas → Got) → all_bags ds ≡ true → flat_all ds f ≡ f (joined_all ds)
unfolding flat_all on_bag all_bags a_bag joined_all things
flat_joins none f e = refl
flat_joins (more unit ds) f e = absurd (let z : ◌≡◌ {A = ℕ} 0 1 = cc in let y : ⊥ = omega arith in y)
flat_joins (more (num n) ds) f e = absurd (let z : ◌≡◌ {A = ℕ} 0 1 = cc in let y : ⊥ = omega arith in y)
flat_joins (more (truth b) ds) f e = absurd (let z : ◌≡◌ {A = ℕ} 0 1 = cc in let y : ⊥ = omega arith in y)
flat_joins (more (text t) ds) f e = absurd (let z : ◌≡◌ {A = ℕ} 0 1 = cc in let y : ⊥ = omega arith in y)
flat_joins (more (bag es) ds) f e = flat_joins ds (λ xs. f (join es xs)) e
flat_joins (more (rec fs) ds) f e = absurd (let z : ◌≡◌ {A = ℕ} 0 1 = cc in let y : ⊥ = omega arith in y)
flat_joins (more (left d) ds) f e = absurd (let z : ◌≡◌ {A = ℕ} 0 1 = cc in let y : ⊥ = omega arith in y)
flat_joins (more (right d) ds) f e = absurd (let z : ◌≡◌ {A = ℕ} 0 1 = cc in let y : ⊥ = omega arith in y)

pub flat_fails : (ds : Datas) (f : Datas → Got) → all_bags ds ≡ false → flat_all ds f ≡ failed 0
unfolding flat_all on_bag all_bags a_bag
flat_fails none f e = absurd (let z : ◌≡◌ {A = ℕ} 0 1 = cc in let y : ⊥ = omega arith in y)
flat_fails (more unit ds) f e = refl
flat_fails (more (num n) ds) f e = refl
flat_fails (more (truth b) ds) f e = refl
flat_fails (more (text t) ds) f e = refl
flat_fails (more (bag es) ds) f e = flat_fails ds (λ xs. f (join es xs)) e
flat_fails (more (rec fs) ds) f e = refl
flat_fails (more (left d) ds) f e = refl
flat_fails (more (right d) ds) f e = refl

-- the value of a bag, and of anything else
on_bags : (d : Data) (bs m : List ℕ) (u : Used) (p : Place) → Holds bs m u d (Bag p) → (a_bag d ≡ true) × Run u p.start (3 * p.count) × HoldsAll bs m u (things d) p.start p.count
unfolding Holds a_bag things
on_bags unit bs m u p h = absurd (let z : ◌≡◌ {A = ℕ} 0 1 = cc in let y : ⊥ = omega arith in y)
on_bags (num k) bs m u p h = absurd (let z : ◌≡◌ {A = ℕ} 0 1 = cc in let y : ⊥ = omega arith in y)
on_bags (truth b) bs m u p h = absurd (let z : ◌≡◌ {A = ℕ} 0 1 = cc in let y : ⊥ = omega arith in y)
on_bags (text t) bs m u p h = absurd (let z : ◌≡◌ {A = ℕ} 0 1 = cc h.1 in let y : ⊥ = omega arith in y)
on_bags (bag es) bs m u p h =
    let e : h.0 ≡ p = cc h.1 in
    (refl, subst (λ (q : Place). Run u q.start (3 * q.count)) e h.2, subst (λ (q : Place). HoldsAll bs m u es q.start q.count) e h.3)
on_bags (rec fs) bs m u p h = absurd (let z : ◌≡◌ {A = ℕ} 0 1 = cc h.1 in let y : ⊥ = omega arith in y)
on_bags (left d) bs m u p h = absurd (let z : ◌≡◌ {A = ℕ} 0 1 = cc h.1 in let y : ⊥ = omega arith in y)
on_bags (right d) bs m u p h = absurd (let z : ◌≡◌ {A = ℕ} 0 1 = cc h.1 in let y : ⊥ = omega arith in y)

abbrev pub HasNoBag : Value → Type 0
HasNoBag v = (p : Place) → v ≡ Bag p → ⊥

no_bags : (d : Data) (bs m : List ℕ) (u : Used) (v : Value) → HasNoBag v → Holds bs m u d v → (a_bag d ≡ false) × (things d ≡ none)
unfolding Holds a_bag things
no_bags unit bs m u v e h = (refl, refl)
no_bags (num k) bs m u v e h = (refl, refl)
no_bags (truth b) bs m u v e h = (refl, refl)
no_bags (text t) bs m u v e h = (refl, refl)
no_bags (bag es) bs m u v e h = absurd (e h.0 h.1)
no_bags (rec fs) bs m u v e h = (refl, refl)
no_bags (left d) bs m u v e h = (refl, refl)
no_bags (right d) bs m u v e h = (refl, refl)

-- what a thing adds
all_is : (ds : Datas) (i : ℕ) (d : Data) → rest i ds ≡ more d (rest (i + 1) ds) → all_bags (rest i ds) ≡ (a_bag d && all_bags (rest (i + 1) ds))
unfolding all_bags
all_is ds i d e = ap all_bags e

joined_is : (ds : Datas) (i : ℕ) (d : Data) → rest i ds ≡ more d (rest (i + 1) ds) → joined_all (rest i ds) ≡ join (things d) (joined_all (rest (i + 1) ds))
unfolding joined_all
joined_is ds i d e = ap joined_all e

-- so many were counted, and the rest is to come
pub record Counted (p : Place) (m : List ℕ) (i total : ℕ) : Type 0 where
  pub small : total ≤ i * 18446744073709551616
  pub so_far : (bs : List ℕ) (u : Used) (ds : Datas) (top : ℕ) → BagLies bs m p ds u top → (all_bags ds ≡ all_bags (rest i ds)) × (how_many (joined_all ds) ≡ total + how_many (joined_all (rest i ds)))

pub count_begins : (p : Place) (m : List ℕ) → Counted p m 0 0
unfolding rest
count_begins p m = record { small = omega arith; so_far = λ bs u ds top b. (refl, omega arith) }

module _ (p : Place) (m : List ℕ) (i total : ℕ) (s : Counted p m i total) where
  pub count_more : (q : Place) → i < p.count → q.count < 18446744073709551616 → loaded m (p.start + 3 * i) ≡ Bag q → Counted p m (i + 1) (total + q.count)
  count_more q lt l v =
      record {
        small = omega (arith, s.small);
        so_far = λ bs u ds top b.
            let t = thing_at bs m u ds p.start p.count i b.lie lt in
            let h = on_bags t.0 bs m u q (subst (λ x. Holds bs m u t.0 x) v t.2) in
            let z = s.so_far bs u ds top b in
            let a : all_bags (rest i ds) ≡ all_bags (rest (i + 1) ds) = all_is ds i t.0 t.1 ∙ ap (λ x. x && all_bags (rest (i + 1) ds)) h.0 in
            let j = ap how_many (joined_is ds i t.0 t.1) in
            (z.0 ∙ a, omega (arith, z.1, j, join_many (things t.0) (joined_all (rest (i + 1) ds)), as_many bs m u (things t.0) q.start q.count h.2));
      }

  pub count_stops : (v : Value) → i < p.count → loaded m (p.start + 3 * i) ≡ v → HasNoBag v → Counts p m None
  count_stops v lt e n =
      record {
        means = λ bs u ds top b.
            let t = thing_at bs m u ds p.start p.count i b.lie lt in
            let h = no_bags t.0 bs m u v n (subst (λ x. Holds bs m u t.0 x) e t.2) in
            (s.so_far bs u ds top b).0 ∙ all_is ds i t.0 t.1 ∙ ap (λ x. x && all_bags (rest (i + 1) ds)) h.0;
      }

  pub count_ends : i ≡ p.count → Counts p m (Some total)
  unfolding all_bags joined_all how_many
  count_ends e =
      record {
        means = λ bs u ds top b.
            let z : rest i ds ≡ none = ap (λ x. rest x ds) e ∙ rest_all bs m u ds p.start p.count b.lie in
            let y = s.so_far bs u ds top b in
            let j : how_many (joined_all (rest i ds)) ≡ 0 = ap (λ x. how_many (joined_all x)) z in
            (y.0 ∙ ap all_bags z, omega (arith, y.1));
      }

-- the things of some bags lie where free memory began, and those of the rest are to come
pub record Filled (p : Place) (m n : Memory) (i : ℕ) : Type 0 where
  pub frozen : n.kept.now ≡ m.kept.now
  pub same : n.made.ghost_name ≡ m.made.ghost_name
  pub kept : Kept m.top (all m) (all n)
  pub over : m.top ≤ n.top
  pub so_far : (bs : List ℕ) (u : Used) (ds : Datas) → BagLies bs (all m) p ds u m.top →
      (xs : Datas) × (joined_all ds ≡ join xs (joined_all (rest i ds))) × (n.top ≡ m.top + 3 * how_many xs) × HoldsAll bs (all n) u xs m.top (how_many xs)

pub fill_begins : (p : Place) (m : Memory) → Filled p m m 0
unfolding rest join how_many HoldsAll
fill_begins p m = record { frozen = refl; same = refl; kept = kept_refl; over = omega arith; so_far = λ bs u ds b. (none, refl, omega arith, refl) }

module _ (p : Place) (m n : Memory) (i : ℕ) (s : Filled p m n i) where
  -- a slot below the top is as it was
  there : (v : Value) {bs : List ℕ} {u : Used} {ds : Datas} → BagLies bs (all m) p ds u m.top → i < p.count → v ≡ loaded (all n) (p.start + 3 * i) → loaded (all m) (p.start + 3 * i) ≡ v
  there v b lt e = sym (e ∙ slot_same (all m) (all n) (p.start + 3 * i) (λ k x y. s.kept.same k (b.low.low k (b.run.used k (omega arith) (omega arith)))))

  -- what the bag at a slot is
  bag_there : (q : Place) {bs : List ℕ} {u : Used} {ds : Datas} → BagLies bs (all m) p ds u m.top → i < p.count → Bag q ≡ loaded (all n) (p.start + 3 * i) →
      (es : Datas) × (joined_all (rest i ds) ≡ join es (joined_all (rest (i + 1) ds))) × Run u q.start (3 * q.count) × HoldsAll bs (all m) u es q.start q.count
  bag_there q {bs} {u} {ds} b lt v =
      let t = thing_at bs (all m) u ds p.start p.count i b.lie lt in
      let h = on_bags t.0 bs (all m) u q (subst (λ x. Holds bs (all m) u t.0 x) (there (Bag q) b lt v) t.2) in
      (things t.0, joined_is ds i t.0 t.1, h.1, h.2)

  pub fill_readable : (q : Place) → ABag p (all m) m.top → i < p.count → Bag q ≡ loaded (all n) (p.start + 3 * i) → Readable q n.top
  fill_readable q r lt v =
      let b = r.lies in
      let t = bag_there q b lt v in
      record { spots = λ j l. let k : q.start + 3 * j + 2 < m.top = b.low.low _ (t.2.used (q.start + 3 * j + 2) (omega arith) (omega arith)) in omega (arith, s.over) }

  pub fill_more : (q : Place) {o : Memory} {start : ℕ} → i < p.count → Bag q ≡ loaded (all n) (p.start + 3 * i) → Appended q n o start → Filled p m o (i + 1)
  fill_more q {o} lt v e =
      let c = e.copied in
      record {
        frozen = e.moved.frozen ∙ s.frozen;
        same = e.moved.same ∙ s.same;
        kept = kept_trans s.kept c.kept s.over;
        over = omega (arith, s.over, e.moved.top);
        so_far = λ bs u ds b.
            let t = bag_there q b lt v in
            let z = s.so_far bs u ds b in
            let a : Agree u (all m) (all n) = kept_agree b.low s.kept in
            let a2 : Agree u (all n) (all o) = kept_agree b.low (kept_less c.kept s.over) in
            let k = how_many z.0 in
            let l = as_many bs (all m) u t.0 q.start q.count t.3 in
            let one : HoldsAll bs (all o) u z.0 m.top k = all_kept bs u z.0 m.top k a2 (λ j y. y) (λ j x y. c.kept.same j (omega (arith, z.2))) z.3 in
            let from : HoldsAll bs (all n) u t.0 q.start q.count = all_kept bs u t.0 q.start q.count a (λ j y. y) (λ j x y. a.same j (t.2.used j x y)) t.3 in
            let other : HoldsAll bs (all o) u t.0 n.top q.count = all_copied bs (all n) (all o) u t.0 q.start n.top q.count a2 c.there from in
            let both : HoldsAll bs (all o) u (join z.0 t.0) m.top (k + q.count) = all_join bs (all o) u z.0 t.0 m.top k q.count one (subst (λ x. HoldsAll bs (all o) u t.0 x q.count) z.2 other) in
            let many : how_many (join z.0 t.0) ≡ k + q.count = join_many z.0 t.0 ∙ ap (λ x. k + x) l in (
              join z.0 t.0,
              z.1 ∙ ap (join z.0) t.1 ∙ sym (join_assoc z.0 t.0 (joined_all (rest (i + 1) ds))),
              omega (arith, z.2, many, e.moved.top),
              subst (λ x. HoldsAll bs (all o) u (join z.0 t.0) m.top x) (sym many) both,
            );
      }

  pub fill_skips : (v : Value) → i < p.count → v ≡ loaded (all n) (p.start + 3 * i) → HasNoBag v → Filled p m n (i + 1)
  unfolding join
  fill_skips v lt e no-b =
      record {
        frozen = s.frozen;
        same = s.same;
        kept = s.kept;
        over = s.over;
        so_far = λ bs u ds b.
            let t = thing_at bs (all m) u ds p.start p.count i b.lie lt in
            let h = no_bags t.0 bs (all m) u v no-b (subst (λ x. Holds bs (all m) u t.0 x) (there v b lt e) t.2) in
            let z = s.so_far bs u ds b in
            (z.0, z.1 ∙ ap (join z.0) (joined_is ds i t.0 t.1 ∙ ap (λ x. join x (joined_all (rest (i + 1) ds))) h.1), z.2, z.3);
      }

  module _ (k : ℕ) (c : Counts p (all m) (Some k)) where
    fill_no_room : (q : Place) {o : Memory} (end : ℕ) → i < p.count → Bag q ≡ loaded (all n) (p.start + 3 * i) → Crowded n o (3 * q.count) → Flattens p (all m) m.top (all o) end (Err (unflat.NoRoom k))
    fill_no_room q {o} end lt v e =
        record {
          kept = kept_trans s.kept (crowded_kept {top = m.top} e) (omega arith);
          means = λ bs u ds b.
              let y = c.means bs u ds m.top b in
              let t = bag_there q b lt v in
              let z = s.so_far bs u ds b in
              let a = ap how_many z.1 in
              let j = ap how_many t.1 in
              let few = join_many t.0 (joined_all (rest (i + 1) ds)) in (
                joined_all ds,
                record { flat = λ f. flat_joins ds f y.0; many = y.1 },
                omega (arith, ap length e.words, e.short, z.2, a, join_many z.0 (joined_all (rest i ds)), j, few, as_many bs (all m) u t.0 q.start q.count t.3),
              );
        }

    pub not_appended : (q : Place) (o : Memory) (end : ℕ) (r : Option ℕ) (e : NotFlat) → i < p.count → Bag q ≡ loaded (all n) (p.start + 3 * i) → Appends q n o r → Err e ≡ ok_or r (unflat.NoRoom k) → Flattens p (all m) m.top (all o) end (Err e)
    not_appended q o end None e lt v a h = let z : ◌≡◌ {A = Result ℕ NotFlat} (Err e) (Err (unflat.NoRoom k)) = h in let y : e ≡ unflat.NoRoom k = cc in rw y (fill_no_room q end lt v a)
    not_appended q o end (Some at) e lt v a h = absurd (let z : ◌≡◌ {A = Result ℕ NotFlat} (Err e) (Ok at) = h in let y : ⊥ = cc in y)

    -- where all were gone through
    module _ (e : i ≡ p.count) where
      end_is : {bs : List ℕ} {u : Used} {ds : Datas} → BagLies bs (all m) p ds u m.top → (n.top ≡ m.top + 3 * k) × HoldsAll bs (all n) u (joined_all ds) m.top k
      unfolding joined_all
      end_is {bs} {u} {ds} b =
          let y = c.means bs u ds m.top b in
          let z = s.so_far bs u ds b in
          let w : rest i ds ≡ none = ap (λ x. rest x ds) e ∙ rest_all bs (all m) u ds p.start p.count b.lie in
          let x : joined_all ds ≡ z.0 = z.1 ∙ ap (λ q. join z.0 (joined_all q)) w ∙ join_none z.0 in
          let l : how_many z.0 ≡ k = sym (y.1 ∙ ap how_many x) in
          (z.2 ∙ ap (λ q. m.top + 3 * q) l, subst (λ q. HoldsAll bs (all n) u q m.top k) (sym x) (subst (λ q. HoldsAll bs (all n) u z.0 m.top q) l z.3))

      pub flat_fits : ABag p (all m) m.top → 3 * k ≤ n.top
      flat_fits r = omega (arith, (end_is r.lies).0)

      pub flat_made : Flattens p (all m) m.top (all n) n.top (Ok (record { bag = Bag (record { start = m.top; count = k }); count = k }))
      flat_made =
          record {
            kept = s.kept;
            means = λ bs u ds b.
                let y = c.means bs u ds m.top b in
                let z = end_is b in (
                  joined_all ds,
                  record { flat = λ g. flat_joins ds g y.0; many = y.1 },
                  bag_made bs (all n) (joined_all ds) u m.top n.top m.top k (3 * how_many (joined_all ds)) z.1 (omega arith) (omega (arith, z.0)) (top_within n) (omega (arith, z.0, y.1)),
                );
          }

flat_no_bag : (p : Place) (m : List ℕ) (top end : ℕ) → Counts p m None → Flattens p m top m end (Err unflat.NoBag)
flat_no_bag p m top end c = record { kept = kept_refl; means = λ bs u ds b f. flat_fails ds f (c.means bs u ds top b) }

pub not_counted : (p : Place) (m : List ℕ) (top end : ℕ) (r : Option ℕ) (e : NotFlat) → Counts p m r → Err e ≡ ok_or r unflat.NoBag → Flattens p m top m end (Err e)
not_counted p m top end None e c h = let z : ◌≡◌ {A = Result ℕ NotFlat} (Err e) (Err unflat.NoBag) = h in let y : e ≡ unflat.NoBag = cc in rw y (flat_no_bag p m top end c)
not_counted p m top end (Some k) e c h = absurd (let z : ◌≡◌ {A = Result ℕ NotFlat} (Err e) (Ok k) = h in let y : ⊥ = cc in y)

-- there is no room for so many
pub flat_no_room : (p : Place) (m : List ℕ) (top end k : ℕ) → Counts p m (Some k) → length m < top + 3 * k → Flattens p m top m end (Err (unflat.NoRoom k))
flat_no_room p m top end k c short =
    record {
      kept = kept_refl;
      means = λ bs u ds b.
          let y = c.means bs u ds top b in
          (joined_all ds, record { flat = λ f. flat_joins ds f y.0; many = y.1 }, omega (arith, y.1, short));
    }
