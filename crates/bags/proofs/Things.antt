-- Things of a bag, one by one.
use Rattle.std.proofs.Common.{◌≡◌, ℕ, zero, suc, ◌+◌, ◌*◌, ◌<◌, ◌≤◌, List, length, sym, refl, ap, ◌∙◌, subst, add-one, arith, length-append}
use Rattle.query.specs.Data.{Data, bag, Datas, none, more, join, how_many}
use Rattle.values.specs.Memory.{Used, Holds, HoldsAll, loaded, Readable, Kept}
use Rattle.values.specs.Lent.{all, Crowded}
use Rattle.values.specs.Making.{MadeAs, BagLies}
use Rattle.values.proofs.Frame.{kept_refl, all_kept}
use Rattle.values.specs.declared.lent.Memory.{Memory}
use Rattle.values.specs.declared.value.Place.{Place}
use Rattle.values.specs.declared.value.Value.TheVariants.{Bag}
use Rattle.bags.specs.Things.{rest}
use Rattle.values.proofs.Ranged.{ranged, ranged_old, grown_ranged, run_ranged}

-- the slots of a bag that lies there can be read
pub bag_readable : {bs m : List ℕ} {p : Place} {ds : Datas} {u : Used} {top : ℕ} → BagLies bs m p ds u top → Readable p top
bag_readable {bs} {m} {p} {ds} {u} {top} b =
    record { spots = λ i lt. let k : p.start + 3 * i + 2 < top = b.low.low _ (b.run.used (p.start + 3 * i + 2) (omega arith) (omega arith)) in omega arith }

pub readable_more : {p : Place} {a b : ℕ} → Readable p a → a ≤ b → Readable p b
readable_more r h = record { spots = λ i lt. omega (arith, r.spots i lt) }

-- so there are not too many of them
pub few : (p : Place) (top : ℕ) → Readable p top → 3 * p.count ≤ top
few p top r = go p.count refl
  where
    go : (n : ℕ) → p.count ≡ n → 3 * p.count ≤ top
    go zero e = omega arith
    go (suc n) e = omega (arith, r.spots n (omega arith))

pub as_many : (bs m : List ℕ) (u : Used) (ds : Datas) (at k : ℕ) → HoldsAll bs m u ds at k → how_many ds ≡ k
unfolding HoldsAll how_many
as_many bs m u none at k h = sym h
as_many bs m u (more d ds) at k h = ap suc (as_many bs m u ds (at + 3) h.0 h.3) ∙ sym h.1

pub join_many : (ds es : Datas) → how_many (join ds es) ≡ how_many ds + how_many es
unfolding join how_many
join_many none es = omega arith
join_many (more d ds) es = omega (arith, join_many ds es)

pub join_none : (ds : Datas) → join ds none ≡ ds
unfolding join
join_none none = refl
join_none (more d ds) = ap (λ xs. more d xs) (join_none ds)

pub join_assoc : (ds es fs : Datas) → join (join ds es) fs ≡ join ds (join es fs)
unfolding join
join_assoc none es fs = refl
join_assoc (more d ds) es fs = ap (λ xs. more d xs) (join_assoc ds es fs)

pub rest_all : (bs m : List ℕ) (u : Used) (ds : Datas) (at k : ℕ) → HoldsAll bs m u ds at k → rest k ds ≡ none
unfolding HoldsAll rest
rest_all bs m u none at k h = rw h
rest_all bs m u (more d ds) at k h = ap (λ x. rest x (more d ds)) h.1 ∙ rest_all bs m u ds (at + 3) h.0 h.3

at_suc : (bs m : List ℕ) (u : Used) (ds : Datas) (at k i : ℕ) → HoldsAll bs m u ds at k → i < k → (d : Data) × (rest i ds ≡ more d (rest (suc i) ds)) × Holds bs m u d (loaded m (at + 3 * i))
unfolding HoldsAll rest
at_suc bs m u none at k i h lt = absurd (let z : ⊥ = omega (arith, h) in z)
at_suc bs m u (more d ds) at k zero h lt = let e : at ≡ at + 3 * 0 = omega arith in (d, refl, subst (λ x. Holds bs m u d (loaded m x)) e h.2)
at_suc bs m u (more d ds) at k (suc i) h lt =
    let q = at_suc bs m u ds (at + 3) h.0 i h.3 (omega (arith, h.1)) in
    let e : at + 3 + 3 * i ≡ at + 3 * suc i = omega arith in
    (q.0, q.1, subst (λ x. Holds bs m u q.0 (loaded m x)) e q.2)

-- the thing at a place, and those after it
pub thing_at : (bs m : List ℕ) (u : Used) (ds : Datas) (at k i : ℕ) → HoldsAll bs m u ds at k → i < k → (d : Data) × (rest i ds ≡ more d (rest (i + 1) ds)) × Holds bs m u d (loaded m (at + 3 * i))
thing_at bs m u ds at k i h lt =
    let q = at_suc bs m u ds at k i h lt in
    (q.0, q.1 ∙ ap (λ x. more q.0 (rest x ds)) (sym (add-one i)), q.2)

-- things that lie above a top are a bag
pub bag_made : (bs n : List ℕ) (ds : Datas) (u : Used) (top end start k need : ℕ) → HoldsAll bs n u ds start k → top ≤ start → start + 3 * k ≤ end → end ≤ length n → end ≤ top + need →
    MadeAs bs (bag ds) u top need n (record { value = Bag (record { start = start; count = k }); top = end })
unfolding Holds
bag_made bs n ds u top end start k need h a b c e =
    let w : Used = ranged u top end in
    record {
      now_used = w;
      grown = grown_ranged u top end;
      holds = (
        record { start = start; count = k },
        refl,
        run_ranged u top end start (3 * k) a b,
        all_kept bs w ds start k (record { same = λ i t. refl }) (λ i t. ranged_old u top end i t) (λ i p q. refl) h,
      );
      above = omega arith;
      within = c;
      thrifty = e;
    }

-- what is in use of lent memory lies in it
pub top_within : (m : Memory) → m.top ≤ length (all m)
top_within m = omega (arith, m.within, length-append m.kept.now m.made.now)

pub crowded_kept : {top need : ℕ} {m n : Memory} → Crowded m n need → Kept top (all m) (all n)
crowded_kept {top} {m = m} c = subst (λ x. Kept top (all m) x) (sym c.words) kept_refl
