-- What is in a bag, and each thing of a bag once.
use Rattle.std.proofs.Common.{◌≡◌, ℕ, zero, suc, ◌+◌, ◌-◌, ◌*◌, ◌<◌, ◌≤◌, max, Bool, true, false, ◌||◌, List, length, get_or, Some, None, sym, refl, ap, ◌∙◌, subst, add-one, arith}
use Rattle.std.specs.Bool.{MatchBool}
use Rattle.std.specs.List.{range_with_len, HoldsAt, AllWithin}
use Rattle.std.proofs.Math.Bool.{or-true}
use Rattle.std.proofs.lemmas.List.FromFn.{length-range_with_len, get_or-range_with_len}
use native.Mathlib.Nat.{le-max_left, le-max_right}
use Rattle.query.specs.Data.{pick, Data, Datas, none, more, same, how_many, is_in, once}
use Rattle.values.specs.Height.{height, height_all}
use Rattle.values.specs.Memory.{Used, Under, Holds, HoldsAll, Kept, Stored, Agree, loaded}
use Rattle.values.specs.Lent.{all, Taken, Crowded}
use Rattle.values.specs.declared.lent.Memory.{Memory}
use Rattle.values.specs.Making.{BagLies}
use Rattle.values.proofs.Frame.{kept_refl, kept_agree, kept_trans, stored_kept, slot_same, holds_kept, all_kept}
use Rattle.values.specs.declared.value.Place.{Place}
use Rattle.values.specs.declared.value.Value.{Value}
use Rattle.values.specs.declared.value.Value.TheVariants.{Bag}
use Rattle.compare.specs.Compare.{Matches}
use Rattle.bags.specs.Things.{rest}
use Rattle.bags.specs.Bags.{IsWithin, TakesOnce}
use Rattle.bags.proofs.Things.{thing_at, rest_all, as_many, bag_made, top_within, crowded_kept}

in_this : (d e : Data) (es : Datas) → true ≡ same d e → is_in d (more e es) ≡ true
unfolding is_in
in_this d e es h = ap (λ (z : Bool). z || is_in d es) (sym h)

in_others : (d e : Data) (es : Datas) → false ≡ same d e → is_in d (more e es) ≡ is_in d es
unfolding is_in
in_others d e es h = ap (λ (z : Bool). z || is_in d es) (sym h)

in_none : (d : Data) → is_in d none ≡ false
unfolding is_in
in_none d = refl

-- what is in a part of a bag is in it
in_rest : (d : Data) (i : ℕ) (ds : Datas) → is_in d (rest i ds) ≡ true → is_in d ds ≡ true
unfolding rest is_in
in_rest d zero ds h = h
in_rest d (suc i) none h = h
in_rest d (suc i) (more e es) h = ap (λ z. same d e || z) (in_rest d i es h) ∙ or-true (same d e)

-- what is in use below a top is below the end
pub under_end : {u : Used} {top : ℕ} (end : ℕ) → Under u top → top ≤ end → Under u end
under_end end low h = record { low = λ k t. omega (arith, low.low k t) }

-- the thing of that number is the same or another
abbrev pub IsThis : List ℕ → List ℕ → Value → Place → ℕ → Bool → ℕ → Type 0
IsThis bs m v p depth r i = Matches bs m v (loaded m (p.start + 3 * i)) depth r

module _ (bs m : List ℕ) (v : Value) (p : Place) (depth : ℕ) where
  as_told : (r : Bool) (i : ℕ) → i < p.count → IsThis bs m v p depth r i → (u : Used) (d : Data) (ds : Datas) (top : ℕ) → Holds bs m u d v → HoldsAll bs m u ds p.start p.count → Under u top → top ≤ length m → height d ≤ depth →
      (e : Data) × (rest i ds ≡ more e (rest (i + 1) ds)) × (r ≡ same d e)
  as_told r i lt h u d ds top hd a low room flat = let t = thing_at bs m u ds p.start p.count i a lt in (t.0, t.1, h.is d t.0 u hd t.2 (under_end (length m) low room) flat)

  is_there : (i : ℕ) → i < p.count → IsThis bs m v p depth true i → IsWithin bs m v p depth true
  is_there i lt h = record { means = λ u d ds top hd a low room flat. let t = as_told true i lt h u d ds top hd a low room flat in sym (in_rest d i ds (ap (is_in d) t.1 ∙ in_this d t.0 (rest (i + 1) ds) t.2)) }

  not_past : (i : ℕ) → i ≤ p.count → ((k : ℕ) → k < i → IsThis bs m v p depth false k) → (u : Used) (d : Data) (ds : Datas) (top : ℕ) → Holds bs m u d v → HoldsAll bs m u ds p.start p.count → Under u top → top ≤ length m → height d ≤ depth → is_in d ds ≡ is_in d (rest i ds)
  unfolding rest
  not_past zero le h u d ds top hd a low room flat = refl
  not_past (suc i) le h u d ds top hd a low room flat =
      let t = as_told false i (omega arith) (h i (omega arith)) u d ds top hd a low room flat in
      not_past i (omega arith) (λ k lt. h k (omega arith)) u d ds top hd a low room flat ∙ ap (is_in d) t.1 ∙ in_others d t.0 (rest (i + 1) ds) t.2 ∙ ap (λ z. is_in d (rest z ds)) (add-one i)

  not_there : ((k : ℕ) → k < p.count → IsThis bs m v p depth false k) → IsWithin bs m v p depth false
  not_there h = record { means = λ u d ds top hd a low room flat. sym (not_past p.count (omega arith) h u d ds top hd a low room flat ∙ ap (is_in d) (rest_all bs m u ds p.start p.count a) ∙ in_none d) }

  -- what was found of the numbers of a bag's things
  pub is_any : (r : Bool) → MatchBool r ((k : ℕ) × (k < length (range_with_len 0 p.count)) × HoldsAt (IsThis bs m v p depth true) (range_with_len 0 p.count) k) (AllWithin (IsThis bs m v p depth false) (range_with_len 0 p.count) 0 (length (range_with_len 0 p.count))) →
      IsWithin bs m v p depth r
  is_any true (k, lt, h) =
      let l : k < p.count = omega (arith, lt, length-range_with_len 0 p.count) in
      let e : get_or (range_with_len 0 p.count) k 0 ≡ k = get_or-range_with_len 0 p.count k 0 l ∙ (let z : 0 + k ≡ k = omega arith in z) in
      is_there k l (subst (IsThis bs m v p depth true) e (h 0))
  is_any false h =
      not_there (λ k l.
      let e : get_or (range_with_len 0 p.count) k 0 ≡ k = get_or-range_with_len 0 p.count k 0 l ∙ (let z : 0 + k ≡ k = omega arith in z) in
      subst (IsThis bs m v p depth false) e (h k 0 (omega arith) (omega (arith, length-range_with_len 0 p.count))))

-- no thing nests deeper than its bag
rest_height : (i : ℕ) (ds : Datas) → height_all (rest i ds) ≤ height_all ds
unfolding rest height_all
rest_height zero ds = omega arith
rest_height (suc i) none = omega arith
rest_height (suc i) (more d ds) = let a = rest_height i ds in let b : height_all ds ≤ max (height d) (height_all ds) = le-max_right (height d) (height_all ds) in omega arith

thing_height : (i : ℕ) (ds : Datas) (d : Data) (es : Datas) → rest i ds ≡ more d es → height d ≤ height_all ds
unfolding height_all
thing_height i ds d es e = let a = rest_height i ds in let b : height_all (rest i ds) ≡ max (height d) (height_all es) = ap height_all e in let c : height d ≤ max (height d) (height_all es) = le-max_left (height d) (height_all es) in omega arith

once_again : (d : Data) (ds : Datas) → true ≡ is_in d (once ds) → once (more d ds) ≡ once ds
unfolding once pick
once_again d ds h = rw (sym h)

once_new : (d : Data) (ds : Datas) → false ≡ is_in d (once ds) → once (more d ds) ≡ more d (once ds)
unfolding once pick
once_new d ds h = rw (sym h)

-- each thing from i on lies once from a start on
pub record OnceFrom (bs : List ℕ) (p : Place) (m : List ℕ) (depth top : ℕ) (n : List ℕ) (i start count : ℕ) : Type 0 where
  pub kept : Kept top m n
  pub few : i + count ≤ p.count
  pub at : start + 3 * count ≡ top + 3 * p.count
  pub room : top + 3 * p.count ≤ length n
  pub so_far : (u : Used) (ds : Datas) → BagLies bs m p ds u top → height_all ds ≤ depth → HoldsAll bs n u (once (rest i ds)) start count

pub once_begins : (bs : List ℕ) (p : Place) {m n : Memory} (depth : ℕ) {start : ℕ} → Taken 3 p.count m n start → OnceFrom bs p (all m) depth m.top (all n) p.count n.top 0
unfolding once HoldsAll
once_begins bs p {m} {n} depth t =
    let end : n.top ≡ m.top + 3 * p.count = t.moved.top in
    record {
      kept = subst (λ x. Kept m.top (all m) x) (sym t.words) kept_refl;
      few = omega arith;
      at = omega (arith, end);
      room = omega (arith, end, top_within n);
      so_far = λ u ds b flat. subst (λ z. HoldsAll bs (all n) u (once z) n.top 0) (sym (rest_all bs (all m) u ds p.start p.count b.lie)) refl;
    }

module _ (bs : List ℕ) (p : Place) (m : List ℕ) (depth top : ℕ) (n : List ℕ) (i start count : ℕ) (g : OnceFrom bs p m depth top n i start count) (some : 0 < i) (v : Value) (e : v ≡ loaded n (p.start + 3 * (i - 1))) where
  back : i - 1 + 1 ≡ i
  back = omega arith

  -- the thing before, and whether it is among those that lie there
  here : {u : Used} {ds : Datas} → BagLies bs m p ds u top → (d : Data) × (rest (i - 1) ds ≡ more d (rest i ds)) × Holds bs m u d v
  here {u} {ds} b =
      let t = thing_at bs m u ds p.start p.count (i - 1) b.lie (omega (arith, g.few)) in
      let w : v ≡ loaded m (p.start + 3 * (i - 1)) = e ∙ slot_same m n (p.start + 3 * (i - 1)) (λ k x y. g.kept.same k (b.low.low k (b.run.used k (omega arith) (omega (arith, g.few))))) in
      (t.0, t.1 ∙ ap (λ z. more t.0 (rest z ds)) back, subst (λ x. Holds bs m u t.0 x) (sym w) t.2)

  told : (r : Bool) → IsWithin bs n v (record { start = start; count = count }) depth r → {u : Used} {ds : Datas} (b : BagLies bs m p ds u top) → height_all ds ≤ depth → r ≡ is_in (here b).0 (once (rest i ds))
  told r h {u} {ds} b flat =
      let t = here b in
      h.means u t.0 (once (rest i ds)) top (holds_kept bs u t.0 v (kept_agree b.low g.kept) (λ k y. y) t.2) (g.so_far u ds b flat) b.low
      (omega (arith, b.room, g.kept.long)) (omega (arith, flat, thing_height (i - 1) ds t.0 (rest i ds) t.1))

  pub once_skips : IsWithin bs n v (record { start = start; count = count }) depth true → OnceFrom bs p m depth top n (i - 1) start count
  once_skips h =
      record {
        kept = g.kept;
        few = omega (arith, g.few);
        at = g.at;
        room = g.room;
        so_far = λ u ds b flat.
            let t = here b in
            subst (λ z. HoldsAll bs n u z start count) (sym (ap once t.1 ∙ once_again t.0 (rest i ds) (told true h b flat))) (g.so_far u ds b flat);
      }

  pub once_takes : (o : List ℕ) → IsWithin bs n v (record { start = start; count = count }) depth false → Stored (start - 3) v n o → OnceFrom bs p m depth top o (i - 1) (start - 3) (count + 1)
  unfolding HoldsAll
  once_takes o h s =
      let far : top + 3 ≤ start = omega (arith, g.few, g.at) in
      let next : start - 3 + 3 ≡ start = omega arith in
      let low : Kept top n o = stored_kept s (omega arith) in
      record {
        kept = kept_trans g.kept low (omega arith);
        few = omega (arith, g.few);
        at = omega (arith, g.at);
        room = omega (arith, g.room, s.long);
        so_far = λ u ds b flat.
            let t = here b in
            let a : Agree u m o = kept_agree b.low (kept_trans g.kept low (omega arith)) in
            let c : Agree u n o = kept_agree b.low low in
            let old : HoldsAll bs o u (once (rest i ds)) start count = all_kept bs u (once (rest i ds)) start count c (λ k y. y) (λ k x y. s.after k (omega arith)) (g.so_far u ds b flat) in
            let all : HoldsAll bs o u (more t.0 (once (rest i ds))) (start - 3) (count + 1) =
            (count, omega arith, subst (λ x. Holds bs o u t.0 x) (sym s.there) (holds_kept bs u t.0 v a (λ k y. y) t.2), subst (λ x. HoldsAll bs o u (once (rest i ds)) x count) (sym next) old) in
            subst (λ z. HoldsAll bs o u z (start - 3) (count + 1)) (sym (ap once t.1 ∙ once_new t.0 (rest i ds) (told false h b flat))) all;
      }

pub once_ends : (bs : List ℕ) (p : Place) (m : List ℕ) (depth top : ℕ) (n : List ℕ) (i start count : ℕ) → OnceFrom bs p m depth top n i start count → i ≡ 0 →
    TakesOnce bs p m depth top n (Some (record { value = Bag (record { start = start; count = count }); top = top + 3 * p.count }))
unfolding rest
once_ends bs p m depth top n i start count g e =
    record {
      kept = g.kept;
      means = λ u ds b flat.
          bag_made bs n (once ds) u top (top + 3 * p.count) start count (3 * how_many ds) (subst (λ z. HoldsAll bs n u (once (rest z ds)) start count) e (g.so_far u ds b flat))
          (omega (arith, g.at, g.few)) (omega (arith, g.at)) g.room (omega (arith, as_many bs m u ds p.start p.count b.lie));
    }

pub once_no_room : (bs : List ℕ) (p : Place) {m n : Memory} (depth : ℕ) → Crowded m n (3 * p.count) → TakesOnce bs p (all m) depth m.top (all n) None
once_no_room bs p {m} depth c = record { kept = crowded_kept c; means = λ u ds b flat. omega (arith, as_many bs (all m) u ds p.start p.count b.lie, ap length c.words, c.short) }
