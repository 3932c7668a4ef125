-- Slots that were reserved in a row, and are filled one by one.
use Rattle.std.proofs.Common.{◌≡◌, ℕ, suc, ◌+◌, ◌*◌, ◌<◌, ◌≤◌, ◌⊎◌, List, get_or, sym, refl, ap, subst, inl, inr, arith}
use Rattle.query.specs.Data.{Data, Datas, none, more, join, how_many}
use Rattle.query.specs.Size.{size_d, size_ds}
use Rattle.values.specs.Memory.{Kept, Stored, Used, Under, Grown, Run, Holds, HoldsAll, Agree, loaded}
use Rattle.values.specs.declared.value.Value.{Value}
use Rattle.values.proofs.Frame.{kept_agree, holds_kept, all_kept}
use Rattle.loading.proofs.Words.{run_ranged, grown_trans, grown_reserved, grown_refl, apart, under_grown}
use Rattle.values.proofs.Ranged.{ranged, ranged_old}

pub join_none : (ds : Datas) → join ds none ≡ ds
unfolding join
join_none none = refl
join_none (more d ds) = ap (more d) (join_none ds)

pub join_one : (ds : Datas) (e : Data) (es : Datas) → join (join ds (more e none)) es ≡ join ds (more e es)
unfolding join
join_one none e es = refl
join_one (more d ds) e es = ap (more d) (join_one ds e es)

-- each part counts
pub some_size : (d : Data) → 1 ≤ size_d d
unfolding size_d
some_size Data.unit = omega arith
some_size (Data.num n) = omega arith
some_size (Data.truth b) = omega arith
some_size (Data.text t) = omega arith
some_size (Data.bag ds) = omega arith
some_size (Data.rec fs) = omega arith
some_size (Data.left d) = omega arith
some_size (Data.right d) = omega arith

pub many_size : (ds : Datas) → how_many ds ≤ size_ds ds
unfolding how_many size_ds
many_size none = omega arith
many_size (more d ds) = omega (arith, some_size d, many_size ds)

all_one : (bs m : List ℕ) (u : Used) (ds : Datas) (e : Data) (at n : ℕ) → HoldsAll bs m u ds at n → Holds bs m u e (loaded m (at + 3 * n)) → HoldsAll bs m u (join ds (more e none)) at (suc n)
unfolding HoldsAll join
all_one bs m u none e at n h k =
    let z : at + 3 * n ≡ at = omega (arith, h) in
    (n, refl, subst (λ x. Holds bs m u e (loaded m x)) z k, h)
all_one bs m u (more d ds) e at n h k =
    let z : at + 3 * n ≡ at + 3 + 3 * h.0 = omega (arith, h.1) in
    (n, refl, h.2, subst (λ x. HoldsAll bs m u (join ds (more e none)) (at + 3) x) (sym h.1) (all_one bs m u ds e (at + 3) h.0 h.3 (subst (λ x. Holds bs m u e (loaded m x)) z k)))

-- the first i slots hold what is done; words are in use below `high`, and the reserved ones are not yet
pub record Filling (bs : List ℕ) (u : Used) (top count : ℕ) (n : List ℕ) (i high : ℕ) (done : Datas) : Type 0 where
  pub now_used : Used
  pub grown : Grown u now_used (top + 3 * count) high
  pub made : HoldsAll bs n now_used done top i

-- all of them do
pub record Filled (bs : List ℕ) (u : Used) (top count : ℕ) (n : List ℕ) (high : ℕ) (done : Datas) : Type 0 where
  pub now_used : Used
  pub grown : Grown u now_used top high
  pub run : Run now_used top (3 * count)
  pub lie : HoldsAll bs n now_used done top count

pub fill_none : (bs : List ℕ) (u : Used) (top count : ℕ) (n : List ℕ) → Filling bs u top count n 0 (top + 3 * count) none
unfolding HoldsAll
fill_none bs u top count n = record { now_used = u; grown = grown_refl u (top + 3 * count); made = refl }

module _ (bs : List ℕ) (u : Used) (top count : ℕ) (n : List ℕ) (i high : ℕ) (done : Datas) (low : Under u top) (above : top + 3 * count ≤ high) (f : Filling bs u top count n i high done) where
  pub fill_under : Under f.now_used high
  fill_under = under_grown low f.grown (omega arith)

  pub fill_all : i ≡ count → Filled bs u top count n high done
  fill_all e =
      let a = top + 3 * count in
      let w : Used = ranged f.now_used top a in
      record {
        now_used = w;
        grown = grown_reserved f.grown (omega arith) above;
        run = run_ranged f.now_used top a (3 * count) (omega arith);
        lie = subst (λ x. HoldsAll bs n w done top x) e
            (all_kept bs w done top i (record { same = λ k s. refl }) (λ k s. ranged_old f.now_used top a k s) (λ k y z. refl) f.made);
      }

  module _ (d : Data) (v : Value) (n' n'' : List ℕ) (w : Used) (end : ℕ) (lt : i < count) (kept : Kept high n n') (more-used : Grown f.now_used w high end) (le : high ≤ end)
      (holds : Holds bs n' w d v) (st : Stored (top + 3 * i) v n' n'') where
    grown_all : Grown u w (top + 3 * count) end
    grown_all = grown_trans f.grown more-used above le

    agrees : Agree w n' n''
    agrees = record { same = λ k s. go k (apart low grown_all k s) }
      where
        go : (k : ℕ) → (k < top) ⊎ ((top + 3 * count ≤ k) × (k < end)) → get_or n'' k 0 ≡ get_or n' k 0
        go k (inl s) = st.before k (omega arith)
        go k (inr s) = st.after k (omega (arith, s.0))

    pub fill_more : Filling bs u top count n'' (i + 1) end (join done (more d none))
    fill_more =
        let j : suc i ≡ i + 1 = omega arith in
        record {
          now_used = w;
          grown = grown_all;
          made = subst (λ y. HoldsAll bs n'' w (join done (more d none)) top y) j
              (all_one bs n'' w done d top i
              (all_kept bs w done top i agrees (λ k s. s) (λ k y z. st.before k z)
              (all_kept bs w done top i (kept_agree fill_under kept) more-used.wider (λ k y z. kept.same k (omega arith)) f.made))
              (subst (λ x. Holds bs n'' w d x) (sym st.there) (holds_kept bs w d v agrees (λ k s. s) holds)));
        }
