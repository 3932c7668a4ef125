-- Fields that were reserved in a row, and are filled one by one.
use Rattle.std.proofs.Common.{◌≡◌, ℕ, suc, ◌+◌, ◌*◌, ◌<◌, ◌≤◌, ◌⊎◌, List, get_or, sym, refl, ap, subst, inl, inr, arith}
use Rattle.query.specs.Data.{Name, Data, Fields, no_field, field}
use Rattle.values.specs.Memory.{Kept, StoredField, Used, Under, Grown, Run, Spelled, Holds, HoldsFields, Agree, loaded, loaded_field}
use Rattle.values.specs.declared.value.Field.{Field}
use Rattle.values.proofs.Frame.{kept_agree, holds_kept, fields_kept}
use Rattle.loading.proofs.Words.{run_ranged, grown_trans, grown_reserved, grown_refl, apart, under_grown}
use Rattle.values.proofs.Ranged.{ranged, ranged_old}

-- one record's fields, and then another's
unfoldable pub joined : Fields → Fields → Fields
joined no_field gs = gs
joined (field n d fs) gs = field n d (joined fs gs)

pub joined_none : (fs : Fields) → joined fs no_field ≡ fs
unfolding joined
joined_none no_field = refl
joined_none (field n d fs) = ap (λ x. field n d x) (joined_none fs)

pub joined_one : (fs : Fields) (n : Name) (d : Data) (gs : Fields) → joined (joined fs (field n d no_field)) gs ≡ joined fs (field n d gs)
unfolding joined
joined_one no_field n d gs = refl
joined_one (field m e fs) n d gs = ap (λ x. field m e x) (joined_one fs n d gs)

-- a field lies at a place
pub record Lies (bs m : List ℕ) (u : Used) (n : Name) (d : Data) (at : ℕ) : Type 0 where
  pub spelled : Spelled bs n (get_or m at 0) (get_or m (at + 1) 0)
  pub holds : Holds bs m u d (loaded m (at + 2))

fields_one : (bs m : List ℕ) (u : Used) (fs : Fields) (n : Name) (d : Data) (at k : ℕ) → HoldsFields bs m u fs at k → Lies bs m u n d (at + 5 * k) → HoldsFields bs m u (joined fs (field n d no_field)) at (suc k)
unfolding HoldsFields joined
fields_one bs m u no_field n d at k h l =
    let z : at + 5 * k ≡ at = omega (arith, h) in
    let y = subst (λ x. Lies bs m u n d x) z l in
    (k, refl, y.spelled, y.holds, h)
fields_one bs m u (field o e fs) n d at k h l =
    let z : at + 5 * k ≡ at + 5 + 5 * h.0 = omega (arith, h.1) in
    (k, refl, h.2, h.3, subst (λ x. HoldsFields bs m u (joined fs (field n d no_field)) (at + 5) x) (sym h.1) (fields_one bs m u fs n d (at + 5) h.0 h.4 (subst (λ x. Lies bs m u n d x) z l)))

-- the first i fields hold what is done; words are in use below `high`, and the reserved ones are not yet
pub record Filling (bs : List ℕ) (u : Used) (top count : ℕ) (n : List ℕ) (i high : ℕ) (done : Fields) : Type 0 where
  pub now_used : Used
  pub grown : Grown u now_used (top + 5 * count) high
  pub made : HoldsFields bs n now_used done top i

-- all of them do
pub record Filled (bs : List ℕ) (u : Used) (top count : ℕ) (n : List ℕ) (high : ℕ) (done : Fields) : Type 0 where
  pub now_used : Used
  pub grown : Grown u now_used top high
  pub run : Run now_used top (5 * count)
  pub lie : HoldsFields bs n now_used done top count

pub fill_none : (bs : List ℕ) (u : Used) (top count : ℕ) (n : List ℕ) → Filling bs u top count n 0 (top + 5 * count) no_field
unfolding HoldsFields
fill_none bs u top count n = record { now_used = u; grown = grown_refl u (top + 5 * count); made = refl }

module _ (bs : List ℕ) (u : Used) (top count : ℕ) (n : List ℕ) (i high : ℕ) (done : Fields) (low : Under u top) (above : top + 5 * count ≤ high) (f : Filling bs u top count n i high done) where
  pub fill_under : Under f.now_used high
  fill_under = under_grown low f.grown (omega arith)

  pub fill_all : i ≡ count → Filled bs u top count n high done
  fill_all e =
      let a = top + 5 * count in
      let w : Used = ranged f.now_used top a in
      record {
        now_used = w;
        grown = grown_reserved f.grown (omega arith) above;
        run = run_ranged f.now_used top a (5 * count) (omega arith);
        lie = subst (λ x. HoldsFields bs n w done top x) e
            (fields_kept bs w done top i (record { same = λ k s. refl }) (λ k s. ranged_old f.now_used top a k s) (λ k y z. refl) f.made);
      }

  module _ (nm : Name) (d : Data) (x : Field) (n' n'' : List ℕ) (w : Used) (end : ℕ) (lt : i < count) (kept : Kept high n n') (more-used : Grown f.now_used w high end) (le : high ≤ end)
      (spelled : Spelled bs nm x.name.start x.name.count) (holds : Holds bs n' w d x.value) (st : StoredField (top + 5 * i) x n' n'') where
    grown_all : Grown u w (top + 5 * count) end
    grown_all = grown_trans f.grown more-used above le

    agrees : Agree w n' n''
    agrees = record { same = λ k s. go k (apart low grown_all k s) }
      where
        go : (k : ℕ) → (k < top) ⊎ ((top + 5 * count ≤ k) × (k < end)) → get_or n'' k 0 ≡ get_or n' k 0
        go k (inl s) = st.before k (omega arith)
        go k (inr s) = st.after k (omega (arith, s.0))

    lies : Lies bs n'' w nm d (top + 5 * i)
    unfolding loaded_field
    lies =
        let at = top + 5 * i in
        let a : get_or n'' at 0 ≡ x.name.start = ap (λ (y : Field). y.name.start) st.there in
        let b : get_or n'' (at + 1) 0 ≡ x.name.count = ap (λ (y : Field). y.name.count) st.there in
        let c : loaded n'' (at + 2) ≡ x.value = ap (λ (y : Field). y.value) st.there in
        record {
          spelled = subst (λ y. Spelled bs nm y (get_or n'' (at + 1) 0)) (sym a) (subst (λ y. Spelled bs nm x.name.start y) (sym b) spelled);
          holds = subst (λ y. Holds bs n'' w d y) (sym c) (holds_kept bs w d x.value agrees (λ k s. s) holds);
        }

    pub fill_more : Filling bs u top count n'' (i + 1) end (joined done (field nm d no_field))
    fill_more =
        let j : suc i ≡ i + 1 = omega arith in
        record {
          now_used = w;
          grown = grown_all;
          made = subst (λ y. HoldsFields bs n'' w (joined done (field nm d no_field)) top y) j
              (fields_one bs n'' w done nm d top i
              (fields_kept bs w done top i agrees (λ k s. s) (λ k y z. st.before k z)
              (fields_kept bs w done top i (kept_agree fill_under kept) more-used.wider (λ k y z. kept.same k (omega arith)) f.made))
              lies);
        }
