-- Each operator, given what has the types that it asks for, comes to something of the type that it tells.
use mathlib.Core.Path.{◌≡◌, refl, sym, ◌∙◌, ap}
use mathlib.Core.Bool.{true, not, ◌&&◌, ◌||◌}
use mathlib.Core.List.{List, [], ◌∷◌}
use Prim.Native.Nat.{◌+◌, ◌%◌}
use lib.Dec.{ltb}
use Rattle.query.specs.Data.{Data, same, join, how_many, is_in, once, left_out, both, only, num, truth, bag, rec, none, more, no_field, field}
use Rattle.query.specs.Query.{Op2, Op1, Ty, word, get_or_fail, apply1, apply2, equal, and, or, plus, less, join_bags, join_recs, within, not_so, in_bag, flat, count, sum, distinct, dot, as_field, without, project, a_num, a_truth, a_bag, a_rec, no_ty, ty}
use Rattle.query.specs.Types.{same_ty, as_num, elem, fields_of, is_of, on_ty, if_so, get_ty, both_tys, left_out_ty, only_tys, type1, type2}
use Rattle.query.proofs.Tests.{and_l, and_r}
use Rattle.query.proofs.TypeParts.{on_ty_out, if_so_out, same_ty_out, elem_out, fields_out, num_out}
use Rattle.query.proofs.OfType.{truth_of, small_of, mod_small, bag_of, rec_of, field_in, no_field_in, get_of, both_of, left_out_of, only_of, more_of, none_of, join_of, once_of}
use Rattle.query.proofs.Steps.{Is, on_bag_of, on_rec_of, on_num_of, on_truth_of, flat_all_of, sum_all_of}

pub apply1_of : (o : Op1) (t u : Ty) (m : List Ty) (d : Data) → type1 o t ≡ u ∷ m → is_of d t ≡ true → Is (apply1 o d) u
unfolding type1 apply1 get_or_fail
apply1_of not_so t u m d h k =
    let s = if_so_out (same_ty t a_truth) (a_truth ∷ []) u m h in
    let e : t ≡ a_truth = same_ty_out t a_truth s.0 in
    let f : a_truth ≡ u = cc in
    rw (← f) (on_truth_of d _ a_truth (rw e at k) (λ b. (truth (not b), refl, truth_of (not b))))
apply1_of in_bag t u m d h k =
    let f : a_bag t ≡ u = cc in
    rw (← f) (bag (more d none), refl, bag_of (more d none) t (more_of d none t k (none_of t)))
apply1_of flat t u m d h k =
    let a = on_ty_out (elem t) (λ w. on_ty (elem w) (λ v. a_bag v ∷ [])) u m h in
    let b = on_ty_out (elem a.0) (λ v. a_bag v ∷ []) u m a.3 in
    let e : t ≡ a_bag (a_bag b.0) = elem_out t a.0 a.1 a.2 ∙ ap a_bag (elem_out a.0 b.0 b.1 b.2) in
    let f : a_bag b.0 ≡ u = cc in
    rw (← f) (on_bag_of d _ (a_bag b.0) (a_bag b.0) (rw e at k) (λ ds l. flat_all_of ds _ b.0 (a_bag b.0) l (λ xs n. (bag xs, refl, bag_of xs b.0 n))))
apply1_of count t u m d h k =
    let a = on_ty_out (elem t) (λ w. a_num ∷ []) u m h in
    let f : a_num ≡ u = cc in
    rw (← f) (on_bag_of d _ a.0 a_num (rw (elem_out t a.0 a.1 a.2) at k) (λ ds l. (num (how_many ds % word), refl, small_of (how_many ds % word) (mod_small (how_many ds)))))
apply1_of sum t u m d h k =
    let a = on_ty_out (elem t) (λ w. if_so (as_num w) (a_num ∷ [])) u m h in
    let s = if_so_out (as_num a.0) (a_num ∷ []) u m a.3 in
    let e : t ≡ a_bag a_num = elem_out t a.0 a.1 a.2 ∙ ap a_bag (num_out a.0 s.0) in
    let f : a_num ≡ u = cc in
    rw (← f) (on_bag_of d _ a_num a_num (rw e at k) (λ ds l. sum_all_of ds _ a_num l (λ n r. (num n, refl, small_of n r))))
apply1_of distinct t u m d h k =
    let a = on_ty_out (elem t) (λ w. a_bag w ∷ []) u m h in
    let f : a_bag a.0 ≡ u = cc in
    rw (← f) (on_bag_of d _ a.0 (a_bag a.0) (rw (elem_out t a.0 a.1 a.2) at k) (λ ds l. (bag (once ds), refl, bag_of (once ds) a.0 (once_of ds a.0 l))))
apply1_of (dot n) t u m d h k =
    let a = on_ty_out (fields_of t) (λ ts. get_ty n ts) u m h in
    on_rec_of d _ a.0 u (rw (fields_out t a.0 a.1 a.2) at k) (λ fs l. let c = get_of n fs a.0 u m l a.3 in rw c.1 (c.0, refl, c.2))
apply1_of (as_field n) t u m d h k =
    let f : a_rec (ty n t no_ty) ≡ u = cc in
    rw (← f) (rec (field n d no_field), refl, rec_of (field n d no_field) (ty n t no_ty) (field_in n d no_field t no_ty k no_field_in))
apply1_of (without n) t u m d h k =
    let a = on_ty_out (fields_of t) (λ ts. a_rec (left_out_ty n ts) ∷ []) u m h in
    let f : a_rec (left_out_ty n a.0) ≡ u = cc in
    rw (← f) (on_rec_of d _ a.0 (a_rec (left_out_ty n a.0)) (rw (fields_out t a.0 a.1 a.2) at k) (λ fs l. (rec (left_out n fs), refl, rec_of (left_out n fs) (left_out_ty n a.0) (left_out_of n fs a.0 l))))
apply1_of (project ns) t u m d h k =
    let a = on_ty_out (fields_of t) (λ ts. a_rec (only_tys ns ts) ∷ []) u m h in
    let f : a_rec (only_tys ns a.0) ≡ u = cc in
    rw (← f) (on_rec_of d _ a.0 (a_rec (only_tys ns a.0)) (rw (fields_out t a.0 a.1 a.2) at k) (λ fs l. (rec (only ns fs), refl, rec_of (only ns fs) (only_tys ns a.0) (only_of ns fs a.0 l))))

pub apply2_of : (o : Op2) (t v u : Ty) (m : List Ty) (d e : Data) → type2 o t v ≡ u ∷ m → is_of d t ≡ true → is_of e v ≡ true → Is (apply2 o d e) u
unfolding type2 apply2
apply2_of equal t v u m d e h k l =
    let s = if_so_out (same_ty t v) (a_truth ∷ []) u m h in
    let f : a_truth ≡ u = cc in
    rw (← f) (truth (same d e), refl, truth_of (same d e))
apply2_of and t v u m d e h k l =
    let s = if_so_out (same_ty t a_truth && same_ty v a_truth) (a_truth ∷ []) u m h in
    let p = same_ty_out t a_truth (and_l (same_ty t a_truth) (same_ty v a_truth) s.0) in
    let q = same_ty_out v a_truth (and_r (same_ty t a_truth) (same_ty v a_truth) s.0) in
    let f : a_truth ≡ u = cc in
    rw (← f) (on_truth_of d _ a_truth (rw p at k) (λ a. on_truth_of e _ a_truth (rw q at l) (λ b. (truth (a && b), refl, truth_of (a && b)))))
apply2_of or t v u m d e h k l =
    let s = if_so_out (same_ty t a_truth && same_ty v a_truth) (a_truth ∷ []) u m h in
    let p = same_ty_out t a_truth (and_l (same_ty t a_truth) (same_ty v a_truth) s.0) in
    let q = same_ty_out v a_truth (and_r (same_ty t a_truth) (same_ty v a_truth) s.0) in
    let f : a_truth ≡ u = cc in
    rw (← f) (on_truth_of d _ a_truth (rw p at k) (λ a. on_truth_of e _ a_truth (rw q at l) (λ b. (truth (a || b), refl, truth_of (a || b)))))
apply2_of plus t v u m d e h k l =
    let s = if_so_out (as_num t && as_num v) (a_num ∷ []) u m h in
    let p = num_out t (and_l (as_num t) (as_num v) s.0) in
    let q = num_out v (and_r (as_num t) (as_num v) s.0) in
    let f : a_num ≡ u = cc in
    rw (← f) (on_num_of d _ a_num (rw p at k) (λ a _. on_num_of e _ a_num (rw q at l) (λ b _. (num ((a + b) % word), refl, small_of ((a + b) % word) (mod_small (a + b))))))
apply2_of less t v u m d e h k l =
    let s = if_so_out (as_num t && as_num v) (a_truth ∷ []) u m h in
    let p = num_out t (and_l (as_num t) (as_num v) s.0) in
    let q = num_out v (and_r (as_num t) (as_num v) s.0) in
    let f : a_truth ≡ u = cc in
    rw (← f) (on_num_of d _ a_truth (rw p at k) (λ a _. on_num_of e _ a_truth (rw q at l) (λ b _. (truth (ltb a b), refl, truth_of (ltb a b)))))
apply2_of join_bags t v u m d e h k l =
    let a = on_ty_out (elem t) (λ w. if_so (same_ty t v) (t ∷ [])) u m h in
    let s = if_so_out (same_ty t v) (t ∷ []) u m a.3 in
    let p : t ≡ a_bag a.0 = elem_out t a.0 a.1 a.2 in
    let q : v ≡ a_bag a.0 = sym (same_ty_out t v s.0) ∙ p in
    let f : a_bag a.0 ≡ u = let g : t ≡ u = cc in sym p ∙ g in
    rw (← f) (on_bag_of d _ a.0 (a_bag a.0) (rw p at k) (λ ds x. on_bag_of e _ a.0 (a_bag a.0) (rw q at l) (λ es y. (bag (join ds es), refl, bag_of (join ds es) a.0 (join_of ds es a.0 x y)))))
apply2_of join_recs t v u m d e h k l =
    let a = on_ty_out (fields_of t) (λ ts. on_ty (fields_of v) (λ us. a_rec (both_tys ts us) ∷ [])) u m h in
    let b = on_ty_out (fields_of v) (λ us. a_rec (both_tys a.0 us) ∷ []) u m a.3 in
    let f : a_rec (both_tys a.0 b.0) ≡ u = cc in
    rw (← f) (on_rec_of d _ a.0 (a_rec (both_tys a.0 b.0)) (rw (fields_out t a.0 a.1 a.2) at k) (λ fs x. on_rec_of e _ b.0 (a_rec (both_tys a.0 b.0)) (rw (fields_out v b.0 b.1 b.2) at l)
    (λ gs y. (rec (both fs gs), refl, rec_of (both fs gs) (both_tys a.0 b.0) (both_of fs gs a.0 b.0 x y)))))
apply2_of within t v u m d e h k l =
    let a = on_ty_out (elem v) (λ w. if_so (same_ty t w) (a_truth ∷ [])) u m h in
    let s = if_so_out (same_ty t a.0) (a_truth ∷ []) u m a.3 in
    let f : a_truth ≡ u = cc in
    rw (← f) (on_bag_of e _ a.0 a_truth (rw (elem_out v a.0 a.1 a.2) at l) (λ es x. (truth (is_in d es), refl, truth_of (is_in d es))))
