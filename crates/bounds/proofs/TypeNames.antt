-- The records in the type of a query have only the names of the schema, of what it is asked of, and of the query.
use mathlib.Core.Path.{◌≡◌, refl}
use mathlib.Core.Bool.{true, ◌&&◌}
use mathlib.Core.List.{List, [], ◌∷◌}
use Prim.Native.Nat.{ℕ, zero, suc}
use native.Mathlib.Omega.{arith}
use Rattle.query.specs.Data.{Name, one_of}
use Rattle.query.specs.Query.{Op2, Op1, Ty, Tys, Query, equal, and, or, plus, less, join_bags, join_recs, within, not_so, in_bag, flat, count, sum, distinct, dot, as_field, without, project, a_num, a_truth, a_bag, a_rec, an_either, no_ty, ty, table, it, env, just, two, one, each, keep, product, matched, default, as_left, as_right, either, then, with_env}
use Rattle.query.specs.Types.{same_ty, sound, as_num, elem, fields_of, sides_of, is_of, on_ty, if_so, get_ty, both_tys, left_out_ty, only_tys, fields_in, type1, type2, Schema, ty_at, type_of}
use Rattle.query.proofs.Tests.{and_l, and_r, and_i}
use Rattle.query.proofs.TypeParts.{on_ty_out, if_so_out, elem_out, fields_out, sides_out, heads, fields_in_out}
use Rattle.bounds.specs.Names.{named, nameds, names_in, op_names, query_names, all_in, schema_named}
use Rattle.bounds.specs.Bounds.{StaysNamed}
use Rattle.bounds.proofs.Lists.{all_in_first, all_in_second}
use Rattle.bounds.proofs.Naming.{get_named, left_out_named, only_named, both_named, type_names}

module _ (ns : List Name) where
  -- the types of bags and records, and of what is in them
  bag_named : (t u : Ty) → t ≡ a_bag u → named ns t ≡ true → named ns u ≡ true
  unfolding named
  bag_named t u e h = rw e at h

  rec_named : (t : Ty) (us : Tys) → t ≡ a_rec us → named ns t ≡ true → nameds ns us ≡ true
  unfolding named
  rec_named t us e h = rw e at h

  pub bag_rec_named : (t : Ty) (us : Tys) → t ≡ a_bag (a_rec us) → named ns t ≡ true → nameds ns us ≡ true
  unfolding named
  bag_rec_named t us e h = rw e at h

  type1_named : (o : Op1) (t u : Ty) (m : List Ty) → all_in (op_names o) ns ≡ true → named ns t ≡ true → type1 o t ≡ u ∷ m → named ns u ≡ true
  unfolding type1 named nameds op_names all_in
  type1_named not_so t u m w h k = let s = if_so_out (same_ty t a_truth) (a_truth ∷ []) u m k in rw (← (heads a_truth u [] m s.1)) refl
  type1_named in_bag t u m w h k = rw (← (heads (a_bag t) u [] m k)) h
  type1_named flat t u m w h k =
      let a = on_ty_out (elem t) (λ x. on_ty (elem x) (λ v. a_bag v ∷ [])) u m k in
      let b = on_ty_out (elem a.0) (λ v. a_bag v ∷ []) u m a.3 in
      rw (← (heads (a_bag b.0) u [] m b.3)) (bag_named a.0 b.0 (elem_out a.0 b.0 b.1 b.2) (bag_named t a.0 (elem_out t a.0 a.1 a.2) h))
  type1_named count t u m w h k = let a = on_ty_out (elem t) (λ x. a_num ∷ []) u m k in rw (← (heads a_num u [] m a.3)) refl
  type1_named sum t u m w h k =
      let a = on_ty_out (elem t) (λ x. if_so (as_num x) (a_num ∷ [])) u m k in
      let s = if_so_out (as_num a.0) (a_num ∷ []) u m a.3 in
      rw (← (heads a_num u [] m s.1)) refl
  type1_named distinct t u m w h k =
      let a = on_ty_out (elem t) (λ x. a_bag x ∷ []) u m k in
      rw (← (heads (a_bag a.0) u [] m a.3)) (bag_named t a.0 (elem_out t a.0 a.1 a.2) h)
  type1_named (dot n) t u m w h k =
      let a = on_ty_out (fields_of t) (λ ts. get_ty n ts) u m k in
      get_named ns n a.0 u m (rec_named t a.0 (fields_out t a.0 a.1 a.2) h) a.3
  type1_named (as_field n) t u m w h k = rw (← (heads (a_rec (ty n t no_ty)) u [] m k)) (and_i (one_of n ns) (named ns t && true) (and_l (one_of n ns) true w) (and_i (named ns t) true h refl))
  type1_named (without n) t u m w h k =
      let a = on_ty_out (fields_of t) (λ ts. a_rec (left_out_ty n ts) ∷ []) u m k in
      rw (← (heads (a_rec (left_out_ty n a.0)) u [] m a.3)) (left_out_named ns n a.0 (rec_named t a.0 (fields_out t a.0 a.1 a.2) h))
  type1_named (project ks) t u m w h k =
      let a = on_ty_out (fields_of t) (λ ts. a_rec (only_tys ks ts) ∷ []) u m k in
      rw (← (heads (a_rec (only_tys ks a.0)) u [] m a.3)) (only_named ns ks a.0 (rec_named t a.0 (fields_out t a.0 a.1 a.2) h))

  type2_named : (o : Op2) (t v u : Ty) (m : List Ty) → named ns t ≡ true → named ns v ≡ true → type2 o t v ≡ u ∷ m → named ns u ≡ true
  unfolding type2 named
  type2_named equal t v u m h k l = let s = if_so_out (same_ty t v) (a_truth ∷ []) u m l in rw (← (heads a_truth u [] m s.1)) refl
  type2_named and t v u m h k l = let s = if_so_out (same_ty t a_truth && same_ty v a_truth) (a_truth ∷ []) u m l in rw (← (heads a_truth u [] m s.1)) refl
  type2_named or t v u m h k l = let s = if_so_out (same_ty t a_truth && same_ty v a_truth) (a_truth ∷ []) u m l in rw (← (heads a_truth u [] m s.1)) refl
  type2_named plus t v u m h k l = let s = if_so_out (as_num t && as_num v) (a_num ∷ []) u m l in rw (← (heads a_num u [] m s.1)) refl
  type2_named less t v u m h k l = let s = if_so_out (as_num t && as_num v) (a_truth ∷ []) u m l in rw (← (heads a_truth u [] m s.1)) refl
  type2_named join_bags t v u m h k l =
      let a = on_ty_out (elem t) (λ w. if_so (same_ty t v) (t ∷ [])) u m l in
      let s = if_so_out (same_ty t v) (t ∷ []) u m a.3 in
      rw (heads t u [] m s.1) at h
  type2_named join_recs t v u m h k l =
      let a = on_ty_out (fields_of t) (λ ts. on_ty (fields_of v) (λ us. a_rec (both_tys ts us) ∷ [])) u m l in
      let b = on_ty_out (fields_of v) (λ us. a_rec (both_tys a.0 us) ∷ []) u m a.3 in
      rw (← (heads (a_rec (both_tys a.0 b.0)) u [] m b.3)) (both_named ns a.0 b.0 (rec_named t a.0 (fields_out t a.0 a.1 a.2) h) (rec_named v b.0 (fields_out v b.0 b.1 b.2) k))
  type2_named within t v u m h k l =
      let a = on_ty_out (elem v) (λ w. if_so (same_ty t w) (a_truth ∷ [])) u m l in
      let s = if_so_out (same_ty t a.0) (a_truth ∷ []) u m a.3 in
      rw (← (heads a_truth u [] m s.1)) refl

  at_named : (ss : Schema) (n : ℕ) (u : Ty) (m : List Ty) → schema_named ns ss ≡ true → ty_at ss n ≡ u ∷ m → named ns u ≡ true
  unfolding schema_named ty_at
  at_named [] n u m h k = let z : ◌≡◌ {A = ℕ} 0 1 = cc in absurd (omega arith)
  at_named (s ∷ ss) zero u m h k = rw (heads s u [] m k) at (and_l (named ns s) (schema_named ns ss) h)
  at_named (s ∷ ss) (suc n) u m h k = at_named ss n u m (and_r (named ns s) (schema_named ns ss) h) k

  pub type_named : (ss : Schema) → schema_named ns ss ≡ true → (q : Query) (e t u : Ty) (m : List Ty) → all_in (query_names q) ns ≡ true → named ns e ≡ true → named ns t ≡ true → type_of ss q e t ≡ u ∷ m → named ns u ≡ true
  unfolding type_of named query_names
  type_named ss h (table n) e t u m w k l o = at_named ss n u m h o
  type_named ss h it e t u m w k l o = rw (heads t u [] m o) at l
  type_named ss h env e t u m w k l o = rw (heads e u [] m o) at k
  type_named ss h (just v c) e t u m w k l o =
      let s = if_so_out (sound v && is_of c v) (v ∷ []) u m o in
      rw (heads v u [] m s.1) at (type_names ns v w)
  type_named ss h (two b p q) e t u m w k l o =
      let a = on_ty_out (type_of ss p e t) (λ v. on_ty (type_of ss q e t) (λ x. type2 b v x)) u m o in
      let c = on_ty_out (type_of ss q e t) (λ x. type2 b a.0 x) u m a.3 in
      type2_named b a.0 c.0 u m (type_named ss h p e t a.0 a.1 (all_in_first (query_names p) (query_names q) ns w) k l a.2) (type_named ss h q e t c.0 c.1 (all_in_second (query_names p) (query_names q) ns w) k l c.2) c.3
  type_named ss h (one b q) e t u m w k l o =
      let a = on_ty_out (type_of ss q e t) (λ v. type1 b v) u m o in
      type1_named b a.0 u m (all_in_first (op_names b) (query_names q) ns w) (type_named ss h q e t a.0 a.1 (all_in_second (op_names b) (query_names q) ns w) k l a.2) a.3
  type_named ss h (each p q) e t u m w k l o =
      let a = on_ty_out (type_of ss q e t) (λ a. on_ty (elem a) (λ u. on_ty (type_of ss p e u) (λ v. a_bag v ∷ []))) u m o in
      let b = on_ty_out (elem a.0) (λ u. on_ty (type_of ss p e u) (λ v. a_bag v ∷ [])) u m a.3 in
      let c = on_ty_out (type_of ss p e b.0) (λ v. a_bag v ∷ []) u m b.3 in
      rw (← (heads (a_bag c.0) u [] m c.3)) (type_named ss h p e b.0 c.0 c.1 (all_in_first (query_names p) (query_names q) ns w) k (bag_named a.0 b.0 (elem_out a.0 b.0 b.1 b.2) (type_named ss h q e t a.0 a.1 (all_in_second (query_names p) (query_names q) ns w) k l a.2)) c.2)
  type_named ss h (keep p q) e t u m w k l o =
      let a = on_ty_out (type_of ss q e t) (λ a. on_ty (elem a) (λ u. on_ty (type_of ss p e u) (λ v. if_so (same_ty v a_truth) (a ∷ [])))) u m o in
      let b = on_ty_out (elem a.0) (λ u. on_ty (type_of ss p e u) (λ v. if_so (same_ty v a_truth) (a.0 ∷ []))) u m a.3 in
      let c = on_ty_out (type_of ss p e b.0) (λ v. if_so (same_ty v a_truth) (a.0 ∷ [])) u m b.3 in
      let s = if_so_out (same_ty c.0 a_truth) (a.0 ∷ []) u m c.3 in
      rw (heads a.0 u [] m s.1) at (type_named ss h q e t a.0 a.1 (all_in_second (query_names p) (query_names q) ns w) k l a.2)
  type_named ss h (product p q) e t u m w k l o =
      let a = on_ty_out (type_of ss p e t) _ u m o in
      let b = on_ty_out (fields_in a.0) _ u m a.3 in
      let c = on_ty_out (type_of ss q e t) _ u m b.3 in
      let d = on_ty_out (fields_in c.0) _ u m c.3 in
      rw (← (heads (a_bag (a_rec (both_tys b.0 d.0))) u [] m d.3))
      (both_named ns b.0 d.0 (bag_rec_named a.0 b.0 (fields_in_out a.0 b.0 b.1 b.2) (type_named ss h p e t a.0 a.1 (all_in_first (query_names p) (query_names q) ns w) k l a.2))
      (bag_rec_named c.0 d.0 (fields_in_out c.0 d.0 d.1 d.2) (type_named ss h q e t c.0 c.1 (all_in_second (query_names p) (query_names q) ns w) k l c.2)))
  type_named ss h (matched i j p q) e t u m w k l o =
      let a = on_ty_out (type_of ss p e t) _ u m o in
      let b = on_ty_out (fields_in a.0) _ u m a.3 in
      let c = on_ty_out (type_of ss q e t) _ u m b.3 in
      let d = on_ty_out (fields_in c.0) _ u m c.3 in
      let g = on_ty_out (get_ty i b.0) _ u m d.3 in
      let g' = on_ty_out (get_ty j d.0) _ u m g.3 in
      let s = if_so_out (same_ty g.0 g'.0) _ u m g'.3 in
      rw (← (heads (a_bag (a_rec (both_tys b.0 d.0))) u [] m s.1))
      (both_named ns b.0 d.0 (bag_rec_named a.0 b.0 (fields_in_out a.0 b.0 b.1 b.2) (type_named ss h p e t a.0 a.1 (all_in_first (query_names p) (query_names q) ns w) k l a.2))
      (bag_rec_named c.0 d.0 (fields_in_out c.0 d.0 d.1 d.2) (type_named ss h q e t c.0 c.1 (all_in_second (query_names p) (query_names q) ns w) k l c.2)))
  type_named ss h (default p q) e t u m w k l o =
      let a = on_ty_out (type_of ss p e t) (λ a. on_ty (elem a) (λ u. on_ty (type_of ss q e t) (λ b. if_so (same_ty a b) (a ∷ [])))) u m o in
      let b = on_ty_out (elem a.0) (λ u. on_ty (type_of ss q e t) (λ b. if_so (same_ty a.0 b) (a.0 ∷ []))) u m a.3 in
      let c = on_ty_out (type_of ss q e t) (λ b. if_so (same_ty a.0 b) (a.0 ∷ [])) u m b.3 in
      let s = if_so_out (same_ty a.0 c.0) (a.0 ∷ []) u m c.3 in
      rw (heads a.0 u [] m s.1) at (type_named ss h p e t a.0 a.1 (all_in_first (query_names p) (query_names q) ns w) k l a.2)
  type_named ss h (as_left v q) e t u m w k l o =
      let a = on_ty_out (type_of ss q e t) (λ a. if_so (sound v) (an_either a v ∷ [])) u m o in
      let s = if_so_out (sound v) (an_either a.0 v ∷ []) u m a.3 in
      rw (← (heads (an_either a.0 v) u [] m s.1)) (and_i (named ns a.0) (named ns v) (type_named ss h q e t a.0 a.1 (all_in_second (names_in v) (query_names q) ns w) k l a.2) (type_names ns v (all_in_first (names_in v) (query_names q) ns w)))
  type_named ss h (as_right v q) e t u m w k l o =
      let a = on_ty_out (type_of ss q e t) (λ a. if_so (sound v) (an_either v a ∷ [])) u m o in
      let s = if_so_out (sound v) (an_either v a.0 ∷ []) u m a.3 in
      rw (← (heads (an_either v a.0) u [] m s.1)) (and_i (named ns v) (named ns a.0) (type_names ns v (all_in_first (names_in v) (query_names q) ns w)) (type_named ss h q e t a.0 a.1 (all_in_second (names_in v) (query_names q) ns w) k l a.2))
  type_named ss h (either p q) e t u m w k l o =
      let a = on_ty_out (sides_of t) (λ s. on_ty (type_of ss p e s.l) (λ a. on_ty (type_of ss q e s.r) (λ b. if_so (same_ty a b) (a ∷ [])))) u m o in
      let b = on_ty_out (type_of ss p e a.0.l) (λ v. on_ty (type_of ss q e a.0.r) (λ b. if_so (same_ty v b) (v ∷ []))) u m a.3 in
      let c = on_ty_out (type_of ss q e a.0.r) (λ v. if_so (same_ty b.0 v) (b.0 ∷ [])) u m b.3 in
      let s = if_so_out (same_ty b.0 c.0) (b.0 ∷ []) u m c.3 in
      let lr : (named ns a.0.l && named ns a.0.r) ≡ true = rw (sides_out t a.0 a.1 a.2) at l in
      rw (heads b.0 u [] m s.1) at (type_named ss h p e a.0.l b.0 b.1 (all_in_first (query_names p) (query_names q) ns w) k (and_l (named ns a.0.l) (named ns a.0.r) lr) b.2)
  type_named ss h (then p q) e t u m w k l o =
      let a = on_ty_out (type_of ss q e t) (λ a. type_of ss p e a) u m o in
      type_named ss h p e a.0 u m (all_in_first (query_names p) (query_names q) ns w) k (type_named ss h q e t a.0 a.1 (all_in_second (query_names p) (query_names q) ns w) k l a.2) a.3
  type_named ss h (with_env p q) e t u m w k l o =
      let a = on_ty_out (type_of ss q e t) (λ a. type_of ss p a t) u m o in
      type_named ss h p a.0 t u m (all_in_first (query_names p) (query_names q) ns w) (type_named ss h q e t a.0 a.1 (all_in_second (query_names p) (query_names q) ns w) k l a.2) l a.3

pub stays_named : StaysNamed
stays_named ns ss q e t u o a b c d = type_named ns ss a q e t u [] b c d o
