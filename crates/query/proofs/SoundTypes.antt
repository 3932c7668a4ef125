-- The type of a question is sound where the schema is; so a question comes to something of a sound type.
use mathlib.Core.Path.{◌≡◌, refl}
use mathlib.Core.Bool.{true, ◌&&◌}
use mathlib.Core.List.{List, [], ◌∷◌}
use Prim.Native.Nat.{ℕ, zero, suc}
use native.Mathlib.Omega.{arith}
use Rattle.query.specs.Query.{Op2, Op1, Ty, Tys, Query, equal, and, or, plus, less, join_bags, join_recs, within, not_so, in_bag, flat, count, sum, distinct, dot, as_field, without, project, a_num, a_truth, a_bag, a_rec, an_either, no_ty, ty, table, it, env, just, two, one, each, keep, product, matched, default, as_left, as_right, either, then, with_env}
use Rattle.query.specs.Types.{same_ty, first_after, sound, sounds, as_num, elem, fields_of, sides_of, is_of, on_ty, if_so, get_ty, both_tys, left_out_ty, only_tys, fields_in, type1, type2, Schema, ty_at, type_of}
use Rattle.query.specs.Size.{all_sound}
use Rattle.query.specs.Laws.{ComesToItsType, TypesAreSound}
use Rattle.query.proofs.Tests.{and_l, and_r, and_i}
use Rattle.query.proofs.TypeParts.{on_ty_out, if_so_out, elem_out, fields_out, sides_out, heads, fields_in_out}
use Rattle.query.proofs.Comes.{comes}
use Rattle.query.proofs.SoundRecords.{sounds_in, get_sound, left_out_sound, only_sound, both_sound}

-- the types of bags and records, and of what is in them
bag_sound : (t u : Ty) → t ≡ a_bag u → sound t ≡ true → sound u ≡ true
unfolding sound
bag_sound t u e h = rw e at h

rec_sound : (t : Ty) (us : Tys) → t ≡ a_rec us → sound t ≡ true → sounds us ≡ true
unfolding sound
rec_sound t us e h = rw e at h

pub bag_rec_sound : (t : Ty) (us : Tys) → t ≡ a_bag (a_rec us) → sound t ≡ true → sounds us ≡ true
unfolding sound
bag_rec_sound t us e h = rw e at h

type1_sound : (o : Op1) (t u : Ty) (m : List Ty) → sound t ≡ true → type1 o t ≡ u ∷ m → sound u ≡ true
unfolding type1 sound first_after
type1_sound not_so t u m h k = let s = if_so_out (same_ty t a_truth) (a_truth ∷ []) u m k in rw (← (heads a_truth u [] m s.1)) refl
type1_sound in_bag t u m h k = rw (← (heads (a_bag t) u [] m k)) h
type1_sound flat t u m h k =
    let a = on_ty_out (elem t) (λ w. on_ty (elem w) (λ v. a_bag v ∷ [])) u m k in
    let b = on_ty_out (elem a.0) (λ v. a_bag v ∷ []) u m a.3 in
    rw (← (heads (a_bag b.0) u [] m b.3)) (bag_sound a.0 b.0 (elem_out a.0 b.0 b.1 b.2) (bag_sound t a.0 (elem_out t a.0 a.1 a.2) h))
type1_sound count t u m h k = let a = on_ty_out (elem t) (λ w. a_num ∷ []) u m k in rw (← (heads a_num u [] m a.3)) refl
type1_sound sum t u m h k =
    let a = on_ty_out (elem t) (λ w. if_so (as_num w) (a_num ∷ [])) u m k in
    let s = if_so_out (as_num a.0) (a_num ∷ []) u m a.3 in
    rw (← (heads a_num u [] m s.1)) refl
type1_sound distinct t u m h k =
    let a = on_ty_out (elem t) (λ w. a_bag w ∷ []) u m k in
    rw (← (heads (a_bag a.0) u [] m a.3)) (bag_sound t a.0 (elem_out t a.0 a.1 a.2) h)
type1_sound (dot n) t u m h k =
    let a = on_ty_out (fields_of t) (λ ts. get_ty n ts) u m k in
    get_sound n a.0 u m (rec_sound t a.0 (fields_out t a.0 a.1 a.2) h) a.3
type1_sound (as_field n) t u m h k = rw (← (heads (a_rec (ty n t no_ty)) u [] m k)) (sounds_in n t no_ty h refl refl)
type1_sound (without n) t u m h k =
    let a = on_ty_out (fields_of t) (λ ts. a_rec (left_out_ty n ts) ∷ []) u m k in
    rw (← (heads (a_rec (left_out_ty n a.0)) u [] m a.3)) (left_out_sound n a.0 (rec_sound t a.0 (fields_out t a.0 a.1 a.2) h))
type1_sound (project ns) t u m h k =
    let a = on_ty_out (fields_of t) (λ ts. a_rec (only_tys ns ts) ∷ []) u m k in
    rw (← (heads (a_rec (only_tys ns a.0)) u [] m a.3)) (only_sound ns a.0 (rec_sound t a.0 (fields_out t a.0 a.1 a.2) h))

type2_sound : (o : Op2) (t v u : Ty) (m : List Ty) → sound t ≡ true → sound v ≡ true → type2 o t v ≡ u ∷ m → sound u ≡ true
unfolding type2 sound
type2_sound equal t v u m h k l = let s = if_so_out (same_ty t v) (a_truth ∷ []) u m l in rw (← (heads a_truth u [] m s.1)) refl
type2_sound and t v u m h k l = let s = if_so_out (same_ty t a_truth && same_ty v a_truth) (a_truth ∷ []) u m l in rw (← (heads a_truth u [] m s.1)) refl
type2_sound or t v u m h k l = let s = if_so_out (same_ty t a_truth && same_ty v a_truth) (a_truth ∷ []) u m l in rw (← (heads a_truth u [] m s.1)) refl
type2_sound plus t v u m h k l = let s = if_so_out (as_num t && as_num v) (a_num ∷ []) u m l in rw (← (heads a_num u [] m s.1)) refl
type2_sound less t v u m h k l = let s = if_so_out (as_num t && as_num v) (a_truth ∷ []) u m l in rw (← (heads a_truth u [] m s.1)) refl
type2_sound join_bags t v u m h k l =
    let a = on_ty_out (elem t) (λ w. if_so (same_ty t v) (t ∷ [])) u m l in
    let s = if_so_out (same_ty t v) (t ∷ []) u m a.3 in
    rw (heads t u [] m s.1) at h
type2_sound join_recs t v u m h k l =
    let a = on_ty_out (fields_of t) (λ ts. on_ty (fields_of v) (λ us. a_rec (both_tys ts us) ∷ [])) u m l in
    let b = on_ty_out (fields_of v) (λ us. a_rec (both_tys a.0 us) ∷ []) u m a.3 in
    rw (← (heads (a_rec (both_tys a.0 b.0)) u [] m b.3)) (both_sound a.0 b.0 (rec_sound t a.0 (fields_out t a.0 a.1 a.2) h) (rec_sound v b.0 (fields_out v b.0 b.1 b.2) k))
type2_sound within t v u m h k l =
    let a = on_ty_out (elem v) (λ w. if_so (same_ty t w) (a_truth ∷ [])) u m l in
    let s = if_so_out (same_ty t a.0) (a_truth ∷ []) u m a.3 in
    rw (← (heads a_truth u [] m s.1)) refl

at_sound : (ss : Schema) (n : ℕ) (u : Ty) (m : List Ty) → all_sound ss ≡ true → ty_at ss n ≡ u ∷ m → sound u ≡ true
unfolding all_sound ty_at
at_sound [] n u m h k = let z : ◌≡◌ {A = ℕ} 0 1 = cc in absurd (omega arith)
at_sound (s ∷ ss) zero u m h k = rw (heads s u [] m k) at (and_l (sound s) (all_sound ss) h)
at_sound (s ∷ ss) (suc n) u m h k = at_sound ss n u m (and_r (sound s) (all_sound ss) h) k

pub type_sound : (ss : Schema) → all_sound ss ≡ true → (q : Query) (e t u : Ty) (m : List Ty) → sound e ≡ true → sound t ≡ true → type_of ss q e t ≡ u ∷ m → sound u ≡ true
unfolding type_of sound
type_sound ss h (table n) e t u m k l o = at_sound ss n u m h o
type_sound ss h it e t u m k l o = rw (heads t u [] m o) at l
type_sound ss h env e t u m k l o = rw (heads e u [] m o) at k
type_sound ss h (just v c) e t u m k l o =
    let s = if_so_out (sound v && is_of c v) (v ∷ []) u m o in
    rw (heads v u [] m s.1) at (and_l (sound v) (is_of c v) s.0)
type_sound ss h (two b p q) e t u m k l o =
    let a = on_ty_out (type_of ss p e t) (λ v. on_ty (type_of ss q e t) (λ w. type2 b v w)) u m o in
    let c = on_ty_out (type_of ss q e t) (λ w. type2 b a.0 w) u m a.3 in
    type2_sound b a.0 c.0 u m (type_sound ss h p e t a.0 a.1 k l a.2) (type_sound ss h q e t c.0 c.1 k l c.2) c.3
type_sound ss h (one b q) e t u m k l o =
    let a = on_ty_out (type_of ss q e t) (λ v. type1 b v) u m o in
    type1_sound b a.0 u m (type_sound ss h q e t a.0 a.1 k l a.2) a.3
type_sound ss h (each p q) e t u m k l o =
    let a = on_ty_out (type_of ss q e t) (λ a. on_ty (elem a) (λ u. on_ty (type_of ss p e u) (λ v. a_bag v ∷ []))) u m o in
    let b = on_ty_out (elem a.0) (λ u. on_ty (type_of ss p e u) (λ v. a_bag v ∷ [])) u m a.3 in
    let c = on_ty_out (type_of ss p e b.0) (λ v. a_bag v ∷ []) u m b.3 in
    rw (← (heads (a_bag c.0) u [] m c.3)) (type_sound ss h p e b.0 c.0 c.1 k (bag_sound a.0 b.0 (elem_out a.0 b.0 b.1 b.2) (type_sound ss h q e t a.0 a.1 k l a.2)) c.2)
type_sound ss h (keep p q) e t u m k l o =
    let a = on_ty_out (type_of ss q e t) (λ a. on_ty (elem a) (λ u. on_ty (type_of ss p e u) (λ v. if_so (same_ty v a_truth) (a ∷ [])))) u m o in
    let b = on_ty_out (elem a.0) (λ u. on_ty (type_of ss p e u) (λ v. if_so (same_ty v a_truth) (a.0 ∷ []))) u m a.3 in
    let c = on_ty_out (type_of ss p e b.0) (λ v. if_so (same_ty v a_truth) (a.0 ∷ [])) u m b.3 in
    let s = if_so_out (same_ty c.0 a_truth) (a.0 ∷ []) u m c.3 in
    rw (heads a.0 u [] m s.1) at (type_sound ss h q e t a.0 a.1 k l a.2)
type_sound ss h (product p q) e t u m k l o =
    let a = on_ty_out (type_of ss p e t) _ u m o in
    let b = on_ty_out (fields_in a.0) _ u m a.3 in
    let c = on_ty_out (type_of ss q e t) _ u m b.3 in
    let d = on_ty_out (fields_in c.0) _ u m c.3 in
    rw (← (heads (a_bag (a_rec (both_tys b.0 d.0))) u [] m d.3))
    (both_sound b.0 d.0 (bag_rec_sound a.0 b.0 (fields_in_out a.0 b.0 b.1 b.2) (type_sound ss h p e t a.0 a.1 k l a.2))
    (bag_rec_sound c.0 d.0 (fields_in_out c.0 d.0 d.1 d.2) (type_sound ss h q e t c.0 c.1 k l c.2)))
type_sound ss h (matched i j p q) e t u m k l o =
    let a = on_ty_out (type_of ss p e t) _ u m o in
    let b = on_ty_out (fields_in a.0) _ u m a.3 in
    let c = on_ty_out (type_of ss q e t) _ u m b.3 in
    let d = on_ty_out (fields_in c.0) _ u m c.3 in
    let g = on_ty_out (get_ty i b.0) _ u m d.3 in
    let g' = on_ty_out (get_ty j d.0) _ u m g.3 in
    let s = if_so_out (same_ty g.0 g'.0) _ u m g'.3 in
    rw (← (heads (a_bag (a_rec (both_tys b.0 d.0))) u [] m s.1))
    (both_sound b.0 d.0 (bag_rec_sound a.0 b.0 (fields_in_out a.0 b.0 b.1 b.2) (type_sound ss h p e t a.0 a.1 k l a.2))
    (bag_rec_sound c.0 d.0 (fields_in_out c.0 d.0 d.1 d.2) (type_sound ss h q e t c.0 c.1 k l c.2)))
type_sound ss h (default p q) e t u m k l o =
    let a = on_ty_out (type_of ss p e t) (λ a. on_ty (elem a) (λ u. on_ty (type_of ss q e t) (λ b. if_so (same_ty a b) (a ∷ [])))) u m o in
    let b = on_ty_out (elem a.0) (λ u. on_ty (type_of ss q e t) (λ b. if_so (same_ty a.0 b) (a.0 ∷ []))) u m a.3 in
    let c = on_ty_out (type_of ss q e t) (λ b. if_so (same_ty a.0 b) (a.0 ∷ [])) u m b.3 in
    let s = if_so_out (same_ty a.0 c.0) (a.0 ∷ []) u m c.3 in
    rw (heads a.0 u [] m s.1) at (type_sound ss h p e t a.0 a.1 k l a.2)
type_sound ss h (as_left v q) e t u m k l o =
    let a = on_ty_out (type_of ss q e t) (λ a. if_so (sound v) (an_either a v ∷ [])) u m o in
    let s = if_so_out (sound v) (an_either a.0 v ∷ []) u m a.3 in
    rw (← (heads (an_either a.0 v) u [] m s.1)) (and_i (sound a.0) (sound v) (type_sound ss h q e t a.0 a.1 k l a.2) s.0)
type_sound ss h (as_right v q) e t u m k l o =
    let a = on_ty_out (type_of ss q e t) (λ a. if_so (sound v) (an_either v a ∷ [])) u m o in
    let s = if_so_out (sound v) (an_either v a.0 ∷ []) u m a.3 in
    rw (← (heads (an_either v a.0) u [] m s.1)) (and_i (sound v) (sound a.0) s.0 (type_sound ss h q e t a.0 a.1 k l a.2))
type_sound ss h (either p q) e t u m k l o =
    let a = on_ty_out (sides_of t) (λ s. on_ty (type_of ss p e s.l) (λ a. on_ty (type_of ss q e s.r) (λ b. if_so (same_ty a b) (a ∷ [])))) u m o in
    let b = on_ty_out (type_of ss p e a.0.l) (λ v. on_ty (type_of ss q e a.0.r) (λ b. if_so (same_ty v b) (v ∷ []))) u m a.3 in
    let c = on_ty_out (type_of ss q e a.0.r) (λ v. if_so (same_ty b.0 v) (b.0 ∷ [])) u m b.3 in
    let s = if_so_out (same_ty b.0 c.0) (b.0 ∷ []) u m c.3 in
    let lr : (sound a.0.l && sound a.0.r) ≡ true = rw (sides_out t a.0 a.1 a.2) at l in
    rw (heads b.0 u [] m s.1) at (type_sound ss h p e a.0.l b.0 b.1 k (and_l (sound a.0.l) (sound a.0.r) lr) b.2)
type_sound ss h (then p q) e t u m k l o =
    let a = on_ty_out (type_of ss q e t) (λ a. type_of ss p e a) u m o in
    type_sound ss h p e a.0 u m k (type_sound ss h q e t a.0 a.1 k l a.2) a.3
type_sound ss h (with_env p q) e t u m k l o =
    let a = on_ty_out (type_of ss q e t) (λ a. type_of ss p a t) u m o in
    type_sound ss h p a.0 t u m (type_sound ss h q e t a.0 a.1 k l a.2) l a.3

pub types_are_sound : TypesAreSound
unfolding TypesAreSound
types_are_sound ss q e t u a b c h = type_sound ss a q e t u [] b c h

pub comes_to_its_type : ComesToItsType
unfolding ComesToItsType
comes_to_its_type ss ts q e t u x y a b c d f g h =
    let z = comes ss ts d q e t u [] x y f g h in
    (z.0, (z.1, z.2, type_sound ss a q e t u [] b c h))
