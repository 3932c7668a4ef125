-- The type of a query nests no deeper than what it is asked of and two for each of its parts.
use mathlib.Core.Path.{◌≡◌, sym, ap}
use mathlib.Core.Bool.{Bool, true, false, ◌&&◌}
use mathlib.Core.List.{List, [], ◌∷◌}
use Prim.Native.Nat.{ℕ, zero, suc, max, ◌+◌, ◌*◌, ◌≤◌}
use native.Mathlib.Omega.{arith}
use Rattle.query.specs.Data.{Name, pick, same_text, less_text, one_of}
use Rattle.query.specs.Query.{Op2, Op1, Ty, Tys, Query, equal, and, or, plus, less, join_bags, join_recs, within, not_so, in_bag, flat, count, sum, distinct, dot, as_field, without, project, a_unit, a_num, a_truth, a_text, a_bag, a_rec, an_either, no_ty, ty, table, it, env, just, two, one, each, keep, product, matched, default, as_left, as_right, either, then, with_env}
use Rattle.query.specs.Types.{same_ty, sound, as_num, elem, fields_of, sides_of, is_of, on_ty, if_so, get_ty, put_ty, both_tys, left_out_ty, only_tys, fields_in, type1, type2, Schema, ty_at, type_of}
use Rattle.query.specs.Size.{size_t, size_ts, size_q}
use Rattle.query.proofs.TypeParts.{on_ty_out, if_so_out, elem_out, fields_out, sides_out, heads, fields_in_out}
use Rattle.values.specs.Height.{height_ty, height_tys}
use Rattle.bounds.specs.Names.{schema_height}
use Rattle.bounds.specs.Bounds.{TypeNoDeeper}

mutual
  unfolding height_ty height_tys size_t size_ts

  pub flat_type : (t : Ty) → height_ty t ≤ size_t t
  flat_type a_unit = omega arith
  flat_type a_num = omega arith
  flat_type a_truth = omega arith
  flat_type a_text = omega arith
  flat_type (a_bag t) = omega (arith, flat_type t)
  flat_type (a_rec ts) = omega (arith, flat_types ts)
  flat_type (an_either t u) = omega (arith, flat_type t, flat_type u)

  flat_types : (ts : Tys) → height_tys ts ≤ size_ts ts
  flat_types no_ty = omega arith
  flat_types (ty n t ts) = omega (arith, flat_type t, flat_types ts)

-- fields of records
get_height : (n : Name) (ts : Tys) (v : Ty) (m : List Ty) → get_ty n ts ≡ v ∷ m → height_ty v ≤ height_tys ts
unfolding get_ty height_tys pick
get_height n no_ty v m e = absurd (let z : ◌≡◌ {A = ℕ} 0 1 = cc in omega arith)
get_height n (ty k t ts) v m e = go (same_text n k) (λ f. get_height n ts v m f) e
  where
    go : (b : Bool) → (get_ty n ts ≡ v ∷ m → height_ty v ≤ height_tys ts) → pick b (t ∷ []) (get_ty n ts) ≡ v ∷ m → height_ty v ≤ max (height_ty t) (height_tys ts)
    go true f e = omega (arith, ap height_ty (heads t v [] m e))
    go false f e = omega (arith, f e)

put_height : (n : Name) (t : Ty) (ts : Tys) → height_tys (put_ty n t ts) ≤ max (height_ty t) (height_tys ts)
unfolding put_ty height_tys pick
put_height n t no_ty = omega arith
put_height n t (ty m u ts) = go (same_text n m) (less_text n m) (put_height n t ts)
  where
    go : (a b : Bool) → height_tys (put_ty n t ts) ≤ max (height_ty t) (height_tys ts) → height_tys (pick a (ty n t ts) (pick b (ty n t (ty m u ts)) (ty m u (put_ty n t ts)))) ≤ max (height_ty t) (max (height_ty u) (height_tys ts))
    go true b h = omega arith
    go false true h = omega arith
    go false false h = omega arith

both_height : (ts us : Tys) → height_tys (both_tys ts us) ≤ max (height_tys ts) (height_tys us)
unfolding both_tys height_tys
both_height ts no_ty = omega arith
both_height ts (ty n t us) = omega (arith, both_height (put_ty n t ts) us, put_height n t ts)

left_out_height : (n : Name) (ts : Tys) → height_tys (left_out_ty n ts) ≤ height_tys ts
unfolding left_out_ty height_tys pick
left_out_height n no_ty = omega arith
left_out_height n (ty m t ts) = go (same_text n m) (left_out_height n ts)
  where
    go : (b : Bool) → height_tys (left_out_ty n ts) ≤ height_tys ts → height_tys (pick b ts (ty m t (left_out_ty n ts))) ≤ max (height_ty t) (height_tys ts)
    go true h = omega arith
    go false h = omega arith

only_height : (ns : List Name) (ts : Tys) → height_tys (only_tys ns ts) ≤ height_tys ts
unfolding only_tys height_tys pick
only_height ns no_ty = omega arith
only_height ns (ty m t ts) = go (one_of m ns) (only_height ns ts)
  where
    go : (b : Bool) → height_tys (only_tys ns ts) ≤ height_tys ts → height_tys (pick b (ty m t (only_tys ns ts)) (only_tys ns ts)) ≤ max (height_ty t) (height_tys ts)
    go true h = omega arith
    go false h = omega arith

-- the heights of the parts of a type
bag_height : (t u : Ty) → t ≡ a_bag u → height_ty t ≡ suc (height_ty u)
unfolding height_ty
bag_height t u e = ap height_ty e

rec_height : (t : Ty) (us : Tys) → t ≡ a_rec us → height_ty t ≡ suc (height_tys us)
unfolding height_ty
rec_height t us e = ap height_ty e

bag_rec_height : (t : Ty) (us : Tys) → t ≡ a_bag (a_rec us) → height_ty t ≡ suc (suc (height_tys us))
unfolding height_ty
bag_rec_height t us e = ap height_ty e

is_height : (t u : Ty) → t ≡ u → height_ty t ≡ height_ty u
is_height t u e = ap height_ty e

type1_height : (o : Op1) (t u : Ty) (m : List Ty) → type1 o t ≡ u ∷ m → height_ty u ≤ suc (height_ty t)
unfolding type1 height_ty height_tys
type1_height not_so t u m k = let s = if_so_out (same_ty t a_truth) (a_truth ∷ []) u m k in omega (arith, is_height a_truth u (heads a_truth u [] m s.1))
type1_height in_bag t u m k = omega (arith, is_height (a_bag t) u (heads (a_bag t) u [] m k))
type1_height flat t u m k =
    let a = on_ty_out (elem t) (λ w. on_ty (elem w) (λ v. a_bag v ∷ [])) u m k in
    let b = on_ty_out (elem a.0) (λ v. a_bag v ∷ []) u m a.3 in
    omega (arith, is_height (a_bag b.0) u (heads (a_bag b.0) u [] m b.3), bag_height a.0 b.0 (elem_out a.0 b.0 b.1 b.2), bag_height t a.0 (elem_out t a.0 a.1 a.2))
type1_height count t u m k = let a = on_ty_out (elem t) (λ w. a_num ∷ []) u m k in omega (arith, is_height a_num u (heads a_num u [] m a.3))
type1_height sum t u m k =
    let a = on_ty_out (elem t) (λ w. if_so (as_num w) (a_num ∷ [])) u m k in
    let s = if_so_out (as_num a.0) (a_num ∷ []) u m a.3 in
    omega (arith, is_height a_num u (heads a_num u [] m s.1))
type1_height distinct t u m k =
    let a = on_ty_out (elem t) (λ w. a_bag w ∷ []) u m k in
    omega (arith, is_height (a_bag a.0) u (heads (a_bag a.0) u [] m a.3), bag_height t a.0 (elem_out t a.0 a.1 a.2))
type1_height (dot n) t u m k =
    let a = on_ty_out (fields_of t) (λ ts. get_ty n ts) u m k in
    omega (arith, get_height n a.0 u m a.3, rec_height t a.0 (fields_out t a.0 a.1 a.2))
type1_height (as_field n) t u m k = omega (arith, is_height (a_rec (ty n t no_ty)) u (heads (a_rec (ty n t no_ty)) u [] m k))
type1_height (without n) t u m k =
    let a = on_ty_out (fields_of t) (λ ts. a_rec (left_out_ty n ts) ∷ []) u m k in
    omega (arith, is_height (a_rec (left_out_ty n a.0)) u (heads (a_rec (left_out_ty n a.0)) u [] m a.3), left_out_height n a.0, rec_height t a.0 (fields_out t a.0 a.1 a.2))
type1_height (project ns) t u m k =
    let a = on_ty_out (fields_of t) (λ ts. a_rec (only_tys ns ts) ∷ []) u m k in
    omega (arith, is_height (a_rec (only_tys ns a.0)) u (heads (a_rec (only_tys ns a.0)) u [] m a.3), only_height ns a.0, rec_height t a.0 (fields_out t a.0 a.1 a.2))

type2_height : (o : Op2) (t v u : Ty) (m : List Ty) → type2 o t v ≡ u ∷ m → height_ty u ≤ max (height_ty t) (height_ty v)
unfolding type2 height_ty
type2_height equal t v u m l = let s = if_so_out (same_ty t v) (a_truth ∷ []) u m l in omega (arith, is_height a_truth u (heads a_truth u [] m s.1))
type2_height and t v u m l = let s = if_so_out (same_ty t a_truth && same_ty v a_truth) (a_truth ∷ []) u m l in omega (arith, is_height a_truth u (heads a_truth u [] m s.1))
type2_height or t v u m l = let s = if_so_out (same_ty t a_truth && same_ty v a_truth) (a_truth ∷ []) u m l in omega (arith, is_height a_truth u (heads a_truth u [] m s.1))
type2_height plus t v u m l = let s = if_so_out (as_num t && as_num v) (a_num ∷ []) u m l in omega (arith, is_height a_num u (heads a_num u [] m s.1))
type2_height less t v u m l = let s = if_so_out (as_num t && as_num v) (a_truth ∷ []) u m l in omega (arith, is_height a_truth u (heads a_truth u [] m s.1))
type2_height join_bags t v u m l =
    let a = on_ty_out (elem t) (λ w. if_so (same_ty t v) (t ∷ [])) u m l in
    let s = if_so_out (same_ty t v) (t ∷ []) u m a.3 in
    omega (arith, is_height t u (heads t u [] m s.1))
type2_height join_recs t v u m l =
    let a = on_ty_out (fields_of t) (λ ts. on_ty (fields_of v) (λ us. a_rec (both_tys ts us) ∷ [])) u m l in
    let b = on_ty_out (fields_of v) (λ us. a_rec (both_tys a.0 us) ∷ []) u m a.3 in
    omega (arith, is_height (a_rec (both_tys a.0 b.0)) u (heads (a_rec (both_tys a.0 b.0)) u [] m b.3), both_height a.0 b.0, rec_height t a.0 (fields_out t a.0 a.1 a.2), rec_height v b.0 (fields_out v b.0 b.1 b.2))
type2_height within t v u m l =
    let a = on_ty_out (elem v) (λ w. if_so (same_ty t w) (a_truth ∷ [])) u m l in
    let s = if_so_out (same_ty t a.0) (a_truth ∷ []) u m a.3 in
    omega (arith, is_height a_truth u (heads a_truth u [] m s.1))

at_height : (ss : Schema) (n : ℕ) (u : Ty) (m : List Ty) → ty_at ss n ≡ u ∷ m → height_ty u ≤ schema_height ss
unfolding ty_at schema_height
at_height [] n u m k = let z : ◌≡◌ {A = ℕ} 0 1 = cc in absurd (omega arith)
at_height (s ∷ ss) zero u m k = omega (arith, is_height s u (heads s u [] m k))
at_height (s ∷ ss) (suc n) u m k = omega (arith, at_height ss n u m k)

either_height : (t : Ty) (l r : Ty) → t ≡ an_either l r → height_ty t ≡ suc (max (height_ty l) (height_ty r))
unfolding height_ty
either_height t l r e = ap height_ty e

pub type_height : (ss : Schema) (q : Query) (e t u : Ty) (m : List Ty) (k : ℕ) → type_of ss q e t ≡ u ∷ m → schema_height ss ≤ k → height_ty e ≤ k → height_ty t ≤ k → height_ty u ≤ k + 2 * size_q q
unfolding type_of size_q
type_height ss (table n) e t u m k o a b c = omega (arith, at_height ss n u m o)
type_height ss it e t u m k o a b c = omega (arith, is_height t u (heads t u [] m o))
type_height ss env e t u m k o a b c = omega (arith, is_height e u (heads e u [] m o))
type_height ss (just v x) e t u m k o a b c =
    let s = if_so_out (sound v && is_of x v) (v ∷ []) u m o in
    omega (arith, is_height v u (heads v u [] m s.1), flat_type v)
type_height ss (two f p q) e t u m k o a b c =
    let x = on_ty_out (type_of ss p e t) (λ v. on_ty (type_of ss q e t) (λ w. type2 f v w)) u m o in
    let y = on_ty_out (type_of ss q e t) (λ w. type2 f x.0 w) u m x.3 in
    omega (arith, type2_height f x.0 y.0 u m y.3, type_height ss p e t x.0 x.1 k x.2 a b c, type_height ss q e t y.0 y.1 k y.2 a b c)
type_height ss (one f q) e t u m k o a b c =
    let x = on_ty_out (type_of ss q e t) (λ v. type1 f v) u m o in
    omega (arith, type1_height f x.0 u m x.3, type_height ss q e t x.0 x.1 k x.2 a b c)
type_height ss (each p q) e t u m k o a b c =
    let x = on_ty_out (type_of ss q e t) (λ a. on_ty (elem a) (λ u. on_ty (type_of ss p e u) (λ v. a_bag v ∷ []))) u m o in
    let y = on_ty_out (elem x.0) (λ u. on_ty (type_of ss p e u) (λ v. a_bag v ∷ [])) u m x.3 in
    let z = on_ty_out (type_of ss p e y.0) (λ v. a_bag v ∷ []) u m y.3 in
    let h = type_height ss q e t x.0 x.1 k x.2 a b c in
    let i = bag_height x.0 y.0 (elem_out x.0 y.0 y.1 y.2) in
    let j = type_height ss p e y.0 z.0 z.1 (k + 2 * size_q q) z.2 (omega arith) (omega arith) (omega (arith, h, i)) in
    omega (arith, j, bag_height u z.0 (sym (heads (a_bag z.0) u [] m z.3)))
type_height ss (keep p q) e t u m k o a b c =
    let x = on_ty_out (type_of ss q e t) (λ a. on_ty (elem a) (λ u. on_ty (type_of ss p e u) (λ v. if_so (same_ty v a_truth) (a ∷ [])))) u m o in
    let y = on_ty_out (elem x.0) (λ u. on_ty (type_of ss p e u) (λ v. if_so (same_ty v a_truth) (x.0 ∷ []))) u m x.3 in
    let z = on_ty_out (type_of ss p e y.0) (λ v. if_so (same_ty v a_truth) (x.0 ∷ [])) u m y.3 in
    let s = if_so_out (same_ty z.0 a_truth) (x.0 ∷ []) u m z.3 in
    omega (arith, type_height ss q e t x.0 x.1 k x.2 a b c, is_height x.0 u (heads x.0 u [] m s.1))
type_height ss (product p q) e t u m k o a b c =
    let x = on_ty_out (type_of ss p e t) _ u m o in
    let y = on_ty_out (fields_in x.0) _ u m x.3 in
    let z = on_ty_out (type_of ss q e t) _ u m y.3 in
    let w = on_ty_out (fields_in z.0) _ u m z.3 in
    omega (
      arith,
      bag_rec_height u (both_tys y.0 w.0) (sym (heads (a_bag (a_rec (both_tys y.0 w.0))) u [] m w.3)),
      both_height y.0 w.0,
      bag_rec_height x.0 y.0 (fields_in_out x.0 y.0 y.1 y.2),
      bag_rec_height z.0 w.0 (fields_in_out z.0 w.0 w.1 w.2),
      type_height ss p e t x.0 x.1 k x.2 a b c,
      type_height ss q e t z.0 z.1 k z.2 a b c,
    )
type_height ss (matched i j p q) e t u m k o a b c =
    let x = on_ty_out (type_of ss p e t) _ u m o in
    let y = on_ty_out (fields_in x.0) _ u m x.3 in
    let z = on_ty_out (type_of ss q e t) _ u m y.3 in
    let w = on_ty_out (fields_in z.0) _ u m z.3 in
    let g = on_ty_out (get_ty i y.0) _ u m w.3 in
    let h = on_ty_out (get_ty j w.0) _ u m g.3 in
    let s = if_so_out (same_ty g.0 h.0) _ u m h.3 in
    omega (
      arith,
      bag_rec_height u (both_tys y.0 w.0) (sym (heads (a_bag (a_rec (both_tys y.0 w.0))) u [] m s.1)),
      both_height y.0 w.0,
      bag_rec_height x.0 y.0 (fields_in_out x.0 y.0 y.1 y.2),
      bag_rec_height z.0 w.0 (fields_in_out z.0 w.0 w.1 w.2),
      type_height ss p e t x.0 x.1 k x.2 a b c,
      type_height ss q e t z.0 z.1 k z.2 a b c,
    )
type_height ss (default p q) e t u m k o a b c =
    let x = on_ty_out (type_of ss p e t) (λ a. on_ty (elem a) (λ u. on_ty (type_of ss q e t) (λ b. if_so (same_ty a b) (a ∷ [])))) u m o in
    let y = on_ty_out (elem x.0) (λ u. on_ty (type_of ss q e t) (λ b. if_so (same_ty x.0 b) (x.0 ∷ []))) u m x.3 in
    let z = on_ty_out (type_of ss q e t) (λ b. if_so (same_ty x.0 b) (x.0 ∷ [])) u m y.3 in
    let s = if_so_out (same_ty x.0 z.0) (x.0 ∷ []) u m z.3 in
    omega (arith, type_height ss p e t x.0 x.1 k x.2 a b c, is_height x.0 u (heads x.0 u [] m s.1))
type_height ss (as_left v q) e t u m k o a b c =
    let x = on_ty_out (type_of ss q e t) (λ a. if_so (sound v) (an_either a v ∷ [])) u m o in
    let s = if_so_out (sound v) (an_either x.0 v ∷ []) u m x.3 in
    omega (arith, type_height ss q e t x.0 x.1 k x.2 a b c, flat_type v, either_height u x.0 v (sym (heads (an_either x.0 v) u [] m s.1)))
type_height ss (as_right v q) e t u m k o a b c =
    let x = on_ty_out (type_of ss q e t) (λ a. if_so (sound v) (an_either v a ∷ [])) u m o in
    let s = if_so_out (sound v) (an_either v x.0 ∷ []) u m x.3 in
    omega (arith, type_height ss q e t x.0 x.1 k x.2 a b c, flat_type v, either_height u v x.0 (sym (heads (an_either v x.0) u [] m s.1)))
type_height ss (either p q) e t u m k o a b c =
    let x = on_ty_out (sides_of t) (λ s. on_ty (type_of ss p e s.l) (λ a. on_ty (type_of ss q e s.r) (λ b. if_so (same_ty a b) (a ∷ [])))) u m o in
    let y = on_ty_out (type_of ss p e x.0.l) (λ v. on_ty (type_of ss q e x.0.r) (λ b. if_so (same_ty v b) (v ∷ []))) u m x.3 in
    let z = on_ty_out (type_of ss q e x.0.r) (λ v. if_so (same_ty y.0 v) (y.0 ∷ [])) u m y.3 in
    let s = if_so_out (same_ty y.0 z.0) (y.0 ∷ []) u m z.3 in
    let h = either_height t x.0.l x.0.r (sides_out t x.0 x.1 x.2) in
    omega (arith, type_height ss p e x.0.l y.0 y.1 k y.2 a b (omega (arith, h)), is_height y.0 u (heads y.0 u [] m s.1))
type_height ss (then p q) e t u m k o a b c =
    let x = on_ty_out (type_of ss q e t) (λ a. type_of ss p e a) u m o in
    let h = type_height ss q e t x.0 x.1 k x.2 a b c in
    omega (arith, type_height ss p e x.0 u m (k + 2 * size_q q) x.3 (omega arith) (omega arith) h)
type_height ss (with_env p q) e t u m k o a b c =
    let x = on_ty_out (type_of ss q e t) (λ a. type_of ss p a t) u m o in
    let h = type_height ss q e t x.0 x.1 k x.2 a b c in
    omega (arith, type_height ss p x.0 t u m (k + 2 * size_q q) x.3 (omega arith) h (omega arith))

pub type_no_deeper : TypeNoDeeper
type_no_deeper ss q e t u k o a b c = type_height ss q e t u [] k o a b c
