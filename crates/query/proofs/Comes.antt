-- A question with a type comes to something of that type.
use mathlib.Core.Path.{◌≡◌, refl, sym, ◌∙◌}
use mathlib.Core.Bool.{true, ◌&&◌, false≢true}
use mathlib.Core.List.{List, [], ◌∷◌}
use Prim.Native.Nat.{ℕ, zero, suc}
use native.Mathlib.Omega.{arith}
use Rattle.query.specs.Data.{Name, Data, bag, left, right}
use Rattle.query.specs.Query.{Op2, Op1, Ty, Query, Tables, table_at, came, get_or_fail, is_empty, eval, a_truth, a_bag, a_rec, an_either, table, it, env, just, two, one, each, keep, product, matched, default, as_left, as_right, either, then, with_env}
use Rattle.query.specs.Types.{same_ty, sound, elem, sides_of, is_of, on_ty, if_so, get_ty, both_tys, fields_in, type1, type2, Schema, ty_at, type_of, tables_are}
use Rattle.query.proofs.Tests.{and_l, and_r}
use Rattle.query.proofs.TypeParts.{on_ty_out, if_so_out, same_ty_out, elem_out, sides_out, heads, fields_in_out}
use Rattle.query.proofs.OfType.{bag_of, left_of, right_of}
use Rattle.query.proofs.Steps.{Is, after_of, on_bag_of, each_of_of, keep_of_of, all_pairs_of, matched_pairs_of, on_either_of, pick_is}
use Rattle.query.proofs.Operators.{apply1_of, apply2_of}

pub table_of : (ts : Tables) (ss : Schema) (n : ℕ) (u : Ty) (m : List Ty) → tables_are ts ss ≡ true → ty_at ss n ≡ u ∷ m → (d : Data) × (table_at ts n ≡ d ∷ []) × (is_of d u ≡ true)
unfolding tables_are ty_at table_at
table_of [] [] n u m h k = let z : ◌≡◌ {A = ℕ} 0 1 = cc in absurd (omega arith)
table_of [] (s ∷ ss) n u m h k = absurd (false≢true h)
table_of (t ∷ ts) [] n u m h k = absurd (false≢true h)
table_of (t ∷ ts) (s ∷ ss) zero u m h k = let e : s ≡ u = cc in (t, refl, (rw e at (and_l (is_of t s) (tables_are ts ss) h)))
table_of (t ∷ ts) (s ∷ ss) (suc n) u m h k = table_of ts ss n u m (and_r (is_of t s) (tables_are ts ss) h) k

-- a question comes to what its type says, on tables of a schema
abbrev pub Comes : Schema → Tables → Query → Type 0
Comes ss ts q = (e t u : Ty) (m : List Ty) (x y : Data) → is_of x e ≡ true → is_of y t ≡ true → type_of ss q e t ≡ u ∷ m → Is (eval ts q x y) u

table_comes : (ss : Schema) (ts : Tables) → tables_are ts ss ≡ true → (n : ℕ) → Comes ss ts (table n)
unfolding type_of eval get_or_fail
table_comes ss ts h n e t u m x y k l o = let c = table_of ts ss n u m h o in rw c.1 (c.0, refl, c.2)

it_comes : (ss : Schema) (ts : Tables) → Comes ss ts it
unfolding type_of eval
it_comes ss ts e t u m x y k l o = let f : t ≡ u = heads t u [] m o in (y, refl, (rw f at l))

env_comes : (ss : Schema) (ts : Tables) → Comes ss ts env
unfolding type_of eval
env_comes ss ts e t u m x y k l o = let f : e ≡ u = heads e u [] m o in (x, refl, (rw f at k))

just_comes : (ss : Schema) (ts : Tables) (v : Ty) (c : Data) → Comes ss ts (just v c)
unfolding type_of eval
just_comes ss ts v c e t u m x y k l o =
    let s = if_so_out (sound v && is_of c v) (v ∷ []) u m o in
    let f : v ≡ u = heads v u [] m s.1 in
    (c, refl, (rw f at (and_r (sound v) (is_of c v) s.0)))

two_comes : (ss : Schema) (ts : Tables) (b : Op2) (p : Query) (q : Query) → Comes ss ts p → Comes ss ts q → Comes ss ts (two b p q)
unfolding type_of eval
two_comes ss ts b p q ip iq e t u m x y k l o =
    let a = on_ty_out (type_of ss p e t) (λ v. on_ty (type_of ss q e t) (λ w. type2 b v w)) u m o in
    let c = on_ty_out (type_of ss q e t) (λ w. type2 b a.0 w) u m a.3 in
    after_of (eval ts p x y) _ a.0 u (ip e t a.0 a.1 x y k l a.2)
    (λ i r. after_of (eval ts q x y) _ c.0 u (iq e t c.0 c.1 x y k l c.2) (λ j s. apply2_of b a.0 c.0 u m i j c.3 r s))

one_comes : (ss : Schema) (ts : Tables) (b : Op1) (q : Query) → Comes ss ts q → Comes ss ts (one b q)
unfolding type_of eval
one_comes ss ts b q iq e t u m x y k l o =
    let a = on_ty_out (type_of ss q e t) (λ v. type1 b v) u m o in
    after_of (eval ts q x y) _ a.0 u (iq e t a.0 a.1 x y k l a.2) (λ i r. apply1_of b a.0 u m i a.3 r)

each_comes : (ss : Schema) (ts : Tables) (p : Query) (q : Query) → Comes ss ts p → Comes ss ts q → Comes ss ts (each p q)
unfolding type_of eval
each_comes ss ts p q ip iq e t u m x y k l o =
    let a = on_ty_out (type_of ss q e t) (λ a. on_ty (elem a) (λ u. on_ty (type_of ss p e u) (λ v. a_bag v ∷ []))) u m o in
    let b = on_ty_out (elem a.0) (λ u. on_ty (type_of ss p e u) (λ v. a_bag v ∷ [])) u m a.3 in
    let c = on_ty_out (type_of ss p e b.0) (λ v. a_bag v ∷ []) u m b.3 in
    let f : a_bag c.0 ≡ u = heads (a_bag c.0) u [] m c.3 in
    rw (← f)
    (after_of (eval ts q x y) _ a.0 (a_bag c.0) (iq e t a.0 a.1 x y k l a.2)
    (λ i r. on_bag_of i _ b.0 (a_bag c.0) (rw (elem_out a.0 b.0 b.1 b.2) at r)
    (λ xs s. each_of_of (λ z. eval ts p x z) b.0 c.0 (a_bag c.0) (λ z w. ip e b.0 c.0 c.1 x z k w c.2) xs s _ (λ ys w. (bag ys, refl, bag_of ys c.0 w)))))

keep_comes : (ss : Schema) (ts : Tables) (p : Query) (q : Query) → Comes ss ts p → Comes ss ts q → Comes ss ts (keep p q)
unfolding type_of eval
keep_comes ss ts p q ip iq e t u m x y k l o =
    let a = on_ty_out (type_of ss q e t) (λ a. on_ty (elem a) (λ u. on_ty (type_of ss p e u) (λ v. if_so (same_ty v a_truth) (a ∷ [])))) u m o in
    let b = on_ty_out (elem a.0) (λ u. on_ty (type_of ss p e u) (λ v. if_so (same_ty v a_truth) (a.0 ∷ []))) u m a.3 in
    let c = on_ty_out (type_of ss p e b.0) (λ v. if_so (same_ty v a_truth) (a.0 ∷ [])) u m b.3 in
    let s = if_so_out (same_ty c.0 a_truth) (a.0 ∷ []) u m c.3 in
    let g : a.0 ≡ u = heads a.0 u [] m s.1 in
    let f : a_bag b.0 ≡ u = sym (elem_out a.0 b.0 b.1 b.2) ∙ g in
    let tr : c.0 ≡ a_truth = same_ty_out c.0 a_truth s.0 in
    let tp : type_of ss p e b.0 ≡ a_truth ∷ c.1 = rw tr at c.2 in
    rw (← f)
    (after_of (eval ts q x y) _ a.0 (a_bag b.0) (iq e t a.0 a.1 x y k l a.2)
    (λ i r. on_bag_of i _ b.0 (a_bag b.0) (rw (elem_out a.0 b.0 b.1 b.2) at r)
    (λ xs n. keep_of_of (λ z. eval ts p x z) b.0 (a_bag b.0) (λ z w. ip e b.0 a_truth c.1 x z k w tp) xs n _ (λ ys w. (bag ys, refl, bag_of ys b.0 w)))))

product_comes : (ss : Schema) (ts : Tables) (p : Query) (q : Query) → Comes ss ts p → Comes ss ts q → Comes ss ts (product p q)
unfolding type_of eval
product_comes ss ts p q ip iq e t u m x y k l o =
    let a = on_ty_out (type_of ss p e t) (λ a. on_ty (fields_in a) (λ ts. on_ty (type_of ss q e t) (λ b. on_ty (fields_in b) (λ us. a_bag (a_rec (both_tys ts us)) ∷ [])))) u m o in
    let b = on_ty_out (fields_in a.0) (λ ts. on_ty (type_of ss q e t) (λ b. on_ty (fields_in b) (λ us. a_bag (a_rec (both_tys ts us)) ∷ []))) u m a.3 in
    let c = on_ty_out (type_of ss q e t) (λ v. on_ty (fields_in v) (λ us. a_bag (a_rec (both_tys b.0 us)) ∷ [])) u m b.3 in
    let d = on_ty_out (fields_in c.0) (λ us. a_bag (a_rec (both_tys b.0 us)) ∷ []) u m c.3 in
    let f : a_bag (a_rec (both_tys b.0 d.0)) ≡ u = heads (a_bag (a_rec (both_tys b.0 d.0))) u [] m d.3 in
    rw (← f)
    (after_of (eval ts p x y) _ a.0 (a_bag (a_rec (both_tys b.0 d.0))) (ip e t a.0 a.1 x y k l a.2)
    (λ i r. on_bag_of i _ (a_rec b.0) (a_bag (a_rec (both_tys b.0 d.0))) (rw (fields_in_out a.0 b.0 b.1 b.2) at r)
    (λ xs n. after_of (eval ts q x y) _ c.0 (a_bag (a_rec (both_tys b.0 d.0))) (iq e t c.0 c.1 x y k l c.2)
    (λ j w. on_bag_of j _ (a_rec d.0) (a_bag (a_rec (both_tys b.0 d.0))) (rw (fields_in_out c.0 d.0 d.1 d.2) at w)
    (λ ys z. all_pairs_of b.0 d.0 (a_bag (a_rec (both_tys b.0 d.0))) xs ys n z _ (λ zs v. (bag zs, refl, bag_of zs (a_rec (both_tys b.0 d.0)) v)))))))

matched_comes : (ss : Schema) (ts : Tables) (i : Name) (j : Name) (p : Query) (q : Query) → Comes ss ts p → Comes ss ts q → Comes ss ts (matched i j p q)
unfolding type_of eval
matched_comes ss ts i j p q ip iq e t u m x y k l o =
    let a = on_ty_out (type_of ss p e t) _ u m o in
    let b = on_ty_out (fields_in a.0) _ u m a.3 in
    let c = on_ty_out (type_of ss q e t) _ u m b.3 in
    let d = on_ty_out (fields_in c.0) _ u m c.3 in
    let g = on_ty_out (get_ty i b.0) _ u m d.3 in
    let g' = on_ty_out (get_ty j d.0) _ u m g.3 in
    let s = if_so_out (same_ty g.0 g'.0) _ u m g'.3 in
    let f : a_bag (a_rec (both_tys b.0 d.0)) ≡ u = heads (a_bag (a_rec (both_tys b.0 d.0))) u [] m s.1 in
    rw (← f)
    (after_of (eval ts p x y) _ a.0 (a_bag (a_rec (both_tys b.0 d.0))) (ip e t a.0 a.1 x y k l a.2)
    (λ v r. on_bag_of v _ (a_rec b.0) (a_bag (a_rec (both_tys b.0 d.0))) (rw (fields_in_out a.0 b.0 b.1 b.2) at r)
    (λ xs n. after_of (eval ts q x y) _ c.0 (a_bag (a_rec (both_tys b.0 d.0))) (iq e t c.0 c.1 x y k l c.2)
    (λ w z. on_bag_of w _ (a_rec d.0) (a_bag (a_rec (both_tys b.0 d.0))) (rw (fields_in_out c.0 d.0 d.1 d.2) at z)
    (λ ys z'. matched_pairs_of i j b.0 d.0 g.0 g'.0 g.1 g'.1 (a_bag (a_rec (both_tys b.0 d.0))) g.2 g'.2 xs ys n z' _ (λ zs v'. (bag zs, refl, bag_of zs (a_rec (both_tys b.0 d.0)) v')))))))

default_comes : (ss : Schema) (ts : Tables) (p : Query) (q : Query) → Comes ss ts p → Comes ss ts q → Comes ss ts (default p q)
unfolding type_of eval
default_comes ss ts p q ip iq e t u m x y k l o =
    let a = on_ty_out (type_of ss p e t) (λ a. on_ty (elem a) (λ u. on_ty (type_of ss q e t) (λ b. if_so (same_ty a b) (a ∷ [])))) u m o in
    let b = on_ty_out (elem a.0) (λ u. on_ty (type_of ss q e t) (λ b. if_so (same_ty a.0 b) (a.0 ∷ []))) u m a.3 in
    let c = on_ty_out (type_of ss q e t) (λ b. if_so (same_ty a.0 b) (a.0 ∷ [])) u m b.3 in
    let s = if_so_out (same_ty a.0 c.0) (a.0 ∷ []) u m c.3 in
    let f : a.0 ≡ u = heads a.0 u [] m s.1 in
    let g : c.0 ≡ u = sym (same_ty_out a.0 c.0 s.0) ∙ f in
    after_of (eval ts p x y) _ a.0 u (ip e t a.0 a.1 x y k l a.2)
    (λ i r. pick_is (is_empty i) (eval ts q x y) (came 0 i) u (rw g at (iq e t c.0 c.1 x y k l c.2)) (i, refl, (rw f at r)))

as_left_comes : (ss : Schema) (ts : Tables) (v : Ty) (q : Query) → Comes ss ts q → Comes ss ts (as_left v q)
unfolding type_of eval
as_left_comes ss ts v q iq e t u m x y k l o =
    let a = on_ty_out (type_of ss q e t) (λ a. if_so (sound v) (an_either a v ∷ [])) u m o in
    let s = if_so_out (sound v) (an_either a.0 v ∷ []) u m a.3 in
    let f : an_either a.0 v ≡ u = heads (an_either a.0 v) u [] m s.1 in
    rw (← f) (after_of (eval ts q x y) _ a.0 (an_either a.0 v) (iq e t a.0 a.1 x y k l a.2) (λ i r. (left i, refl, left_of i a.0 v r)))

as_right_comes : (ss : Schema) (ts : Tables) (v : Ty) (q : Query) → Comes ss ts q → Comes ss ts (as_right v q)
unfolding type_of eval
as_right_comes ss ts v q iq e t u m x y k l o =
    let a = on_ty_out (type_of ss q e t) (λ a. if_so (sound v) (an_either v a ∷ [])) u m o in
    let s = if_so_out (sound v) (an_either v a.0 ∷ []) u m a.3 in
    let f : an_either v a.0 ≡ u = heads (an_either v a.0) u [] m s.1 in
    rw (← f) (after_of (eval ts q x y) _ a.0 (an_either v a.0) (iq e t a.0 a.1 x y k l a.2) (λ i r. (right i, refl, right_of i v a.0 r)))

either_comes : (ss : Schema) (ts : Tables) (p : Query) (q : Query) → Comes ss ts p → Comes ss ts q → Comes ss ts (either p q)
unfolding type_of eval
either_comes ss ts p q ip iq e t u m x y k l o =
    let a = on_ty_out (sides_of t) (λ s. on_ty (type_of ss p e s.l) (λ a. on_ty (type_of ss q e s.r) (λ b. if_so (same_ty a b) (a ∷ [])))) u m o in
    let b = on_ty_out (type_of ss p e a.0.l) (λ v. on_ty (type_of ss q e a.0.r) (λ b. if_so (same_ty v b) (v ∷ []))) u m a.3 in
    let c = on_ty_out (type_of ss q e a.0.r) (λ v. if_so (same_ty b.0 v) (b.0 ∷ [])) u m b.3 in
    let s = if_so_out (same_ty b.0 c.0) (b.0 ∷ []) u m c.3 in
    let f : b.0 ≡ u = heads b.0 u [] m s.1 in
    let bc : b.0 ≡ c.0 = same_ty_out b.0 c.0 s.0 in
    let g : c.0 ≡ u = rw bc at f in
    on_either_of y _ _ a.0.l a.0.r u (rw (sides_out t a.0 a.1 a.2) at l)
    (λ z w. (rw f at (ip e a.0.l b.0 b.1 x z k w b.2))) (λ z w. (rw g at (iq e a.0.r c.0 c.1 x z k w c.2)))

then_comes : (ss : Schema) (ts : Tables) (p : Query) (q : Query) → Comes ss ts p → Comes ss ts q → Comes ss ts (then p q)
unfolding type_of eval
then_comes ss ts p q ip iq e t u m x y k l o =
    let a = on_ty_out (type_of ss q e t) (λ a. type_of ss p e a) u m o in
    after_of (eval ts q x y) _ a.0 u (iq e t a.0 a.1 x y k l a.2) (λ i r. ip e a.0 u m x i k r a.3)

with_env_comes : (ss : Schema) (ts : Tables) (p : Query) (q : Query) → Comes ss ts p → Comes ss ts q → Comes ss ts (with_env p q)
unfolding type_of eval
with_env_comes ss ts p q ip iq e t u m x y k l o =
    let a = on_ty_out (type_of ss q e t) (λ a. type_of ss p a t) u m o in
    after_of (eval ts q x y) _ a.0 u (iq e t a.0 a.1 x y k l a.2) (λ i r. ip a.0 t u m i y r l a.3)

pub comes : (ss : Schema) (ts : Tables) → tables_are ts ss ≡ true → (q : Query) → Comes ss ts q
comes ss ts h (table n) = table_comes ss ts h n
comes ss ts h it = it_comes ss ts
comes ss ts h env = env_comes ss ts
comes ss ts h (just v c) = just_comes ss ts v c
comes ss ts h (two b p q) = two_comes ss ts b p q (comes ss ts h p) (comes ss ts h q)
comes ss ts h (one b q) = one_comes ss ts b q (comes ss ts h q)
comes ss ts h (each p q) = each_comes ss ts p q (comes ss ts h p) (comes ss ts h q)
comes ss ts h (keep p q) = keep_comes ss ts p q (comes ss ts h p) (comes ss ts h q)
comes ss ts h (product p q) = product_comes ss ts p q (comes ss ts h p) (comes ss ts h q)
comes ss ts h (matched i j p q) = matched_comes ss ts i j p q (comes ss ts h p) (comes ss ts h q)
comes ss ts h (default p q) = default_comes ss ts p q (comes ss ts h p) (comes ss ts h q)
comes ss ts h (as_left v q) = as_left_comes ss ts v q (comes ss ts h q)
comes ss ts h (as_right v q) = as_right_comes ss ts v q (comes ss ts h q)
comes ss ts h (either p q) = either_comes ss ts p q (comes ss ts h p) (comes ss ts h q)
comes ss ts h (then p q) = then_comes ss ts p q (comes ss ts h p) (comes ss ts h q)
comes ss ts h (with_env p q) = with_env_comes ss ts p q (comes ss ts h p) (comes ss ts h q)
