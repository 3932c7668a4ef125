-- A question has one type at most: each step of typing comes to none or one, if what it goes on with does.
use mathlib.Core.Path.{◌≡◌, refl}
use mathlib.Core.Bool.{Bool, true, false, false≢true}
use mathlib.Core.List.{List, [], ◌∷◌}
use Prim.Native.Nat.{ℕ, zero, suc, ◌≤◌}
use native.Mathlib.Omega.{arith}
use lib.ListN.{length}
use Rattle.query.specs.Data.{pick, Name, same_text}
use Rattle.query.specs.Query.{Op1, not_so, in_bag, flat, count, sum, distinct, dot, as_field, without, project, Op2, equal, and, or, plus, less, join_bags, join_recs, within, Ty, Tys, no_ty, ty, Query, table, it, env, just, two, one, each, keep, product, matched, default, as_left, as_right, either, then, with_env}
use Rattle.query.specs.Types.{on_ty, if_so, get_ty, type1, type2, Schema, ty_at, type_of}
use Rattle.query.specs.Size.{some_ty}
use Rattle.query.specs.Laws.{OneTypeOnly}

-- none or one
abbrev One : List Ty → Type 0
One l = length l ≤ 1

one_none : One []
one_none = omega arith

-- whatever the one is
one_one : 1 ≤ 1
one_one = omega arith

on_ty_one : {A : Type 0} (l : List A) (f : A → List Ty) → ((a : A) → One (f a)) → One (on_ty l f)
unfolding on_ty
on_ty_one [] f h = one_none
on_ty_one (a ∷ l) f h = h a

if_so_one : (b : Bool) (l : List Ty) → One l → One (if_so b l)
unfolding if_so
if_so_one true l h = h
if_so_one false l h = one_none

pick_one : (b : Bool) (l m : List Ty) → One l → One m → One (pick b l m)
unfolding pick
pick_one true l m h k = h
pick_one false l m h k = k

get_one : (n : Name) (ts : Tys) → One (get_ty n ts)
unfolding get_ty
get_one n no_ty = one_none
get_one n (ty m t ts) = pick_one (same_text n m) (t ∷ []) (get_ty n ts) one_one (get_one n ts)

type1_one : (o : Op1) (t : Ty) → One (type1 o t)
unfolding type1
type1_one not_so t = if_so_one _ _ one_one
type1_one in_bag t = one_one
type1_one flat t = on_ty_one _ _ (λ u. on_ty_one _ _ (λ v. one_one))
type1_one count t = on_ty_one _ _ (λ u. one_one)
type1_one sum t = on_ty_one _ _ (λ u. if_so_one _ _ one_one)
type1_one distinct t = on_ty_one _ _ (λ u. one_one)
type1_one (dot n) t = on_ty_one _ _ (λ ts. get_one n ts)
type1_one (as_field n) t = one_one
type1_one (without n) t = on_ty_one _ _ (λ ts. one_one)
type1_one (project ns) t = on_ty_one _ _ (λ ts. one_one)

type2_one : (o : Op2) (t u : Ty) → One (type2 o t u)
unfolding type2
type2_one equal t u = if_so_one _ _ one_one
type2_one and t u = if_so_one _ _ one_one
type2_one or t u = if_so_one _ _ one_one
type2_one plus t u = if_so_one _ _ one_one
type2_one less t u = if_so_one _ _ one_one
type2_one join_bags t u = on_ty_one _ _ (λ v. if_so_one _ _ one_one)
type2_one join_recs t u = on_ty_one _ _ (λ ts. on_ty_one _ _ (λ us. one_one))
type2_one within t u = on_ty_one _ _ (λ v. if_so_one _ _ one_one)

at_one : (ss : Schema) (n : ℕ) → One (ty_at ss n)
unfolding ty_at
at_one [] n = one_none
at_one (s ∷ ss) zero = one_one
at_one (s ∷ ss) (suc n) = at_one ss n

pub type_one : (ss : Schema) (q : Query) (e t : Ty) → length (type_of ss q e t) ≤ 1
unfolding type_of
type_one ss (table n) e t = at_one ss n
type_one ss it e t = one_one
type_one ss env e t = one_one
type_one ss (just u x) e t = if_so_one _ _ one_one
type_one ss (two o p q) e t = on_ty_one _ _ (λ a. on_ty_one _ _ (λ b. type2_one o a b))
type_one ss (one o q) e t = on_ty_one _ _ (λ a. type1_one o a)
type_one ss (each p q) e t = on_ty_one _ _ (λ a. on_ty_one _ _ (λ u. on_ty_one _ _ (λ v. one_one)))
type_one ss (keep p q) e t = on_ty_one _ _ (λ a. on_ty_one _ _ (λ u. on_ty_one _ _ (λ v. if_so_one _ _ one_one)))
type_one ss (product p q) e t = on_ty_one _ _ (λ a. on_ty_one _ _ (λ ts. on_ty_one _ _ (λ b. on_ty_one _ _ (λ us. one_one))))
type_one ss (matched m n p q) e t = on_ty_one _ _ (λ a. on_ty_one _ _ (λ ts. on_ty_one _ _ (λ b. on_ty_one _ _ (λ us. on_ty_one _ _ (λ x. on_ty_one _ _ (λ y. if_so_one _ _ one_one))))))
type_one ss (default p q) e t = on_ty_one _ _ (λ a. on_ty_one _ _ (λ u. on_ty_one _ _ (λ b. if_so_one _ _ one_one)))
type_one ss (as_left u q) e t = on_ty_one _ _ (λ a. if_so_one _ _ one_one)
type_one ss (as_right u q) e t = on_ty_one _ _ (λ a. if_so_one _ _ one_one)
type_one ss (either p q) e t = on_ty_one _ _ (λ s. on_ty_one _ _ (λ a. on_ty_one _ _ (λ b. if_so_one _ _ one_one)))
type_one ss (then p q) e t = on_ty_one _ _ (λ a. type_one ss p e a)
type_one ss (with_env p q) e t = on_ty_one _ _ (λ a. type_one ss p a t)

pub one_type_only : OneTypeOnly
unfolding OneTypeOnly
one_type_only ss q e t = type_one ss q e t

-- one, where there is some
only_one : (l : List Ty) → length l ≤ 1 → some_ty l ≡ true → (u : Ty) × (l ≡ u ∷ [])
unfolding some_ty
only_one [] h k = absurd (false≢true k)
only_one (u ∷ []) h k = (u, refl)
only_one (u ∷ (v ∷ l)) h k = absurd (omega arith)

-- a question that has a type has that one
pub some_type_out : (ss : Schema) (q : Query) (e t : Ty) → some_ty (type_of ss q e t) ≡ true → (u : Ty) × (type_of ss q e t ≡ u ∷ [])
some_type_out ss q e t = only_one (type_of ss q e t) (type_one ss q e t)
