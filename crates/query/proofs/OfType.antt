-- What is of a type: data, records and bags taken apart and put together.
use mathlib.Core.Path.{◌≡◌, refl}
use mathlib.Core.Logic.{◌⊎◌, inl, inr}
use mathlib.Core.Bool.{Bool, true, false, ◌&&◌, false≢true}
use mathlib.Core.List.{List, [], ◌∷◌}
use Prim.Native.Nat.{ℕ, ◌%◌}
use native.Mathlib.Nat.{mod-lt}
use native.Mathlib.Omega.{arith}
use lib.Dec.{ltb, lt→ltb}
use Rattle.query.specs.Data.{pick, same_text, less_text, Name, Data, Datas, Fields, join, is_in, once, get, put, left_out, both, one_of, only, unit, num, truth, text, bag, rec, left, right, none, more, no_field, field}
use Rattle.query.specs.Query.{Ty, Tys, word, a_num, a_truth, a_bag, a_rec, an_either, no_ty, ty}
use Rattle.query.specs.Types.{code, codes, as_num, elem, fields_of, sides_of, on_one, no_tys, first_ty, is_of, all_of, fields_are, get_ty, put_ty, both_tys, left_out_ty, only_tys}
use Rattle.query.proofs.Tests.{T→true, and_l, and_r, and_i}
use Rattle.query.proofs.Texts.{same_text_true, same_text_self}

-- what is of a type, taken apart
pub of_bag : (d : Data) (u : Ty) → is_of d (a_bag u) ≡ true → (y : Datas) × (d ≡ bag y) × (all_of y u ≡ true)
unfolding is_of all_of fields_are code codes same_text on_one elem fields_of sides_of as_num
of_bag unit u h = absurd (false≢true h)
of_bag (num y) u h = absurd (false≢true h)
of_bag (truth y) u h = absurd (false≢true h)
of_bag (text y) u h = absurd (false≢true h)
of_bag (bag y) u h = (y, refl, h)
of_bag (rec y) u h = absurd (false≢true h)
of_bag (left y) u h = absurd (false≢true h)
of_bag (right y) u h = absurd (false≢true h)

pub of_rec : (d : Data) (us : Tys) → is_of d (a_rec us) ≡ true → (y : Fields) × (d ≡ rec y) × (fields_are y us ≡ true)
unfolding is_of all_of fields_are code codes same_text on_one elem fields_of sides_of as_num
of_rec unit us h = absurd (false≢true h)
of_rec (num y) us h = absurd (false≢true h)
of_rec (truth y) us h = absurd (false≢true h)
of_rec (text y) us h = absurd (false≢true h)
of_rec (bag y) us h = absurd (false≢true h)
of_rec (rec y) us h = (y, refl, h)
of_rec (left y) us h = absurd (false≢true h)
of_rec (right y) us h = absurd (false≢true h)

pub of_num : (d : Data) → is_of d a_num ≡ true → (y : ℕ) × (d ≡ num y) × (ltb y word ≡ true)
unfolding is_of all_of fields_are code codes same_text on_one elem fields_of sides_of as_num
of_num unit h = absurd (false≢true h)
of_num (num y) h = (y, refl, h)
of_num (truth y) h = absurd (false≢true h)
of_num (text y) h = absurd (false≢true h)
of_num (bag y) h = absurd (false≢true h)
of_num (rec y) h = absurd (false≢true h)
of_num (left y) h = absurd (false≢true h)
of_num (right y) h = absurd (false≢true h)

pub of_truth : (d : Data) → is_of d a_truth ≡ true → (y : Bool) × (d ≡ truth y)
unfolding is_of all_of fields_are code codes same_text on_one elem fields_of sides_of as_num
of_truth unit h = absurd (false≢true h)
of_truth (num y) h = absurd (false≢true h)
of_truth (truth y) h = (y, refl)
of_truth (text y) h = absurd (false≢true h)
of_truth (bag y) h = absurd (false≢true h)
of_truth (rec y) h = absurd (false≢true h)
of_truth (left y) h = absurd (false≢true h)
of_truth (right y) h = absurd (false≢true h)

pub truth_of : (b : Bool) → is_of (truth b) a_truth ≡ true
unfolding is_of code same_text
truth_of b = refl

pub small_of : (n : ℕ) → ltb n word ≡ true → is_of (num n) a_num ≡ true
unfolding is_of as_num
small_of n h = h

pub mod_small : (n : ℕ) → ltb (n % word) word ≡ true
mod_small n = T→true (ltb (n % word) word) (lt→ltb (n % word) word (mod-lt n (omega arith)))

pub bag_of : (ds : Datas) (u : Ty) → all_of ds u ≡ true → is_of (bag ds) (a_bag u) ≡ true
unfolding is_of on_one elem
bag_of ds u h = h

pub rec_of : (fs : Fields) (us : Tys) → fields_are fs us ≡ true → is_of (rec fs) (a_rec us) ≡ true
unfolding is_of on_one fields_of
rec_of fs us h = h

pub left_of : (d : Data) (t u : Ty) → is_of d t ≡ true → is_of (left d) (an_either t u) ≡ true
unfolding is_of on_one sides_of
left_of d t u h = h

pub right_of : (d : Data) (t u : Ty) → is_of d u ≡ true → is_of (right d) (an_either t u) ≡ true
unfolding is_of on_one sides_of
right_of d t u h = h

pub of_either : (d : Data) (t u : Ty) → is_of d (an_either t u) ≡ true → ((y : Data) × (d ≡ left y) × (is_of y t ≡ true)) ⊎ ((y : Data) × (d ≡ right y) × (is_of y u ≡ true))
unfolding is_of all_of fields_are code codes same_text on_one elem fields_of sides_of as_num
of_either unit t u h = absurd (false≢true h)
of_either (num y) t u h = absurd (false≢true h)
of_either (truth y) t u h = absurd (false≢true h)
of_either (text y) t u h = absurd (false≢true h)
of_either (bag y) t u h = absurd (false≢true h)
of_either (rec y) t u h = absurd (false≢true h)
of_either (left y) t u h = inl (y, refl, h)
of_either (right y) t u h = inr (y, refl, h)

-- fields
pub field_out : (n : Name) (d : Data) (fs : Fields) (m : Name) (t : Ty) (ts : Tys) → fields_are (field n d fs) (ty m t ts) ≡ true → (n ≡ m) × (is_of d t ≡ true) × (fields_are fs ts ≡ true)
unfolding fields_are on_one first_ty
field_out n d fs m t ts h =
    let k = and_r (same_text n m) (is_of d t && fields_are fs ts) h in
    (same_text_true n m (and_l (same_text n m) (is_of d t && fields_are fs ts) h), and_l (is_of d t) (fields_are fs ts) k, and_r (is_of d t) (fields_are fs ts) k)

pub field_in : (n : Name) (d : Data) (fs : Fields) (t : Ty) (ts : Tys) → is_of d t ≡ true → fields_are fs ts ≡ true → fields_are (field n d fs) (ty n t ts) ≡ true
unfolding fields_are on_one first_ty
field_in n d fs t ts h k = and_i (same_text n n) (is_of d t && fields_are fs ts) (same_text_self n) (and_i (is_of d t) (fields_are fs ts) h k)

-- where a record is of a type, both have fields or both have none
pub no_field_out : (m : Name) (t : Ty) (ts : Tys) → fields_are no_field (ty m t ts) ≡ true → ⊥
unfolding fields_are no_tys
no_field_out m t ts h = false≢true h

pub no_ty_out : (n : Name) (d : Data) (fs : Fields) → fields_are (field n d fs) no_ty ≡ true → ⊥
unfolding fields_are on_one first_ty
no_ty_out n d fs h = false≢true h

pub no_field_in : fields_are no_field no_ty ≡ true
unfolding fields_are no_tys
no_field_in = refl

pub get_of : (n : Name) (fs : Fields) (ts : Tys) (v : Ty) (m : List Ty) → fields_are fs ts ≡ true → get_ty n ts ≡ v ∷ m → (d : Data) × (get n fs ≡ d ∷ []) × (is_of d v ≡ true)
unfolding get get_ty pick
get_of n no_field no_ty v m h k = let z : ◌≡◌ {A = ℕ} 0 1 = cc in absurd (omega arith)
get_of n no_field (ty b t ts) v m h k = absurd (no_field_out b t ts h)
get_of n (field a d fs) no_ty v m h k = absurd (no_ty_out a d fs h)
get_of n (field a d fs) (ty b t ts) v m h k = rw o.0 (by (same_text n b) k (λ l. get_of n fs ts v m o.2 l))
  where
    o : (a ≡ b) × (is_of d t ≡ true) × (fields_are fs ts ≡ true)
    o = field_out a d fs b t ts h

    by : (c : Bool) → pick c (t ∷ []) (get_ty n ts) ≡ v ∷ m → (get_ty n ts ≡ v ∷ m → (x : Data) × (get n fs ≡ x ∷ []) × (is_of x v ≡ true)) → (x : Data) × (pick c (d ∷ []) (get n fs) ≡ x ∷ []) × (is_of x v ≡ true)
    by true l ih = let e : t ≡ v = cc in (d, refl, (rw e at o.1))
    by false l ih = ih l

pub put_of : (n : Name) (d : Data) (t : Ty) (fs : Fields) (ts : Tys) → is_of d t ≡ true → fields_are fs ts ≡ true → fields_are (put n d fs) (put_ty n t ts) ≡ true
unfolding put put_ty pick
put_of n d t no_field no_ty h k = field_in n d no_field t no_ty h k
put_of n d t no_field (ty b u ts) h k = absurd (no_field_out b u ts k)
put_of n d t (field a e fs) no_ty h k = absurd (no_ty_out a e fs k)
put_of n d t (field a e fs) (ty b u ts) h k = rw o.0 (by (same_text n b) (less_text n b) (put_of n d t fs ts h o.2))
  where
    o : (a ≡ b) × (is_of e u ≡ true) × (fields_are fs ts ≡ true)
    o = field_out a e fs b u ts k

    by : (c c' : Bool) → fields_are (put n d fs) (put_ty n t ts) ≡ true →
        fields_are (pick c (field n d fs) (pick c' (field n d (field b e fs)) (field b e (put n d fs)))) (pick c (ty n t ts) (pick c' (ty n t (ty b u ts)) (ty b u (put_ty n t ts)))) ≡ true
    by true c' ih = field_in n d fs t ts h o.2
    by false true ih = field_in n d (field b e fs) t (ty b u ts) h (field_in b e fs u ts o.1 o.2)
    by false false ih = field_in b e (put n d fs) u (put_ty n t ts) o.1 ih

pub both_of : (fs gs : Fields) (ts us : Tys) → fields_are fs ts ≡ true → fields_are gs us ≡ true → fields_are (both fs gs) (both_tys ts us) ≡ true
unfolding both both_tys
both_of fs no_field ts no_ty h k = h
both_of fs no_field ts (ty b u us) h k = absurd (no_field_out b u us k)
both_of fs (field a e gs) ts no_ty h k = absurd (no_ty_out a e gs k)
both_of fs (field a e gs) ts (ty b u us) h k =
    let o = field_out a e gs b u us k in
    both_of (put a e fs) gs (put_ty b u ts) us (rw o.0 (put_of b e u fs ts o.1 h)) o.2

pub left_out_of : (n : Name) (fs : Fields) (ts : Tys) → fields_are fs ts ≡ true → fields_are (left_out n fs) (left_out_ty n ts) ≡ true
unfolding left_out left_out_ty pick
left_out_of n no_field no_ty k = no_field_in
left_out_of n no_field (ty b u ts) k = absurd (no_field_out b u ts k)
left_out_of n (field a e fs) no_ty k = absurd (no_ty_out a e fs k)
left_out_of n (field a e fs) (ty b u ts) k = rw o.0 (by (same_text n b) (left_out_of n fs ts o.2))
  where
    o : (a ≡ b) × (is_of e u ≡ true) × (fields_are fs ts ≡ true)
    o = field_out a e fs b u ts k

    by : (c : Bool) → fields_are (left_out n fs) (left_out_ty n ts) ≡ true → fields_are (pick c fs (field b e (left_out n fs))) (pick c ts (ty b u (left_out_ty n ts))) ≡ true
    by true ih = o.2
    by false ih = field_in b e (left_out n fs) u (left_out_ty n ts) o.1 ih

pub only_of : (ns : List Name) (fs : Fields) (ts : Tys) → fields_are fs ts ≡ true → fields_are (only ns fs) (only_tys ns ts) ≡ true
unfolding only only_tys pick
only_of ns no_field no_ty k = no_field_in
only_of ns no_field (ty b u ts) k = absurd (no_field_out b u ts k)
only_of ns (field a e fs) no_ty k = absurd (no_ty_out a e fs k)
only_of ns (field a e fs) (ty b u ts) k = rw o.0 (by (one_of b ns) (only_of ns fs ts o.2))
  where
    o : (a ≡ b) × (is_of e u ≡ true) × (fields_are fs ts ≡ true)
    o = field_out a e fs b u ts k

    by : (c : Bool) → fields_are (only ns fs) (only_tys ns ts) ≡ true → fields_are (pick c (field b e (only ns fs)) (only ns fs)) (pick c (ty b u (only_tys ns ts)) (only_tys ns ts)) ≡ true
    by true ih = field_in b e (only ns fs) u (only_tys ns ts) o.1 ih
    by false ih = ih

-- bags
pub more_of : (d : Data) (ds : Datas) (u : Ty) → is_of d u ≡ true → all_of ds u ≡ true → all_of (more d ds) u ≡ true
unfolding all_of
more_of d ds u h k = and_i (is_of d u) (all_of ds u) h k

pub first_of : (d : Data) (ds : Datas) (u : Ty) → all_of (more d ds) u ≡ true → is_of d u ≡ true
unfolding all_of
first_of d ds u h = and_l (is_of d u) (all_of ds u) h

pub rest_of : (d : Data) (ds : Datas) (u : Ty) → all_of (more d ds) u ≡ true → all_of ds u ≡ true
unfolding all_of
rest_of d ds u h = and_r (is_of d u) (all_of ds u) h

pub none_of : (u : Ty) → all_of none u ≡ true
unfolding all_of
none_of u = refl

pub join_of : (xs ys : Datas) (u : Ty) → all_of xs u ≡ true → all_of ys u ≡ true → all_of (join xs ys) u ≡ true
unfolding join
join_of none ys u h k = k
join_of (more x xs) ys u h k = more_of x (join xs ys) u (first_of x xs u h) (join_of xs ys u (rest_of x xs u h) k)

pub pick_of : (b : Bool) (d : Data) (ds : Datas) (u : Ty) → is_of d u ≡ true → all_of ds u ≡ true → all_of (pick b (more d ds) ds) u ≡ true
unfolding pick
pick_of true d ds u h k = more_of d ds u h k
pick_of false d ds u h k = k

pub once_of : (ds : Datas) (u : Ty) → all_of ds u ≡ true → all_of (once ds) u ≡ true
unfolding once pick
once_of none u h = none_of u
once_of (more d ds) u h = by (is_in d (once ds)) (once_of ds u (rest_of d ds u h))
  where
    by : (b : Bool) → all_of (once ds) u ≡ true → all_of (pick b (once ds) (more d (once ds))) u ≡ true
    by true k = k
    by false k = more_of d (once ds) u (first_of d ds u h) k
