-- Types, and which questions have one. Assumes nothing: these are definitions.
use Rattle.std.specs.Prelude.{Bool, true, false, ◌&&◌, List, [], ◌∷◌, ◌++◌, ℕ, zero, suc, ltb, length}
use Rattle.query.specs.Data.{pick, Name, Data, unit, num, truth, text, bag, rec, left, right, Datas, none, more, Fields, no_field, field, same_text, less_text, one_of}
use Rattle.query.specs.Query.{Op2, equal, and, or, plus, less, join_bags, join_recs, within, Op1, not_so, in_bag, flat, count, sum, distinct, dot, as_field, without, project, Ty, a_unit, a_num, a_truth, a_text, a_bag, a_rec, an_either, Tys, no_ty, ty, Query, table, it, env, just, two, one, each, keep, product, matched, default, as_left, as_right, either, then, with_env, Tables, word}

-- types as numbers, so that they can be compared: no two have the same
unfoldable pub text_code : List ℕ → List ℕ
text_code t = length t ∷ t

unfoldable mutual
  pub code : Ty → List ℕ
  code a_unit = 0 ∷ []
  code a_num = 1 ∷ []
  code a_truth = 2 ∷ []
  code a_text = 3 ∷ []
  code (a_bag t) = 4 ∷ code t
  code (a_rec ts) = 5 ∷ codes ts
  code (an_either t u) = 6 ∷ (code t ++ code u)

  pub codes : Tys → List ℕ
  codes no_ty = 0 ∷ []
  codes (ty n t ts) = 1 ∷ (text_code n ++ (code t ++ codes ts))

abbrev pub same_ty : Ty → Ty → Bool
same_ty t u = same_text (code t) (code u)

-- names of a record's type in order, each once, everywhere in it
unfoldable pub first_after : Name → Tys → Bool
first_after n no_ty = true
first_after n (ty m t ts) = less_text n m

unfoldable mutual
  pub sound : Ty → Bool
  sound a_unit = true
  sound a_num = true
  sound a_truth = true
  sound a_text = true
  sound (a_bag t) = sound t
  sound (a_rec ts) = sounds ts
  sound (an_either t u) = sound t && sound u

  pub sounds : Tys → Bool
  sounds no_ty = true
  sounds (ty n t ts) = (sound t && first_after n ts) && sounds ts

-- is something of a type
unfoldable pub bytes : List ℕ → Bool
bytes [] = true
bytes (x ∷ xs) = ltb x 256 && bytes xs

unfoldable pub as_num : Ty → Bool
as_num a_unit = false
as_num a_num = true
as_num a_truth = false
as_num a_text = false
as_num (a_bag t) = false
as_num (a_rec ts) = false
as_num (an_either t u) = false

unfoldable pub elem : Ty → List Ty
elem a_unit = []
elem a_num = []
elem a_truth = []
elem a_text = []
elem (a_bag t) = t ∷ []
elem (a_rec ts) = []
elem (an_either t u) = []

unfoldable pub fields_of : Ty → List Tys
fields_of a_unit = []
fields_of a_num = []
fields_of a_truth = []
fields_of a_text = []
fields_of (a_bag t) = []
fields_of (a_rec ts) = ts ∷ []
fields_of (an_either t u) = []

pub record Sides : Type 0 where
  pub l : Ty
  pub r : Ty

unfoldable pub sides_of : Ty → List Sides
sides_of a_unit = []
sides_of a_num = []
sides_of a_truth = []
sides_of a_text = []
sides_of (a_bag t) = []
sides_of (a_rec ts) = []
sides_of (an_either t u) = record { l = t; r = u } ∷ []

unfoldable pub on_one : {A : Type 0} → List A → (A → Bool) → Bool
on_one [] f = false
on_one (x ∷ xs) f = f x

unfoldable pub no_tys : List Tys → Bool
no_tys [] = false
no_tys (no_ty ∷ xs) = true
no_tys (ty n t ts ∷ xs) = false

pub record First : Type 0 where
  pub name : Name
  pub of : Ty
  pub rest : Tys

unfoldable pub first_ty : Tys → List First
first_ty no_ty = []
first_ty (ty n t ts) = record { name = n; of = t; rest = ts } ∷ []

unfoldable mutual
  pub is_of : Data → Ty → Bool
  is_of unit t = same_ty t a_unit
  is_of (num n) t = as_num t && ltb n word
  is_of (truth b) t = same_ty t a_truth
  is_of (text x) t = same_ty t a_text && bytes x
  is_of (bag ds) t = on_one (elem t) (λ u. all_of ds u)
  is_of (rec fs) t = on_one (fields_of t) (λ ts. fields_are fs ts)
  is_of (left d) t = on_one (sides_of t) (λ s. is_of d s.l)
  is_of (right d) t = on_one (sides_of t) (λ s. is_of d s.r)

  pub all_of : Datas → Ty → Bool
  all_of none t = true
  all_of (more d ds) t = is_of d t && all_of ds t

  pub fields_are : Fields → Tys → Bool
  fields_are no_field ts = no_tys (ts ∷ [])
  fields_are (field n d fs) ts = on_one (first_ty ts) (λ x. same_text n x.name && (is_of d x.of && fields_are fs x.rest))

-- what type a question comes to, none or one
unfoldable pub on_ty : {A B : Type 0} → List A → (A → List B) → List B
on_ty [] f = []
on_ty (x ∷ xs) f = f x

unfoldable pub if_so : Bool → List Ty → List Ty
if_so true ts = ts
if_so false ts = []

unfoldable pub get_ty : Name → Tys → List Ty
get_ty n no_ty = []
get_ty n (ty m t ts) = pick (same_text n m) (t ∷ []) (get_ty n ts)

unfoldable pub put_ty : Name → Ty → Tys → Tys
put_ty n t no_ty = ty n t no_ty
put_ty n t (ty m u ts) = pick (same_text n m) (ty n t ts) (pick (less_text n m) (ty n t (ty m u ts)) (ty m u (put_ty n t ts)))

unfoldable pub both_tys : Tys → Tys → Tys
both_tys ts no_ty = ts
both_tys ts (ty n t us) = both_tys (put_ty n t ts) us

unfoldable pub left_out_ty : Name → Tys → Tys
left_out_ty n no_ty = no_ty
left_out_ty n (ty m t ts) = pick (same_text n m) ts (ty m t (left_out_ty n ts))

unfoldable pub only_tys : List Name → Tys → Tys
only_tys ns no_ty = no_ty
only_tys ns (ty m t ts) = pick (one_of m ns) (ty m t (only_tys ns ts)) (only_tys ns ts)

abbrev pub to_bag : List Tys → List Ty
to_bag xs = on_ty xs (λ ts. a_bag (a_rec ts) ∷ [])

abbrev pub fields_in : Ty → List Tys
fields_in t = on_ty (elem t) (λ u. fields_of u)

unfoldable pub type1 : Op1 → Ty → List Ty
type1 not_so t = if_so (same_ty t a_truth) (a_truth ∷ [])
type1 in_bag t = a_bag t ∷ []
type1 flat t = on_ty (elem t) (λ u. on_ty (elem u) (λ v. a_bag v ∷ []))
type1 count t = on_ty (elem t) (λ u. a_num ∷ [])
type1 sum t = on_ty (elem t) (λ u. if_so (as_num u) (a_num ∷ []))
type1 distinct t = on_ty (elem t) (λ u. a_bag u ∷ [])
type1 (dot n) t = on_ty (fields_of t) (λ ts. get_ty n ts)
type1 (as_field n) t = a_rec (ty n t no_ty) ∷ []
type1 (without n) t = on_ty (fields_of t) (λ ts. a_rec (left_out_ty n ts) ∷ [])
type1 (project ns) t = on_ty (fields_of t) (λ ts. a_rec (only_tys ns ts) ∷ [])

unfoldable pub type2 : Op2 → Ty → Ty → List Ty
type2 equal t u = if_so (same_ty t u) (a_truth ∷ [])
type2 and t u = if_so (same_ty t a_truth && same_ty u a_truth) (a_truth ∷ [])
type2 or t u = if_so (same_ty t a_truth && same_ty u a_truth) (a_truth ∷ [])
type2 plus t u = if_so (as_num t && as_num u) (a_num ∷ [])
type2 less t u = if_so (as_num t && as_num u) (a_truth ∷ [])
type2 join_bags t u = on_ty (elem t) (λ v. if_so (same_ty t u) (t ∷ []))
type2 join_recs t u = on_ty (fields_of t) (λ ts. on_ty (fields_of u) (λ us. a_rec (both_tys ts us) ∷ []))
type2 within t u = on_ty (elem u) (λ v. if_so (same_ty t v) (a_truth ∷ []))

abbrev pub Schema : Type 0
Schema = List Ty

unfoldable pub ty_at : Schema → ℕ → List Ty
ty_at [] n = []
ty_at (t ∷ ts) zero = t ∷ []
ty_at (t ∷ ts) (suc n) = ty_at ts n

-- with the type of what goes along, and of what is looked at
unfoldable pub type_of : Schema → Query → Ty → Ty → List Ty
type_of ss (table n) e t = ty_at ss n
type_of ss it e t = t ∷ []
type_of ss env e t = e ∷ []
type_of ss (just u x) e t = if_so (sound u && is_of x u) (u ∷ [])
type_of ss (two o p q) e t = on_ty (type_of ss p e t) (λ a. on_ty (type_of ss q e t) (λ b. type2 o a b))
type_of ss (one o q) e t = on_ty (type_of ss q e t) (λ a. type1 o a)
type_of ss (each p q) e t = on_ty (type_of ss q e t) (λ a. on_ty (elem a) (λ u. on_ty (type_of ss p e u) (λ v. a_bag v ∷ [])))
type_of ss (keep p q) e t = on_ty (type_of ss q e t) (λ a. on_ty (elem a) (λ u. on_ty (type_of ss p e u) (λ v. if_so (same_ty v a_truth) (a ∷ []))))
type_of ss (product p q) e t =
    on_ty (type_of ss p e t) (λ a. on_ty (fields_in a) (λ ts. on_ty (type_of ss q e t) (λ b. on_ty (fields_in b) (λ us. a_bag (a_rec (both_tys ts us)) ∷ []))))
type_of ss (matched m n p q) e t =
    on_ty (type_of ss p e t) (λ a. on_ty (fields_in a) (λ ts. on_ty (type_of ss q e t) (λ b. on_ty (fields_in b) (λ us.
    on_ty (get_ty m ts) (λ x. on_ty (get_ty n us) (λ y. if_so (same_ty x y) (a_bag (a_rec (both_tys ts us)) ∷ [])))))))
type_of ss (default p q) e t = on_ty (type_of ss p e t) (λ a. on_ty (elem a) (λ u. on_ty (type_of ss q e t) (λ b. if_so (same_ty a b) (a ∷ []))))
type_of ss (as_left u q) e t = on_ty (type_of ss q e t) (λ a. if_so (sound u) (an_either a u ∷ []))
type_of ss (as_right u q) e t = on_ty (type_of ss q e t) (λ a. if_so (sound u) (an_either u a ∷ []))
type_of ss (either p q) e t = on_ty (sides_of t) (λ s. on_ty (type_of ss p e s.l) (λ a. on_ty (type_of ss q e s.r) (λ b. if_so (same_ty a b) (a ∷ []))))
type_of ss (then p q) e t = on_ty (type_of ss q e t) (λ a. type_of ss p e a)
type_of ss (with_env p q) e t = on_ty (type_of ss q e t) (λ a. type_of ss p a t)

abbrev pub type_asked : Schema → Query → List Ty
type_asked ss q = type_of ss q a_unit a_unit

unfoldable pub tables_are : Tables → Schema → Bool
tables_are [] [] = true
tables_are [] (s ∷ ss) = false
tables_are (t ∷ ts) [] = false
tables_are (t ∷ ts) (s ∷ ss) = is_of t s && tables_are ts ss
