-- Types as a head and the types that follow it, and what is known of their names.
use Rattle.std.proofs.Common.{◌≡◌, ℕ, suc, ◌+◌, List, [], ◌∷◌, ◌++◌, length, sym, refl, ap, ◌∙◌, arith}
use Rattle.std.proofs.lemmas.List.{append_assoc, append-nil}
use Rattle.query.specs.Data.{Name}
use Rattle.query.specs.Query.{Ty, a_unit, a_num, a_truth, a_text, a_bag, a_rec, an_either, Tys, no_ty, ty}
use Rattle.format.specs.Coding.{writes, AllFit}
use Rattle.format.specs.Wire.{names_ty, write_names, write_ty, write_tys, FitsTy, FitsTys, types}
use Rattle.format.specs.Heads.{TyHead, unit_t, num_t, truth_t, text_t, bag_t, rec_t, either_t, write_ty_head, FitsTyHead, ty_arity}
use Rattle.format.specs.Trees.{writes_append}
use Rattle.ranks.specs.Ranks.{Among}
use Rattle.ranks.specs.Known.{AllIn, KnowsTy, KnowsTys, KnowsAll, names_t, names_ts, names_all, head_names}

abbrev pub head_ty : Ty → TyHead
head_ty a_unit = unit_t
head_ty a_num = num_t
head_ty a_truth = truth_t
head_ty a_text = text_t
head_ty (a_bag t) = bag_t
head_ty (a_rec ts) = rec_t (names_ty ts)
head_ty (an_either t u) = either_t

unfoldable pub listed_tys : Tys → List Ty
listed_tys no_ty = []
listed_tys (ty n t ts) = t ∷ listed_tys ts

abbrev pub kids_ty : Ty → List Ty
kids_ty a_unit = []
kids_ty a_num = []
kids_ty a_truth = []
kids_ty a_text = []
kids_ty (a_bag t) = t ∷ []
kids_ty (a_rec ts) = listed_tys ts
kids_ty (an_either t u) = t ∷ u ∷ []

tys_many : (ts : Tys) → length (listed_tys ts) ≡ length (names_ty ts)
unfolding listed_tys names_ty
tys_many no_ty = refl
tys_many (ty n t ts) = ap suc (tys_many ts)

pub kids_many : (t : Ty) → length (kids_ty t) ≡ ty_arity (head_ty t)
unfolding ty_arity
kids_many a_unit = refl
kids_many a_num = refl
kids_many a_truth = refl
kids_many a_text = refl
kids_many (a_bag t) = refl
kids_many (a_rec ts) = tys_many ts
kids_many (an_either t u) = refl

pub head_fits : (t : Ty) → FitsTy t → FitsTyHead (head_ty t)
unfolding FitsTy FitsTyHead
head_fits a_unit f = tt
head_fits a_num f = tt
head_fits a_truth f = tt
head_fits a_text f = tt
head_fits (a_bag t) f = tt
head_fits (a_rec ts) f = f.0
head_fits (an_either t u) f = tt

tys_fit : (ts : Tys) → FitsTys ts → AllFit types (listed_tys ts)
unfolding listed_tys FitsTys
tys_fit no_ty f = tt
tys_fit (ty n t ts) f = (f.0, tys_fit ts f.1)

pub kids_fit : (t : Ty) → FitsTy t → AllFit types (kids_ty t)
unfolding FitsTy
kids_fit a_unit f = tt
kids_fit a_num f = tt
kids_fit a_truth f = tt
kids_fit a_text f = tt
kids_fit (a_bag t) f = (f, tt)
kids_fit (a_rec ts) f = tys_fit ts f.1
kids_fit (an_either t u) f = (f.0, (f.1, tt))

tys_written : (ts : Tys) → write_tys ts ≡ writes types (listed_tys ts)
unfolding listed_tys write_tys
tys_written no_ty = refl
tys_written (ty n t ts) = ap (λ (v : List ℕ). write_ty t ++ v) (tys_written ts)

pub ty_written : (t : Ty) → write_ty t ≡ write_ty_head (head_ty t) ++ writes types (kids_ty t)
unfolding write_ty write_ty_head
ty_written a_unit = refl
ty_written a_num = refl
ty_written a_truth = refl
ty_written a_text = refl
ty_written (a_bag t) = ap (λ (v : List ℕ). 4 ∷ v) (sym (append-nil (write_ty t)))
ty_written (a_rec ts) = ap (λ (v : List ℕ). 5 ∷ (write_names (names_ty ts) ++ v)) (tys_written ts)
ty_written (an_either t u) = ap (λ (v : List ℕ). 6 ∷ (write_ty t ++ v)) (sym (append-nil (write_ty u)))

-- a type and others after it: its head, then its parts and the others
pub forest : (t : Ty) (us : List Ty) (rest : List ℕ) → writes types (t ∷ us) ++ rest ≡ write_ty_head (head_ty t) ++ (writes types (kids_ty t ++ us) ++ rest)
forest t us rest =
    ap (λ (v : List ℕ). (v ++ writes types us) ++ rest) (ty_written t)
    ∙ (ap (λ (v : List ℕ). v ++ rest) (append_assoc (write_ty_head (head_ty t)) (writes types (kids_ty t)) (writes types us) ∙ ap (λ (v : List ℕ). write_ty_head (head_ty t) ++ v) (sym (writes_append types (kids_ty t) us)))
    ∙ append_assoc (write_ty_head (head_ty t)) (writes types (kids_ty t ++ us)) rest)

-- names
tys_names : (ts : Tys) → names_ts ts ≡ length (names_ty ts) + names_all (listed_tys ts)
unfolding listed_tys names_ty names_ts names_all
tys_names no_ty = refl
tys_names (ty n t ts) = let h = tys_names ts in omega arith

pub kids_names : (t : Ty) → names_t t ≡ length (head_names (head_ty t)) + names_all (kids_ty t)
unfolding names_t names_all head_names
kids_names a_unit = refl
kids_names a_num = refl
kids_names a_truth = refl
kids_names a_text = refl
kids_names (a_bag t) = omega arith
kids_names (a_rec ts) = tys_names ts
kids_names (an_either t u) = omega arith

pub names_append : (ts us : List Ty) → names_all (ts ++ us) ≡ names_all ts + names_all us
unfolding names_all
names_append [] us = omega arith
names_append (t ∷ ts) us = let h = names_append ts us in omega arith

tys_known : (vs : List Name) (ts : Tys) → AllIn vs (names_ty ts) → KnowsAll vs (listed_tys ts) → KnowsTys vs ts
unfolding listed_tys names_ty AllIn KnowsAll KnowsTys
tys_known vs no_ty a k = tt
tys_known vs (ty n t ts) a k = (a.0, k.0, tys_known vs ts a.1 k.1)

pub ty_known : (vs : List Name) (t : Ty) → AllIn vs (head_names (head_ty t)) → KnowsAll vs (kids_ty t) → KnowsTy vs t
unfolding KnowsTy KnowsAll head_names
ty_known vs a_unit a k = tt
ty_known vs a_num a k = tt
ty_known vs a_truth a k = tt
ty_known vs a_text a k = tt
ty_known vs (a_bag t) a k = k.0
ty_known vs (a_rec ts) a k = tys_known vs ts a k
ty_known vs (an_either t u) a k = (k.0, k.1.0)

pub knows_append : (vs : List Name) (ts us : List Ty) → KnowsAll vs (ts ++ us) → KnowsAll vs ts × KnowsAll vs us
unfolding KnowsAll
knows_append vs [] us k = (tt, k)
knows_append vs (t ∷ ts) us k = let r = knows_append vs ts us k.1 in ((k.0, r.0), r.1)

-- and the other way round
tys_know : (vs : List Name) (ts : Tys) → KnowsTys vs ts → AllIn vs (names_ty ts) × KnowsAll vs (listed_tys ts)
unfolding listed_tys names_ty AllIn KnowsAll KnowsTys
tys_know vs no_ty k = (tt, tt)
tys_know vs (ty n t ts) k = let r = tys_know vs ts k.2 in ((k.0, r.0), (k.1, r.1))

pub ty_knows : (vs : List Name) (t : Ty) → KnowsTy vs t → AllIn vs (head_names (head_ty t)) × KnowsAll vs (kids_ty t)
unfolding KnowsTy KnowsAll head_names AllIn
ty_knows vs a_unit k = (tt, tt)
ty_knows vs a_num k = (tt, tt)
ty_knows vs a_truth k = (tt, tt)
ty_knows vs a_text k = (tt, tt)
ty_knows vs (a_bag t) k = (tt, (k, tt))
ty_knows vs (a_rec ts) k = tys_know vs ts k
ty_knows vs (an_either t u) k = (tt, (k.0, (k.1, tt)))

pub join_knows : (vs : List Name) (ts us : List Ty) → KnowsAll vs ts → KnowsAll vs us → KnowsAll vs (ts ++ us)
unfolding KnowsAll
join_knows vs [] us a b = b
join_knows vs (t ∷ ts) us a b = (a.0, join_knows vs ts us a.1 b)

-- whatever is known stays known among more names
pub all_in_more : (ns vs : List Name) → Among ns vs → (ms : List Name) → AllIn ns ms → AllIn vs ms
unfolding AllIn
all_in_more ns vs a [] h = tt
all_in_more ns vs a (m ∷ ms) h = (a m h.0, all_in_more ns vs a ms h.1)
