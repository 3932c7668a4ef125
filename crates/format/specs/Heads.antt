-- Heads: what stands at the front of a datum, a type or a query before its parts, and what the code's nodes say of them.
use Rattle.std.specs.Prelude.{ℕ, ◌^◌, ◌<◌, Bool, List, [], ◌∷◌, ◌++◌, length}
use Rattle.query.specs.Data.{Name, Data, unit, num, truth, text, bag, rec, left, right, Datas, none, more, Fields, no_field, field}
use Rattle.query.specs.Query.{Op2, Op1, Ty, a_unit, a_num, a_truth, a_text, a_bag, a_rec, an_either, Tys, no_ty, ty, Query, table, it, env, just, two, one, each, keep, product, matched, default, as_left, as_right, either, then, with_env}
use Rattle.format.specs.Coding.{Coding, le, name}
use Rattle.format.specs.Wire.{write_names, FitNames, write_ty, FitsTy, write_data, FitsData, truth_tag, tag_2, write_1, Fits1}

-- lists of things as the definitions have them
unfoldable pub as_datas : List Data → Datas
as_datas [] = none
as_datas (d ∷ ds) = more d (as_datas ds)

unfoldable pub as_fields : List Name → List Data → Fields
as_fields [] ds = no_field
as_fields (n ∷ ns) [] = no_field
as_fields (n ∷ ns) (d ∷ ds) = field n d (as_fields ns ds)

unfoldable pub as_tys : List Name → List Ty → Tys
as_tys [] ts = no_ty
as_tys (n ∷ ns) [] = no_ty
as_tys (n ∷ ns) (t ∷ ts) = ty n t (as_tys ns ts)

-- data
pub data DataHead : Type 0 where
  unit_h : DataHead
  num_h : ℕ → DataHead
  truth_h : Bool → DataHead
  text_h : List ℕ → DataHead
  bag_h : ℕ → DataHead
  rec_h : List Name → DataHead
  left_h : DataHead
  right_h : DataHead

unfoldable pub write_data_head : DataHead → List ℕ
write_data_head unit_h = 0 ∷ []
write_data_head (num_h n) = 1 ∷ le 8 n
write_data_head (truth_h b) = truth_tag b ∷ []
write_data_head (text_h t) = 4 ∷ name.write t
write_data_head (bag_h k) = 5 ∷ le 4 k
write_data_head (rec_h ns) = 6 ∷ write_names ns
write_data_head left_h = 7 ∷ []
write_data_head right_h = 8 ∷ []

unfoldable pub FitsDataHead : DataHead → Type 0
FitsDataHead unit_h = Unit {0}
FitsDataHead (num_h n) = n < 2 ^ 64
FitsDataHead (truth_h b) = Unit {0}
FitsDataHead (text_h t) = name.Fits t
FitsDataHead (bag_h k) = k < 2 ^ 32
FitsDataHead (rec_h ns) = FitNames ns
FitsDataHead left_h = Unit {0}
FitsDataHead right_h = Unit {0}

abbrev pub data_heads : Coding
data_heads = record { T = DataHead; write = write_data_head; Fits = FitsDataHead }

-- how many data follow a head
unfoldable pub data_arity : DataHead → ℕ
data_arity unit_h = 0
data_arity (num_h n) = 0
data_arity (truth_h b) = 0
data_arity (text_h t) = 0
data_arity (bag_h k) = k
data_arity (rec_h ns) = length ns
data_arity left_h = 1
data_arity right_h = 1

-- a part, or nothing where there is none
unfoldable pub first_datum : List Data → Data
first_datum [] = unit
first_datum (d ∷ ds) = d

-- the datum of a head and what follows it
unfoldable pub build_data : DataHead → List Data → Data
build_data unit_h ds = unit
build_data (num_h n) ds = num n
build_data (truth_h b) ds = truth b
build_data (text_h t) ds = text t
build_data (bag_h k) ds = bag (as_datas ds)
build_data (rec_h ns) ds = rec (as_fields ns ds)
build_data left_h ds = left (first_datum ds)
build_data right_h ds = right (first_datum ds)

-- types
pub data TyHead : Type 0 where
  unit_t : TyHead
  num_t : TyHead
  truth_t : TyHead
  text_t : TyHead
  bag_t : TyHead
  rec_t : List Name → TyHead
  either_t : TyHead

unfoldable pub write_ty_head : TyHead → List ℕ
write_ty_head unit_t = 0 ∷ []
write_ty_head num_t = 1 ∷ []
write_ty_head truth_t = 2 ∷ []
write_ty_head text_t = 3 ∷ []
write_ty_head bag_t = 4 ∷ []
write_ty_head (rec_t ns) = 5 ∷ write_names ns
write_ty_head either_t = 6 ∷ []

unfoldable pub FitsTyHead : TyHead → Type 0
FitsTyHead unit_t = Unit {0}
FitsTyHead num_t = Unit {0}
FitsTyHead truth_t = Unit {0}
FitsTyHead text_t = Unit {0}
FitsTyHead bag_t = Unit {0}
FitsTyHead (rec_t ns) = FitNames ns
FitsTyHead either_t = Unit {0}

abbrev pub ty_heads : Coding
ty_heads = record { T = TyHead; write = write_ty_head; Fits = FitsTyHead }

unfoldable pub ty_arity : TyHead → ℕ
ty_arity unit_t = 0
ty_arity num_t = 0
ty_arity truth_t = 0
ty_arity text_t = 0
ty_arity bag_t = 1
ty_arity (rec_t ns) = length ns
ty_arity either_t = 2

unfoldable pub first_ty_of : List Ty → Ty
first_ty_of [] = a_unit
first_ty_of (t ∷ ts) = t

unfoldable pub second_ty_of : List Ty → Ty
second_ty_of [] = a_unit
second_ty_of (t ∷ ts) = first_ty_of ts

unfoldable pub build_ty : TyHead → List Ty → Ty
build_ty unit_t ts = a_unit
build_ty num_t ts = a_num
build_ty truth_t ts = a_truth
build_ty text_t ts = a_text
build_ty bag_t ts = a_bag (first_ty_of ts)
build_ty (rec_t ns) ts = a_rec (as_tys ns ts)
build_ty either_t ts = an_either (first_ty_of ts) (second_ty_of ts)

-- queries
pub data QueryHead : Type 0 where
  table_q : ℕ → QueryHead
  it_q : QueryHead
  env_q : QueryHead
  just_q : Ty → Data → QueryHead
  two_q : Op2 → QueryHead
  one_q : Op1 → QueryHead
  each_q : QueryHead
  keep_q : QueryHead
  product_q : QueryHead
  matched_q : Name → Name → QueryHead
  default_q : QueryHead
  left_q : Ty → QueryHead
  right_q : Ty → QueryHead
  either_q : QueryHead
  then_q : QueryHead
  with_env_q : QueryHead

unfoldable pub write_query_head : QueryHead → List ℕ
write_query_head (table_q n) = 0 ∷ le 4 n
write_query_head it_q = 1 ∷ []
write_query_head env_q = 2 ∷ []
write_query_head (just_q t d) = 3 ∷ (write_ty t ++ write_data d)
write_query_head (two_q o) = tag_2 o ∷ []
write_query_head (one_q o) = write_1 o
write_query_head each_q = 22 ∷ []
write_query_head keep_q = 23 ∷ []
write_query_head product_q = 24 ∷ []
write_query_head (matched_q m n) = 25 ∷ (name.write m ++ name.write n)
write_query_head default_q = 26 ∷ []
write_query_head (left_q t) = 27 ∷ write_ty t
write_query_head (right_q t) = 28 ∷ write_ty t
write_query_head either_q = 29 ∷ []
write_query_head then_q = 30 ∷ []
write_query_head with_env_q = 31 ∷ []

unfoldable pub FitsQueryHead : QueryHead → Type 0
FitsQueryHead (table_q n) = n < 2 ^ 32
FitsQueryHead it_q = Unit {0}
FitsQueryHead env_q = Unit {0}
FitsQueryHead (just_q t d) = FitsTy t × FitsData d
FitsQueryHead (two_q o) = Unit {0}
FitsQueryHead (one_q o) = Fits1 o
FitsQueryHead each_q = Unit {0}
FitsQueryHead keep_q = Unit {0}
FitsQueryHead product_q = Unit {0}
FitsQueryHead (matched_q m n) = name.Fits m × name.Fits n
FitsQueryHead default_q = Unit {0}
FitsQueryHead (left_q t) = FitsTy t
FitsQueryHead (right_q t) = FitsTy t
FitsQueryHead either_q = Unit {0}
FitsQueryHead then_q = Unit {0}
FitsQueryHead with_env_q = Unit {0}

abbrev pub query_heads : Coding
query_heads = record { T = QueryHead; write = write_query_head; Fits = FitsQueryHead }

unfoldable pub query_arity : QueryHead → ℕ
query_arity (table_q n) = 0
query_arity it_q = 0
query_arity env_q = 0
query_arity (just_q t d) = 0
query_arity (two_q o) = 2
query_arity (one_q o) = 1
query_arity each_q = 2
query_arity keep_q = 2
query_arity product_q = 2
query_arity (matched_q m n) = 2
query_arity default_q = 2
query_arity (left_q t) = 1
query_arity (right_q t) = 1
query_arity either_q = 2
query_arity then_q = 2
query_arity with_env_q = 2

unfoldable pub first_query : List Query → Query
first_query [] = it
first_query (q ∷ qs) = q

unfoldable pub second_query : List Query → Query
second_query [] = it
second_query (q ∷ qs) = first_query qs

unfoldable pub build_query : QueryHead → List Query → Query
build_query (table_q n) qs = table n
build_query it_q qs = it
build_query env_q qs = env
build_query (just_q t d) qs = just t d
build_query (two_q o) qs = two o (first_query qs) (second_query qs)
build_query (one_q o) qs = one o (first_query qs)
build_query each_q qs = each (first_query qs) (second_query qs)
build_query keep_q qs = keep (first_query qs) (second_query qs)
build_query product_q qs = product (first_query qs) (second_query qs)
build_query (matched_q m n) qs = matched m n (first_query qs) (second_query qs)
build_query default_q qs = default (first_query qs) (second_query qs)
build_query (left_q t) qs = as_left t (first_query qs)
build_query (right_q t) qs = as_right t (first_query qs)
build_query either_q qs = either (first_query qs) (second_query qs)
build_query then_q qs = then (first_query qs) (second_query qs)
build_query with_env_q qs = with_env (first_query qs) (second_query qs)
