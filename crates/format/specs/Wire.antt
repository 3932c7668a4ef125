-- How data, types, queries and requests are written as bytes: a prefix code, numbers little-endian. A record's names come before all of its values.
use Rattle.std.specs.Prelude.{ℕ, ◌^◌, ◌<◌, Bool, true, false, List, [], ◌∷◌, ◌++◌}
use Rattle.query.specs.Data.{Name, Data, unit, num, truth, text, bag, rec, left, right, Datas, none, more, Fields, no_field, field, how_many}
use Rattle.query.specs.Query.{Op2, equal, and, or, plus, less, join_bags, join_recs, within, Op1, not_so, in_bag, flat, count, sum, distinct, dot, as_field, without, project, Ty, a_unit, a_num, a_truth, a_text, a_bag, a_rec, an_either, Tys, no_ty, ty, Query, table, it, env, just, two, one, each, keep, product, matched, default, as_left, as_right, either, then, with_env, Tables}
use Rattle.query.specs.Types.{Schema}
use Rattle.query.specs.Promise.{Asked, plan, ask}
use Rattle.format.specs.Coding.{Coding, le, name, counted}

-- the names of a record's fields, in their order
unfoldable pub names : Fields → List Name
names no_field = []
names (field n d fs) = n ∷ names fs

unfoldable pub names_ty : Tys → List Name
names_ty no_ty = []
names_ty (ty n t ts) = n ∷ names_ty ts

abbrev pub write_names : List Name → List ℕ
write_names = (counted name).write

abbrev pub FitNames : List Name → Type 0
FitNames = (counted name).Fits

-- types
unfoldable mutual
  pub write_ty : Ty → List ℕ
  write_ty a_unit = 0 ∷ []
  write_ty a_num = 1 ∷ []
  write_ty a_truth = 2 ∷ []
  write_ty a_text = 3 ∷ []
  write_ty (a_bag t) = 4 ∷ write_ty t
  write_ty (a_rec ts) = 5 ∷ (write_names (names_ty ts) ++ write_tys ts)
  write_ty (an_either t u) = 6 ∷ (write_ty t ++ write_ty u)

  pub write_tys : Tys → List ℕ
  write_tys no_ty = []
  write_tys (ty n t ts) = write_ty t ++ write_tys ts

unfoldable mutual
  pub FitsTy : Ty → Type 0
  FitsTy a_unit = Unit {0}
  FitsTy a_num = Unit {0}
  FitsTy a_truth = Unit {0}
  FitsTy a_text = Unit {0}
  FitsTy (a_bag t) = FitsTy t
  FitsTy (a_rec ts) = FitNames (names_ty ts) × FitsTys ts
  FitsTy (an_either t u) = FitsTy t × FitsTy u

  pub FitsTys : Tys → Type 0
  FitsTys no_ty = Unit {0}
  FitsTys (ty n t ts) = FitsTy t × FitsTys ts

-- data
unfoldable pub truth_tag : Bool → ℕ
truth_tag false = 2
truth_tag true = 3

unfoldable mutual
  pub write_data : Data → List ℕ
  write_data unit = 0 ∷ []
  write_data (num n) = 1 ∷ le 8 n
  write_data (truth b) = truth_tag b ∷ []
  write_data (text t) = 4 ∷ name.write t
  write_data (bag ds) = 5 ∷ (le 4 (how_many ds) ++ write_datas ds)
  write_data (rec fs) = 6 ∷ (write_names (names fs) ++ write_values fs)
  write_data (left d) = 7 ∷ write_data d
  write_data (right d) = 8 ∷ write_data d

  pub write_datas : Datas → List ℕ
  write_datas none = []
  write_datas (more d ds) = write_data d ++ write_datas ds

  pub write_values : Fields → List ℕ
  write_values no_field = []
  write_values (field n d fs) = write_data d ++ write_values fs

unfoldable mutual
  pub FitsData : Data → Type 0
  FitsData unit = Unit {0}
  FitsData (num n) = n < 2 ^ 64
  FitsData (truth b) = Unit {0}
  FitsData (text t) = name.Fits t
  FitsData (bag ds) = (how_many ds < 2 ^ 32) × FitsDatas ds
  FitsData (rec fs) = FitNames (names fs) × FitsValues fs
  FitsData (left d) = FitsData d
  FitsData (right d) = FitsData d

  pub FitsDatas : Datas → Type 0
  FitsDatas none = Unit {0}
  FitsDatas (more d ds) = FitsData d × FitsDatas ds

  pub FitsValues : Fields → Type 0
  FitsValues no_field = Unit {0}
  FitsValues (field n d fs) = FitsData d × FitsValues fs

-- queries
unfoldable pub tag_2 : Op2 → ℕ
tag_2 equal = 4
tag_2 and = 5
tag_2 or = 6
tag_2 plus = 7
tag_2 less = 8
tag_2 join_bags = 9
tag_2 join_recs = 10
tag_2 within = 11

unfoldable pub write_1 : Op1 → List ℕ
write_1 not_so = 12 ∷ []
write_1 in_bag = 13 ∷ []
write_1 flat = 14 ∷ []
write_1 count = 15 ∷ []
write_1 sum = 16 ∷ []
write_1 distinct = 17 ∷ []
write_1 (dot n) = 18 ∷ name.write n
write_1 (as_field n) = 19 ∷ name.write n
write_1 (without n) = 20 ∷ name.write n
write_1 (project ns) = 21 ∷ write_names ns

unfoldable pub Fits1 : Op1 → Type 0
Fits1 not_so = Unit {0}
Fits1 in_bag = Unit {0}
Fits1 flat = Unit {0}
Fits1 count = Unit {0}
Fits1 sum = Unit {0}
Fits1 distinct = Unit {0}
Fits1 (dot n) = name.Fits n
Fits1 (as_field n) = name.Fits n
Fits1 (without n) = name.Fits n
Fits1 (project ns) = FitNames ns

unfoldable pub write_query : Query → List ℕ
write_query (table n) = 0 ∷ le 4 n
write_query it = 1 ∷ []
write_query env = 2 ∷ []
write_query (just t d) = 3 ∷ (write_ty t ++ write_data d)
write_query (two o p q) = tag_2 o ∷ (write_query p ++ write_query q)
write_query (one o q) = write_1 o ++ write_query q
write_query (each p q) = 22 ∷ (write_query p ++ write_query q)
write_query (keep p q) = 23 ∷ (write_query p ++ write_query q)
write_query (product p q) = 24 ∷ (write_query p ++ write_query q)
write_query (matched m n p q) = 25 ∷ ((name.write m ++ name.write n) ++ (write_query p ++ write_query q))
write_query (default p q) = 26 ∷ (write_query p ++ write_query q)
write_query (as_left t q) = 27 ∷ (write_ty t ++ write_query q)
write_query (as_right t q) = 28 ∷ (write_ty t ++ write_query q)
write_query (either p q) = 29 ∷ (write_query p ++ write_query q)
write_query (then p q) = 30 ∷ (write_query p ++ write_query q)
write_query (with_env p q) = 31 ∷ (write_query p ++ write_query q)

unfoldable pub FitsQuery : Query → Type 0
FitsQuery (table n) = n < 2 ^ 32
FitsQuery it = Unit {0}
FitsQuery env = Unit {0}
FitsQuery (just t d) = FitsTy t × FitsData d
FitsQuery (two o p q) = FitsQuery p × FitsQuery q
FitsQuery (one o q) = Fits1 o × FitsQuery q
FitsQuery (each p q) = FitsQuery p × FitsQuery q
FitsQuery (keep p q) = FitsQuery p × FitsQuery q
FitsQuery (product p q) = FitsQuery p × FitsQuery q
FitsQuery (matched m n p q) = (name.Fits m × name.Fits n) × (FitsQuery p × FitsQuery q)
FitsQuery (default p q) = FitsQuery p × FitsQuery q
FitsQuery (as_left t q) = FitsTy t × FitsQuery q
FitsQuery (as_right t q) = FitsTy t × FitsQuery q
FitsQuery (either p q) = FitsQuery p × FitsQuery q
FitsQuery (then p q) = FitsQuery p × FitsQuery q
FitsQuery (with_env p q) = FitsQuery p × FitsQuery q

-- the codings of these three
abbrev pub types : Coding
types = record { T = Ty; write = write_ty; Fits = FitsTy }

abbrev pub data_of : Coding
data_of = record { T = Data; write = write_data; Fits = FitsData }

abbrev pub queries : Coding
queries = record { T = Query; write = write_query; Fits = FitsQuery }

-- requests: to ask a query of tables, with so much work at most; to plan a query
pub data Request : Type 0 where
  to_ask : Schema → Tables → Query → ℕ → Request
  to_plan : Schema → Query → Request

-- a request with the number of lent words, as the promises have it
unfoldable pub lent_with : Request → ℕ → Asked
lent_with (to_ask ss ts q w) r = ask ss ts q w r
lent_with (to_plan ss q) r = plan ss q r

unfoldable pub write_request : Request → List ℕ
write_request (to_ask ss ts q w) = 0 ∷ ((counted types).write ss ++ ((counted data_of).write ts ++ (write_query q ++ le 8 w)))
write_request (to_plan ss q) = 1 ∷ ((counted types).write ss ++ write_query q)

unfoldable pub FitsRequest : Request → Type 0
FitsRequest (to_ask ss ts q w) = (counted types).Fits ss × ((counted data_of).Fits ts × (FitsQuery q × (w < 2 ^ 64)))
FitsRequest (to_plan ss q) = (counted types).Fits ss × FitsQuery q

abbrev pub requests : Coding
requests = record { T = Request; write = write_request; Fits = FitsRequest }
