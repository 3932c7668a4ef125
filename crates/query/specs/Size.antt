-- How large things are: parts of data, types, queries, schemas and tables. Names and texts count their bytes.
use Rattle.std.specs.Prelude.{Bool, true, false, ◌&&◌, List, [], ◌∷◌, ℕ, suc, ◌+◌, length}
use Rattle.query.specs.Data.{Name, Data, unit, num, truth, text, bag, rec, left, right, Datas, none, more, Fields, no_field, field}
use Rattle.query.specs.Query.{Op1, not_so, in_bag, flat, count, sum, distinct, dot, as_field, without, project, Ty, a_unit, a_num, a_truth, a_text, a_bag, a_rec, an_either, Tys, no_ty, ty, Query, table, it, env, just, two, one, each, keep, product, matched, default, as_left, as_right, either, then, with_env, Tables}
use Rattle.query.specs.Types.{sound, Schema}

-- how large a question is, what is written out in it too
unfoldable mutual
  pub size_d : Data → ℕ
  size_d unit = 1
  size_d (num n) = 1
  size_d (truth b) = 1
  size_d (text t) = suc (length t)
  size_d (bag ds) = suc (size_ds ds)
  size_d (rec fs) = suc (size_fs fs)
  size_d (left d) = suc (size_d d)
  size_d (right d) = suc (size_d d)

  pub size_ds : Datas → ℕ
  size_ds none = 0
  size_ds (more d ds) = size_d d + size_ds ds

  pub size_fs : Fields → ℕ
  size_fs no_field = 0
  size_fs (field n d fs) = suc (length n + (size_d d + size_fs fs))

unfoldable mutual
  pub size_t : Ty → ℕ
  size_t a_unit = 1
  size_t a_num = 1
  size_t a_truth = 1
  size_t a_text = 1
  size_t (a_bag t) = suc (size_t t)
  size_t (a_rec ts) = suc (size_ts ts)
  size_t (an_either t u) = suc (size_t t + size_t u)

  pub size_ts : Tys → ℕ
  size_ts no_ty = 0
  size_ts (ty n t ts) = suc (length n + (size_t t + size_ts ts))

unfoldable pub sizes : List Name → ℕ
sizes [] = 0
sizes (n ∷ ns) = suc (length n + sizes ns)

unfoldable pub size_1 : Op1 → ℕ
size_1 not_so = 1
size_1 in_bag = 1
size_1 flat = 1
size_1 count = 1
size_1 sum = 1
size_1 distinct = 1
size_1 (dot n) = suc (length n)
size_1 (as_field n) = suc (length n)
size_1 (without n) = suc (length n)
size_1 (project ns) = suc (sizes ns)

unfoldable pub size_q : Query → ℕ
size_q (table n) = 1
size_q it = 1
size_q env = 1
size_q (just t d) = suc (size_t t + size_d d)
size_q (two o p q) = suc (size_q p + size_q q)
size_q (one o q) = suc (size_1 o + size_q q)
size_q (each p q) = suc (size_q p + size_q q)
size_q (keep p q) = suc (size_q p + size_q q)
size_q (product p q) = suc (size_q p + size_q q)
size_q (matched m n p q) = suc (length m + (length n + (size_q p + size_q q)))
size_q (default p q) = suc (size_q p + size_q q)
size_q (as_left t q) = suc (size_t t + size_q q)
size_q (as_right t q) = suc (size_t t + size_q q)
size_q (either p q) = suc (size_q p + size_q q)
size_q (then p q) = suc (size_q p + size_q q)
size_q (with_env p q) = suc (size_q p + size_q q)

unfoldable pub size_s : Schema → ℕ
size_s [] = 0
size_s (t ∷ ts) = suc (size_t t + size_s ts)

unfoldable pub all_sound : Schema → Bool
all_sound [] = true
all_sound (t ∷ ts) = sound t && all_sound ts

unfoldable pub some_ty : List Ty → Bool
some_ty [] = false
some_ty (t ∷ ts) = true

unfoldable pub size_tables : Tables → ℕ
size_tables [] = 0
size_tables (d ∷ ds) = suc (size_d d + size_tables ds)
