-- How many bytes something of so many parts is written in, and how deep it is nested.
use Rattle.std.proofs.Common.{◌≡◌, ℕ, ◌+◌, ◌*◌, ◌<◌, ◌≤◌, List, [], ◌∷◌, ◌++◌, length, ap, ◌∙◌, arith, length-append}
use Rattle.query.specs.Data.{Name, Data, unit, num, truth, text, bag, rec, left, right, Datas, none, more, Fields, no_field, field, how_many}
use Rattle.query.specs.Query.{Op1, not_so, in_bag, flat, count, sum, distinct, dot, as_field, without, project, Ty, a_unit, a_num, a_truth, a_text, a_bag, a_rec, an_either, Tys, no_ty, ty, Query, table, it, env, just, two, one, each, keep, product, matched, default, as_left, as_right, either, then, with_env}
use Rattle.query.specs.Size.{size_d, size_ds, size_fs, size_t, size_ts, sizes, size_1, size_q}
use Rattle.format.specs.Coding.{le, name, writes}
use Rattle.format.specs.Wire.{names, names_ty, write_names, write_ty, write_tys, write_data, write_datas, write_values, write_1, write_query}
use Rattle.format.specs.Bytes.{length_le}
use Rattle.guide.specs.Marks.{nesting}

name_long : (n : Name) → length (name.write n) ≡ 4 + length n
name_long n = length-append (le 4 (length n)) n ∙ ap (λ (v : ℕ). v + length n) (length_le 4 (length n))

names_long : (ns : List Name) → length (write_names ns) ≡ 4 + length (writes name ns)
names_long ns = length-append (le 4 (length ns)) (writes name ns) ∙ ap (λ (v : ℕ). v + length (writes name ns)) (length_le 4 (length ns))

more_long : (n : Name) (ns : List Name) → length (writes name (n ∷ ns)) ≡ (4 + length n) + length (writes name ns)
more_long n ns = length-append (name.write n) (writes name ns) ∙ ap (λ (v : ℕ). v + length (writes name ns)) (name_long n)

-- types: five bytes a part at most
mutual
  unfolding write_ty write_tys size_t size_ts names_ty

  pub type_bytes : (t : Ty) → length (write_ty t) ≤ 5 * size_t t
  type_bytes a_unit = omega arith
  type_bytes a_num = omega arith
  type_bytes a_truth = omega arith
  type_bytes a_text = omega arith
  type_bytes (a_bag t) = omega (arith, type_bytes t)
  type_bytes (a_rec ts) = omega (arith, length-append (write_names (names_ty ts)) (write_tys ts), names_long (names_ty ts), fields_bytes ts)
  type_bytes (an_either t u) = omega (arith, length-append (write_ty t) (write_ty u), type_bytes t, type_bytes u)

  fields_bytes : (ts : Tys) → length (writes name (names_ty ts)) + length (write_tys ts) ≤ 5 * size_ts ts
  fields_bytes no_ty = omega arith
  fields_bytes (ty n t ts) = omega (arith, more_long n (names_ty ts), length-append (write_ty t) (write_tys ts), type_bytes t, fields_bytes ts)

-- data: nine bytes a part at most, which a number takes
mutual
  unfolding write_data write_datas write_values size_d size_ds size_fs names

  pub data_bytes : (d : Data) → length (write_data d) ≤ 9 * size_d d
  data_bytes unit = omega arith
  data_bytes (num n) = omega (arith, length_le 8 n)
  data_bytes (truth b) = omega arith
  data_bytes (text t) = omega (arith, name_long t)
  data_bytes (bag ds) = omega (arith, length-append (le 4 (how_many ds)) (write_datas ds), length_le 4 (how_many ds), datas_bytes ds)
  data_bytes (rec fs) = omega (arith, length-append (write_names (names fs)) (write_values fs), names_long (names fs), values_bytes fs)
  data_bytes (left d) = omega (arith, data_bytes d)
  data_bytes (right d) = omega (arith, data_bytes d)

  datas_bytes : (ds : Datas) → length (write_datas ds) ≤ 9 * size_ds ds
  datas_bytes none = omega arith
  datas_bytes (more d ds) = omega (arith, length-append (write_data d) (write_datas ds), data_bytes d, datas_bytes ds)

  values_bytes : (fs : Fields) → length (writes name (names fs)) + length (write_values fs) ≤ 9 * size_fs fs
  values_bytes no_field = omega arith
  values_bytes (field n d fs) = omega (arith, more_long n (names fs), length-append (write_data d) (write_values fs), data_bytes d, values_bytes fs)

names_bytes : (ns : List Name) → length (writes name ns) ≤ 5 * sizes ns
unfolding sizes
names_bytes [] = omega arith
names_bytes (n ∷ ns) = omega (arith, more_long n ns, names_bytes ns)

operator_bytes : (o : Op1) → length (write_1 o) ≤ 5 * size_1 o
unfolding write_1 size_1
operator_bytes not_so = omega arith
operator_bytes in_bag = omega arith
operator_bytes flat = omega arith
operator_bytes count = omega arith
operator_bytes sum = omega arith
operator_bytes distinct = omega arith
operator_bytes (dot n) = omega (arith, name_long n)
operator_bytes (as_field n) = omega (arith, name_long n)
operator_bytes (without n) = omega (arith, name_long n)
operator_bytes (project ns) = omega (arith, names_long ns, names_bytes ns)

-- Queries: nine bytes a part at most. No smaller number does for all, since a bag of numbers that is written out takes nine for each.
pub query_bytes : (q : Query) → length (write_query q) ≤ 9 * size_q q
unfolding write_query size_q
query_bytes (table n) = omega (arith, length_le 4 n)
query_bytes it = omega arith
query_bytes env = omega arith
query_bytes (just t d) = omega (arith, length-append (write_ty t) (write_data d), type_bytes t, data_bytes d)
query_bytes (two o p q) = omega (arith, length-append (write_query p) (write_query q), query_bytes p, query_bytes q)
query_bytes (one o q) = omega (arith, length-append (write_1 o) (write_query q), operator_bytes o, query_bytes q)
query_bytes (each p q) = omega (arith, length-append (write_query p) (write_query q), query_bytes p, query_bytes q)
query_bytes (keep p q) = omega (arith, length-append (write_query p) (write_query q), query_bytes p, query_bytes q)
query_bytes (product p q) = omega (arith, length-append (write_query p) (write_query q), query_bytes p, query_bytes q)
query_bytes (matched m n p q) =
    omega (arith, length-append (name.write m ++ name.write n) (write_query p ++ write_query q), length-append (name.write m) (name.write n), name_long m, name_long n, length-append (write_query p) (write_query q), query_bytes p, query_bytes q)
query_bytes (default p q) = omega (arith, length-append (write_query p) (write_query q), query_bytes p, query_bytes q)
query_bytes (as_left t q) = omega (arith, length-append (write_ty t) (write_query q), type_bytes t, query_bytes q)
query_bytes (as_right t q) = omega (arith, length-append (write_ty t) (write_query q), type_bytes t, query_bytes q)
query_bytes (either p q) = omega (arith, length-append (write_query p) (write_query q), query_bytes p, query_bytes q)
query_bytes (then p q) = omega (arith, length-append (write_query p) (write_query q), query_bytes p, query_bytes q)
query_bytes (with_env p q) = omega (arith, length-append (write_query p) (write_query q), query_bytes p, query_bytes q)

-- everything has a part
type_some : (t : Ty) → 0 < size_t t
unfolding size_t
type_some a_unit = omega arith
type_some a_num = omega arith
type_some a_truth = omega arith
type_some a_text = omega arith
type_some (a_bag t) = omega arith
type_some (a_rec ts) = omega arith
type_some (an_either t u) = omega arith

operator_some : (o : Op1) → 0 < size_1 o
unfolding size_1
operator_some not_so = omega arith
operator_some in_bag = omega arith
operator_some flat = omega arith
operator_some count = omega arith
operator_some sum = omega arith
operator_some distinct = omega arith
operator_some (dot n) = omega arith
operator_some (as_field n) = omega arith
operator_some (without n) = omega arith
operator_some (project ns) = omega arith

pub query_some : (q : Query) → 0 < size_q q
unfolding size_q
query_some (table n) = omega arith
query_some it = omega arith
query_some env = omega arith
query_some (just t d) = omega arith
query_some (two o p q) = omega arith
query_some (one o q) = omega arith
query_some (each p q) = omega arith
query_some (keep p q) = omega arith
query_some (product p q) = omega arith
query_some (matched m n p q) = omega arith
query_some (default p q) = omega arith
query_some (as_left t q) = omega arith
query_some (as_right t q) = omega arith
query_some (either p q) = omega arith
query_some (then p q) = omega arith
query_some (with_env p q) = omega arith

-- a nesting takes two parts at least
pub nesting_parts : (q : Query) → 2 * nesting q ≤ size_q q + 1
unfolding nesting size_q
nesting_parts (table n) = omega arith
nesting_parts it = omega arith
nesting_parts env = omega arith
nesting_parts (just t d) = omega arith
nesting_parts (two o p q) = omega (arith, query_some p, query_some q, nesting_parts p, nesting_parts q)
nesting_parts (one o q) = omega (arith, operator_some o, nesting_parts q)
nesting_parts (each p q) = omega (arith, query_some p, query_some q, nesting_parts p, nesting_parts q)
nesting_parts (keep p q) = omega (arith, query_some p, query_some q, nesting_parts p, nesting_parts q)
nesting_parts (product p q) = omega (arith, query_some p, query_some q, nesting_parts p, nesting_parts q)
nesting_parts (matched m n p q) = omega (arith, query_some p, query_some q, nesting_parts p, nesting_parts q)
nesting_parts (default p q) = omega (arith, query_some p, query_some q, nesting_parts p, nesting_parts q)
nesting_parts (as_left t q) = omega (arith, type_some t, nesting_parts q)
nesting_parts (as_right t q) = omega (arith, type_some t, nesting_parts q)
nesting_parts (either p q) = omega (arith, query_some p, query_some q, nesting_parts p, nesting_parts q)
nesting_parts (then p q) = omega (arith, query_some p, query_some q, nesting_parts p, nesting_parts q)
nesting_parts (with_env p q) = omega (arith, query_some p, query_some q, nesting_parts p, nesting_parts q)

pub nesting_some : (q : Query) → 0 < nesting q
unfolding nesting
nesting_some (table n) = omega arith
nesting_some it = omega arith
nesting_some env = omega arith
nesting_some (just t d) = omega arith
nesting_some (two o p q) = omega arith
nesting_some (one o q) = omega arith
nesting_some (each p q) = omega arith
nesting_some (keep p q) = omega arith
nesting_some (product p q) = omega arith
nesting_some (matched m n p q) = omega arith
nesting_some (default p q) = omega arith
nesting_some (as_left t q) = omega arith
nesting_some (as_right t q) = omega arith
nesting_some (either p q) = omega arith
nesting_some (then p q) = omega arith
nesting_some (with_env p q) = omega arith
