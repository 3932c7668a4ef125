-- The names that a schema and a query have, and types whose records have no others.
use Rattle.std.specs.Prelude.{Bool, true, ◌&&◌, List, [], ◌∷◌, ◌++◌, ℕ, suc, max}
use Rattle.query.specs.Data.{Name, one_of, Fields, no_field, field}
use Rattle.query.specs.Query.{Op1, not_so, in_bag, flat, count, sum, distinct, dot, as_field, without, project, Ty, a_unit, a_num, a_truth, a_text, a_bag, a_rec, an_either, Tys, no_ty, ty, Query, table, it, env, just, two, one, each, keep, product, matched, default, as_left, as_right, either, then, with_env}
use Rattle.query.specs.Types.{Schema}
use Rattle.values.specs.Height.{height_ty}

-- how many fields a record has
unfoldable pub width : Fields → ℕ
width no_field = 0
width (field n d fs) = suc (width fs)

unfoldable pub width_ty : Tys → ℕ
width_ty no_ty = 0
width_ty (ty n t ts) = suc (width_ty ts)

-- each record in a type has only names of a list
unfoldable mutual
  pub named : List Name → Ty → Bool
  named ns a_unit = true
  named ns a_num = true
  named ns a_truth = true
  named ns a_text = true
  named ns (a_bag t) = named ns t
  named ns (a_rec ts) = nameds ns ts
  named ns (an_either t u) = named ns t && named ns u

  pub nameds : List Name → Tys → Bool
  nameds ns no_ty = true
  nameds ns (ty n t ts) = one_of n ns && (named ns t && nameds ns ts)

-- the names in a type, in a schema, in a query
unfoldable mutual
  pub names_in : Ty → List Name
  names_in a_unit = []
  names_in a_num = []
  names_in a_truth = []
  names_in a_text = []
  names_in (a_bag t) = names_in t
  names_in (a_rec ts) = names_in_all ts
  names_in (an_either t u) = names_in t ++ names_in u

  pub names_in_all : Tys → List Name
  names_in_all no_ty = []
  names_in_all (ty n t ts) = n ∷ (names_in t ++ names_in_all ts)

unfoldable pub schema_names : Schema → List Name
schema_names [] = []
schema_names (t ∷ ts) = names_in t ++ schema_names ts

-- of operators only a new field brings a name
unfoldable pub op_names : Op1 → List Name
op_names not_so = []
op_names in_bag = []
op_names flat = []
op_names count = []
op_names sum = []
op_names distinct = []
op_names (dot n) = []
op_names (as_field n) = n ∷ []
op_names (without n) = []
op_names (project ns) = []

unfoldable pub query_names : Query → List Name
query_names (table n) = []
query_names it = []
query_names env = []
query_names (just t d) = names_in t
query_names (two o p q) = query_names p ++ query_names q
query_names (one o q) = op_names o ++ query_names q
query_names (each p q) = query_names p ++ query_names q
query_names (keep p q) = query_names p ++ query_names q
query_names (product p q) = query_names p ++ query_names q
query_names (matched m n p q) = query_names p ++ query_names q
query_names (default p q) = query_names p ++ query_names q
query_names (as_left t q) = names_in t ++ query_names q
query_names (as_right t q) = names_in t ++ query_names q
query_names (either p q) = query_names p ++ query_names q
query_names (then p q) = query_names p ++ query_names q
query_names (with_env p q) = query_names p ++ query_names q

-- all names of one list are in another
unfoldable pub all_in : List Name → List Name → Bool
all_in [] ms = true
all_in (n ∷ ns) ms = one_of n ms && all_in ns ms

unfoldable pub schema_named : List Name → Schema → Bool
schema_named ns [] = true
schema_named ns (t ∷ ts) = named ns t && schema_named ns ts

-- how deep the types of a schema nest
unfoldable pub schema_height : Schema → ℕ
schema_height [] = 0
schema_height (t ∷ ts) = max (height_ty t) (schema_height ts)
