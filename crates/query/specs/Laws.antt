-- What is promised of the definitions themselves. Each is a statement; a function's contract that names it asks for its proof.
use Rattle.std.specs.Prelude.{◌≡◌, Bool, true, false, not, ◌&&◌, ◌||◌, List, [], ◌∷◌, ◌≤◌, length}
use Rattle.query.specs.Data.{Name, Data, unit, num, truth, text, bag, rec, left, right, Datas, none, more, Fields, same, how_many, is_in, once, get, both, in_order}
use Rattle.query.specs.Query.{Ty, Query, table, it, env, just, two, one, each, keep, product, matched, default, as_left, as_right, either, then, with_env, Tables, came, eval, all_pairs, matched_pairs, keep_of}
use Rattle.query.specs.Types.{code, sound, is_of, type_of, Schema, tables_are}
use Rattle.query.specs.Size.{all_sound}
use Rattle.query.specs.Promise.{same_fields_of}

-- a question with a type comes to something of that type
unfoldable pub ComesToItsType : Type 0
ComesToItsType =
    (ss : Schema) (ts : Tables) (q : Query) (e t u : Ty) (x y : Data) → all_sound ss ≡ true → sound e ≡ true → sound t ≡ true → tables_are ts ss ≡ true → is_of x e ≡ true → is_of y t ≡ true →
    type_of ss q e t ≡ u ∷ [] → (d : Data) × (((eval ts q x y).is ≡ d ∷ []) × (is_of d u ≡ true) × (sound u ≡ true))

-- no two types have the same numbers
unfoldable pub CodeTells : Type 0
CodeTells = (t u : Ty) → code t ≡ code u → t ≡ u

-- what is told to be the same is the same
unfoldable pub SameIsSame : Type 0
SameIsSame = (d e : Data) → (same d e ≡ true → d ≡ e) × (same d d ≡ true)

-- distinct: each once, and all that there were
unfoldable pub twice : Datas → Bool
twice none = false
twice (more d ds) = is_in d ds || twice ds

unfoldable pub EachOnce : Type 0
EachOnce = (ds : Datas) (d : Data) → (twice (once ds) ≡ false) × (is_in d (once ds) ≡ is_in d ds)

-- matching is keeping of a product
unfoldable pub some_datum : List Data → Bool
some_datum [] = false
some_datum (x ∷ xs) = true

-- a record, with or without a field
unfoldable pub has_field : Name → Data → Bool
has_field m unit = false
has_field m (num n) = false
has_field m (truth b) = false
has_field m (text t) = false
has_field m (bag es) = false
has_field m (rec fs) = some_datum (get m fs)
has_field m (left e) = false
has_field m (right e) = false

unfoldable pub lacks_field : Name → Data → Bool
lacks_field m unit = false
lacks_field m (num n) = false
lacks_field m (truth b) = false
lacks_field m (text t) = false
lacks_field m (bag es) = false
lacks_field m (rec fs) = not (some_datum (get m fs))
lacks_field m (left e) = false
lacks_field m (right e) = false

unfoldable pub rec_in_order : Data → Bool
rec_in_order unit = false
rec_in_order (num n) = false
rec_in_order (truth b) = false
rec_in_order (text t) = false
rec_in_order (bag es) = false
rec_in_order (rec fs) = in_order fs
rec_in_order (left e) = false
rec_in_order (right e) = false

unfoldable pub all_recs_with : Name → Datas → Bool
all_recs_with m none = true
all_recs_with m (more d ds) = has_field m d && all_recs_with m ds

unfoldable pub none_with : Name → Datas → Bool
none_with m none = true
none_with m (more d ds) = lacks_field m d && none_with m ds

unfoldable pub all_in_order : Datas → Bool
all_in_order none = true
all_in_order (more d ds) = rec_in_order d && all_in_order ds

unfoldable pub MatchedIsKept : Type 0
MatchedIsKept =
    (ts : Tables) (m n : Name) (xs ys : Datas) (e : Data) → all_recs_with m xs ≡ true → all_recs_with n ys ≡ true → none_with m ys ≡ true → all_in_order xs ≡ true → all_in_order ys ≡ true →
    (matched_pairs m n xs ys (λ zs. came 0 (bag zs))).is ≡ (all_pairs xs ys (λ zs. keep_of (λ z. eval ts (same_fields_of m n) e z) zs (λ ws. came 0 (bag ws)))).is

-- records stay in order
unfoldable pub StaysInOrder : Type 0
StaysInOrder = (fs gs : Fields) → in_order fs ≡ true → in_order gs ≡ true → in_order (both fs gs) ≡ true

-- asking each of a bag comes to as many
unfoldable pub AsMany : Type 0
AsMany =
    (ts : Tables) (p q : Query) (e d : Data) (xs ys : Datas) → (eval ts q e d).is ≡ bag xs ∷ [] → (eval ts (each p q) e d).is ≡ bag ys ∷ [] → how_many ys ≡ how_many xs

-- what goes along isn't seen by a question that doesn't look
unfoldable pub looks : Query → Bool
looks (table n) = false
looks it = false
looks env = true
looks (just t d) = false
looks (two o p q) = looks p || looks q
looks (one o q) = looks q
looks (each p q) = looks p || looks q
looks (keep p q) = looks p || looks q
looks (product p q) = looks p || looks q
looks (matched m n p q) = looks p || looks q
looks (default p q) = looks p || looks q
looks (as_left t q) = looks q
looks (as_right t q) = looks q
looks (either p q) = looks p || looks q
looks (then p q) = looks p || looks q
looks (with_env p q) = looks q

unfoldable pub NotLookedAt : Type 0
NotLookedAt = (ts : Tables) (q : Query) (x y d : Data) → looks q ≡ false → eval ts q x d ≡ eval ts q y d

-- nor is it seen by a question that doesn't look at it; what is asked of each of a bag, or of what another question came to, looks at that instead
unfoldable pub looks_it : Query → Bool
looks_it (table n) = false
looks_it it = true
looks_it env = false
looks_it (just t d) = false
looks_it (two o p q) = looks_it p || looks_it q
looks_it (one o q) = looks_it q
looks_it (each p q) = looks_it q
looks_it (keep p q) = looks_it q
looks_it (product p q) = looks_it p || looks_it q
looks_it (matched m n p q) = looks_it p || looks_it q
looks_it (default p q) = looks_it p || looks_it q
looks_it (as_left t q) = looks_it q
looks_it (as_right t q) = looks_it q
looks_it (either p q) = true
looks_it (then p q) = looks_it q
looks_it (with_env p q) = looks_it p || looks_it q

unfoldable pub NotLookedAtIt : Type 0
NotLookedAtIt = (ts : Tables) (q : Query) (e x y : Data) → looks_it q ≡ false → eval ts q e x ≡ eval ts q e y

-- a question has one type at most
unfoldable pub OneTypeOnly : Type 0
OneTypeOnly = (ss : Schema) (q : Query) (e t : Ty) → length (type_of ss q e t) ≤ 1

-- the type of a question is sound, where those of the schema, of what goes along and of it are
unfoldable pub TypesAreSound : Type 0
TypesAreSound = (ss : Schema) (q : Query) (e t u : Ty) → all_sound ss ≡ true → sound e ≡ true → sound t ≡ true → type_of ss q e t ≡ u ∷ [] → sound u ≡ true
