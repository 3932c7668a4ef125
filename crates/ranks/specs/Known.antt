-- Which names types and queries have, and how many at most: a name of no bytes in a matching counts for none.
use Rattle.std.specs.Prelude.{◌≡◌, ℕ, suc, ◌+◌, ◌≤◌, List, [], ◌∷◌, ◌++◌, length, drop}
use Rattle.query.specs.Data.{Name}
use Rattle.query.specs.Query.{Op1, not_so, in_bag, flat, count, sum, distinct, dot, as_field, without, project, Ty, a_unit, a_num, a_truth, a_text, a_bag, a_rec, an_either, Tys, no_ty, ty, Query, table, it, env, just, two, one, each, keep, product, matched, default, as_left, as_right, either, then, with_env}
use Rattle.format.specs.Coding.{name, writes, AllFit}
use Rattle.format.specs.Wire.{write_query, FitsQuery, types, write_1, Fits1}
use Rattle.format.specs.Heads.{TyHead, unit_t, num_t, truth_t, text_t, bag_t, rec_t, either_t, write_ty_head, FitsTyHead, QueryHead, write_query_head, FitsQueryHead, table_q, it_q, env_q, just_q, two_q, one_q, each_q, keep_q, product_q, matched_q, default_q, left_q, right_q, either_q, then_q, with_env_q}
use Rattle.format.specs.Nodes.{TellsType, TellsQuery, IsOp1}
use Rattle.format.specs.declared.node.Unary.{Unary}
use Rattle.format.specs.declared.node.TypeNode.{TypeNode}
use Rattle.format.specs.declared.node.QueryNode.{QueryNode}
use Rattle.ranks.specs.Ranks.{In, Among, names_of, Listed}
use Rattle.ranks.specs.declared.names.Names.{Names}

-- all of some names are among others
unfoldable pub AllIn : List Name → List Name → Type 0
AllIn ns [] = Unit {0}
AllIn ns (m ∷ ms) = In ns m × AllIn ns ms

unfoldable mutual
  pub KnowsTy : List Name → Ty → Type 0
  KnowsTy ns a_unit = Unit {0}
  KnowsTy ns a_num = Unit {0}
  KnowsTy ns a_truth = Unit {0}
  KnowsTy ns a_text = Unit {0}
  KnowsTy ns (a_bag t) = KnowsTy ns t
  KnowsTy ns (a_rec ts) = KnowsTys ns ts
  KnowsTy ns (an_either t u) = KnowsTy ns t × KnowsTy ns u

  pub KnowsTys : List Name → Tys → Type 0
  KnowsTys ns no_ty = Unit {0}
  KnowsTys ns (ty n t ts) = In ns n × KnowsTy ns t × KnowsTys ns ts

unfoldable pub KnowsAll : List Name → List Ty → Type 0
KnowsAll ns [] = Unit {0}
KnowsAll ns (t ∷ ts) = KnowsTy ns t × KnowsAll ns ts

unfoldable pub Knows1 : List Name → Op1 → Type 0
Knows1 ns not_so = Unit {0}
Knows1 ns in_bag = Unit {0}
Knows1 ns flat = Unit {0}
Knows1 ns count = Unit {0}
Knows1 ns sum = Unit {0}
Knows1 ns distinct = Unit {0}
Knows1 ns (dot n) = In ns n
Knows1 ns (as_field n) = In ns n
Knows1 ns (without n) = In ns n
Knows1 ns (project ms) = AllIn ns ms

unfoldable pub Knows : List Name → Query → Type 0
Knows ns (table n) = Unit {0}
Knows ns it = Unit {0}
Knows ns env = Unit {0}
Knows ns (just t d) = KnowsTy ns t
Knows ns (two o p q) = Knows ns p × Knows ns q
Knows ns (one o q) = Knows1 ns o × Knows ns q
Knows ns (each p q) = Knows ns p × Knows ns q
Knows ns (keep p q) = Knows ns p × Knows ns q
Knows ns (product p q) = Knows ns p × Knows ns q
Knows ns (matched m n p q) = (In ns m × In ns n) × (Knows ns p × Knows ns q)
Knows ns (default p q) = Knows ns p × Knows ns q
Knows ns (as_left t q) = KnowsTy ns t × Knows ns q
Knows ns (as_right t q) = KnowsTy ns t × Knows ns q
Knows ns (either p q) = Knows ns p × Knows ns q
Knows ns (then p q) = Knows ns p × Knows ns q
Knows ns (with_env p q) = Knows ns p × Knows ns q

-- how many names at most
unfoldable mutual
  pub names_t : Ty → ℕ
  names_t a_unit = 0
  names_t a_num = 0
  names_t a_truth = 0
  names_t a_text = 0
  names_t (a_bag t) = names_t t
  names_t (a_rec ts) = names_ts ts
  names_t (an_either t u) = names_t t + names_t u

  pub names_ts : Tys → ℕ
  names_ts no_ty = 0
  names_ts (ty n t ts) = suc (names_t t + names_ts ts)

unfoldable pub names_all : List Ty → ℕ
names_all [] = 0
names_all (t ∷ ts) = names_t t + names_all ts

unfoldable pub names_1 : Op1 → ℕ
names_1 not_so = 0
names_1 in_bag = 0
names_1 flat = 0
names_1 count = 0
names_1 sum = 0
names_1 distinct = 0
names_1 (dot n) = 1
names_1 (as_field n) = 1
names_1 (without n) = 1
names_1 (project ms) = length ms

unfoldable pub names_q : Query → ℕ
names_q (table n) = 0
names_q it = 0
names_q env = 0
names_q (just t d) = names_t t
names_q (two o p q) = names_q p + names_q q
names_q (one o q) = names_1 o + names_q q
names_q (each p q) = names_q p + names_q q
names_q (keep p q) = names_q p + names_q q
names_q (product p q) = names_q p + names_q q
names_q (matched m n p q) = (length m + length n) + (names_q p + names_q q)
names_q (default p q) = names_q p + names_q q
names_q (as_left t q) = names_t t + names_q q
names_q (as_right t q) = names_t t + names_q q
names_q (either p q) = names_q p + names_q q
names_q (then p q) = names_q p + names_q q
names_q (with_env p q) = names_q p + names_q q

unfoldable pub KnowsEach : List Name → List Query → Type 0
KnowsEach ns [] = Unit {0}
KnowsEach ns (q ∷ qs) = Knows ns q × KnowsEach ns qs

unfoldable pub names_each : List Query → ℕ
names_each [] = 0
names_each (q ∷ qs) = names_q q + names_each qs

-- the names that stand in the head of a type
unfoldable pub head_names : TyHead → List Name
head_names unit_t = []
head_names num_t = []
head_names truth_t = []
head_names text_t = []
head_names bag_t = []
head_names (rec_t ns) = ns
head_names either_t = []

-- what a query's head has of names, and how many at most
unfoldable pub HeadKnows : List Name → QueryHead → Type 0
HeadKnows ns (table_q n) = Unit {0}
HeadKnows ns it_q = Unit {0}
HeadKnows ns env_q = Unit {0}
HeadKnows ns (just_q t d) = KnowsTy ns t
HeadKnows ns (two_q o) = Unit {0}
HeadKnows ns (one_q o) = Knows1 ns o
HeadKnows ns each_q = Unit {0}
HeadKnows ns keep_q = Unit {0}
HeadKnows ns product_q = Unit {0}
HeadKnows ns (matched_q m n) = In ns m × In ns n
HeadKnows ns default_q = Unit {0}
HeadKnows ns (left_q t) = KnowsTy ns t
HeadKnows ns (right_q t) = KnowsTy ns t
HeadKnows ns either_q = Unit {0}
HeadKnows ns then_q = Unit {0}
HeadKnows ns with_env_q = Unit {0}

unfoldable pub names_h : QueryHead → ℕ
names_h (table_q n) = 0
names_h it_q = 0
names_h env_q = 0
names_h (just_q t d) = names_t t
names_h (two_q o) = 0
names_h (one_q o) = names_1 o
names_h each_q = 0
names_h keep_q = 0
names_h product_q = 0
names_h (matched_q m n) = length m + length n
names_h default_q = 0
names_h (left_q t) = names_t t
names_h (right_q t) = names_t t
names_h either_q = 0
names_h then_q = 0
names_h with_env_q = 0

-- the names are in order still, and none was lost
pub record Kept (xs : List ℕ) (v u : Names) : Type 0 where
  pub listed : Listed xs u
  pub among : Among (names_of xs v) (names_of xs u)

-- so many at most were put, and where there was room for them, they are there
pub record Took (xs : List ℕ) (v u : Names) (w : ℕ) (K : List Name → Type 0) : Type 0 where
  pub few : length (names_of xs u) ≤ length (names_of xs v) + w
  pub knows : length (names_of xs v) + w ≤ 8200 → K (names_of xs u)

-- whatever names, types, head or query stand at a place
abbrev pub NamesTaken : List ℕ → Names → Names → ℕ → ℕ → Type 0
NamesTaken xs v u at k = (ms : List Name) (rest : List ℕ) → AllFit name ms → length ms ≡ k → drop at xs ≡ writes name ms ++ rest → Took xs v u k (λ ns. AllIn ns ms)

abbrev pub TypesTaken : List ℕ → Names → Names → ℕ → ℕ → Type 0
TypesTaken xs v u at k = (ts : List Ty) (rest : List ℕ) → AllFit types ts → length ts ≡ k → drop at xs ≡ writes types ts ++ rest → Took xs v u (names_all ts) (λ ns. KnowsAll ns ts)

abbrev pub HeadTaken : List ℕ → Names → Names → ℕ → TypeNode → Type 0
HeadTaken xs v u at node = (h : TyHead) (rest : List ℕ) → TellsType node h → FitsTyHead h → drop at xs ≡ write_ty_head h ++ rest → Took xs v u (length (head_names h)) (λ ns. AllIn ns (head_names h))

abbrev pub QueryHeadTaken : List ℕ → Names → Names → ℕ → QueryNode → Type 0
QueryHeadTaken xs v u at node = (h : QueryHead) (rest : List ℕ) → In (names_of xs v) [] → TellsQuery node h → FitsQueryHead h → drop at xs ≡ write_query_head h ++ rest → Took xs v u (names_h h) (λ ns. HeadKnows ns h)

abbrev pub QueryTaken : List ℕ → Names → Names → ℕ → Type 0
QueryTaken xs v u at = (q : Query) (rest : List ℕ) → In (names_of xs v) [] → FitsQuery q → drop at xs ≡ write_query q ++ rest → Took xs v u (names_q q) (λ ns. Knows ns q)

-- a name that stands at a place was put, and where it ends
pub record Named (xs : List ℕ) (v u : Names) (at n r : ℕ) : Type 0 where
  pub within : r ≤ length xs
  pub kept : Kept xs v u
  pub ends : (m : Name) (rest : List ℕ) → name.Fits m → length m ≡ n → drop at xs ≡ name.write m ++ rest → r ≡ at + (4 + n)
  pub taken : (m : Name) (rest : List ℕ) → name.Fits m → length m ≡ n → drop at xs ≡ name.write m ++ rest → Took xs v u 1 (λ ns. In ns m)
  pub short : (m : Name) (rest : List ℕ) → name.Fits m → length m ≡ n → drop at xs ≡ name.write m ++ rest → In (names_of xs v) [] → Took xs v u (length m) (λ ns. In ns m)

-- whatever operator of one stands at a place
abbrev pub OpTaken : List ℕ → Names → Names → ℕ → Unary → Type 0
OpTaken xs v u at k = (o : Op1) (rest : List ℕ) → IsOp1 k o → Fits1 o → drop at xs ≡ write_1 o ++ rest → Took xs v u (names_1 o) (λ ns. Knows1 ns o)

-- the names of a request: whatever types and query stand at two places, all their names are there if there is room, and no more
pub record Gathered (xs : List ℕ) (u : Names) (at count to : ℕ) : Type 0 where
  pub listed : Listed xs u
  pub few : (ts : List Ty) (q : Query) (rest more : List ℕ) → AllFit types ts → length ts ≡ count → at ≤ length xs → drop at xs ≡ writes types ts ++ rest → FitsQuery q → to ≤ length xs → drop to xs ≡ write_query q ++ more
      → length (names_of xs u) ≤ 1 + (names_all ts + names_q q)
  pub known : (ts : List Ty) (q : Query) (rest more : List ℕ) → AllFit types ts → length ts ≡ count → at ≤ length xs → drop at xs ≡ writes types ts ++ rest → FitsQuery q → to ≤ length xs → drop to xs ≡ write_query q ++ more
      → 1 + (names_all ts + names_q q) ≤ 8200 → KnowsAll (names_of xs u) ts × Knows (names_of xs u) q
