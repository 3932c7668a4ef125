-- Queries by how the types of their parts are put together.
use Rattle.std.specs.Prelude.{◌≡◌, ℕ, ◌+◌, List, [], ◌∷◌, length}
use Rattle.query.specs.Data.{Name, Data}
use Rattle.query.specs.Query.{Op1, Op2, join_bags, Ty, a_truth, a_bag, an_either, Query, table, it, env, just, two, one, each, keep, product, matched, default, as_left, as_right, either, then, with_env}
use Rattle.query.specs.Types.{sound, same_ty, if_so, type1, type2}
use Rattle.query.specs.Size.{size_t}
use Rattle.format.specs.Nodes.{op_2, IsOp1}
use Rattle.format.specs.declared.node.QueryNode.{QueryNode}
use Rattle.guide.specs.Visits.{IsQuery}
use Rattle.ranks.specs.Known.{names_t}
use Rattle.types.specs.Operators.{product_ty, matched_ty}
use Rattle.typed.specs.declared.shape.Leaf.{Leaf}
use Rattle.typed.specs.declared.shape.Leaf.TheVariants as lf
use Rattle.typed.specs.declared.shape.Single.{Single}
use Rattle.typed.specs.declared.shape.Single.TheVariants as sg
use Rattle.typed.specs.declared.shape.Joint.{Joint}
use Rattle.typed.specs.declared.shape.Joint.TheVariants as jt
use Rattle.typed.specs.declared.shape.Over.{Over}
use Rattle.typed.specs.declared.shape.Over.TheVariants as ov
use Rattle.typed.specs.declared.shape.Shape.{Shape}
use Rattle.typed.specs.declared.shape.Shape.TheVariants as sh

abbrev pub IsLeaf : Leaf → Query → Type 0
IsLeaf (lf.Table n) x = x ≡ table n
IsLeaf lf.It x = x ≡ it
IsLeaf lf.Env x = x ≡ env
IsLeaf lf.Just x = (t : Ty) × (d : Data) × (x ≡ just t d)

-- An operator on one part: which query it makes, of which type, and how many types and fields that may take.
pub data Made1 : Type 0 where
  op1 : Op1 → Made1
  on_left : Ty → Made1
  on_right : Ty → Made1

abbrev pub one_query : Made1 → Query → Query
one_query (op1 o) p = one o p
one_query (on_left t) p = as_left t p
one_query (on_right t) p = as_right t p

abbrev pub one_type : Made1 → Ty → List Ty
one_type (op1 o) t = type1 o t
one_type (on_left u) t = if_so (sound u) (an_either t u ∷ [])
one_type (on_right u) t = if_so (sound u) (an_either u t ∷ [])

abbrev pub one_types : Made1 → ℕ
one_types (op1 o) = 1
one_types (on_left t) = size_t t + 1
one_types (on_right t) = size_t t + 1

abbrev pub one_fields : ℕ → Made1 → ℕ
one_fields w (op1 o) = w
one_fields w (on_left t) = names_t t
one_fields w (on_right t) = names_t t

abbrev pub IsSingle : Single → Made1 → Type 0
IsSingle (sg.Op u) k = (o : Op1) × (k ≡ op1 o) × IsOp1 u o
IsSingle sg.Left k = (t : Ty) × (k ≡ on_left t)
IsSingle sg.Right k = (t : Ty) × (k ≡ on_right t)

-- An operator on two parts, whose types are told from left to right. Of a default both are bags of one type, as of two bags in one.
pub data Made2 : Type 0 where
  op2 : Op2 → Made2
  all : Made2
  where_same : Name → Name → Made2
  or_else : Made2

abbrev pub two_query : Made2 → Query → Query → Query
two_query (op2 o) p q = two o p q
two_query all p q = product p q
two_query (where_same m n) p q = matched m n p q
two_query or_else p q = default p q

abbrev pub two_type : Made2 → Ty → Ty → List Ty
two_type (op2 o) a b = type2 o a b
two_type all a b = product_ty a b
two_type (where_same m n) a b = matched_ty m n a b
two_type or_else a b = type2 join_bags a b

abbrev pub IsJoint : Joint → Made2 → Type 0
IsJoint (jt.Op b) k = k ≡ op2 (op_2 b)
IsJoint jt.Product k = k ≡ all
IsJoint (jt.Matched i j) k = (m : Name) × (n : Name) × (k ≡ where_same m n) × (length m ≡ i) × (length n ≡ j)
IsJoint jt.Default k = k ≡ or_else

-- The first part asked of each of the second: by the type of the second and that of the first.
abbrev pub over_query : Over → Query → Query → Query
over_query ov.Each p q = each p q
over_query ov.Keep p q = keep p q

abbrev pub over_type : Over → Ty → Ty → List Ty
over_type ov.Each a v = a_bag v ∷ []
over_type ov.Keep a v = if_so (same_ty v a_truth) (a ∷ [])

abbrev pub Shaped : Shape → Query → Type 0
Shaped (sh.Leaf l) x = IsLeaf l x
Shaped (sh.Single s) x = (k : Made1) × (p : Query) × (x ≡ one_query k p) × IsSingle s k
Shaped (sh.Pair j) x = (k : Made2) × (p : Query) × (q : Query) × (x ≡ two_query k p q) × IsJoint j k
Shaped (sh.Over o) x = (p : Query) × (q : Query) × (x ≡ over_query o p q)
Shaped sh.Then x = (p : Query) × (q : Query) × (x ≡ then p q)
Shaped sh.WithEnv x = (p : Query) × (q : Query) × (x ≡ with_env p q)
Shaped sh.Either x = (p : Query) × (q : Query) × (x ≡ either p q)

pub record TellsShape (node : QueryNode) (s : Shape) : Type 0 where
  pub tells : (x : Query) → IsQuery node x → Shaped s x
