-- Operators on what a query's parts come to: which query they make, what comes of them, and of what type.
use Rattle.std.specs.Prelude.{◌≡◌, ℕ, ◌+◌, List, [], ◌∷◌, length}
use Rattle.query.specs.Data.{Name, Data, left, right, bag, how_many}
use Rattle.query.specs.Query.{Op1, Op2, Ty, a_bag, a_rec, an_either, Query, two, one, product, matched, as_left, as_right, Got, came, adding, on_bag, apply1, apply2, all_pairs, matched_pairs}
use Rattle.query.specs.Types.{same_ty, sound, get_ty, on_ty, if_so, both_tys, fields_in, type1, type2}
use Rattle.format.specs.Nodes.{op_2, IsOp1}
use Rattle.operators.specs.declared.op.Single.{Single}
use Rattle.operators.specs.declared.op.Single.TheVariants as sg
use Rattle.operators.specs.declared.op.Joint.{Joint}
use Rattle.operators.specs.declared.op.Joint.TheVariants as jt

-- on what one part comes to
pub data Made1 : Type 0 where
  op1 : Op1 → Made1
  on_left : Ty → Made1
  on_right : Ty → Made1

abbrev pub one_query : Made1 → Query → Query
one_query (op1 o) p = one o p
one_query (on_left t) p = as_left t p
one_query (on_right t) p = as_right t p

abbrev pub one_got : Made1 → Data → Got
one_got (op1 o) d = apply1 o d
one_got (on_left t) d = came 0 (left d)
one_got (on_right t) d = came 0 (right d)

abbrev pub one_type : Made1 → Ty → List Ty
one_type (op1 o) t = type1 o t
one_type (on_left u) t = if_so (sound u) (an_either t u ∷ [])
one_type (on_right u) t = if_so (sound u) (an_either u t ∷ [])

abbrev pub IsSingle : Single → Made1 → Type 0
IsSingle (sg.Op u) k = (o : Op1) × (k ≡ op1 o) × IsOp1 u o
IsSingle sg.Left k = (t : Ty) × (k ≡ on_left t)
IsSingle sg.Right k = (t : Ty) × (k ≡ on_right t)

-- on what two parts come to
pub data Made2 : Type 0 where
  op2 : Op2 → Made2
  all : Made2
  where_same : Name → Name → Made2

abbrev pub two_query : Made2 → Query → Query → Query
two_query (op2 o) p q = two o p q
two_query all p q = product p q
two_query (where_same m n) p q = matched m n p q

abbrev pub two_got : Made2 → Data → Data → Got
two_got (op2 o) a b = apply2 o a b
two_got all a b = on_bag a (λ xs. on_bag b (λ ys. adding (how_many xs + how_many ys) (all_pairs xs ys (λ zs. came 0 (bag zs)))))
two_got (where_same m n) a b = on_bag a (λ xs. on_bag b (λ ys. matched_pairs m n xs ys (λ zs. came (how_many xs + (how_many ys + how_many zs)) (bag zs))))

abbrev pub two_type : Made2 → Ty → Ty → List Ty
two_type (op2 o) a b = type2 o a b
two_type all a b = on_ty (fields_in a) (λ ts. on_ty (fields_in b) (λ us. a_bag (a_rec (both_tys ts us)) ∷ []))
two_type (where_same m n) a b =
    on_ty (fields_in a) (λ ts. on_ty (fields_in b) (λ us. on_ty (get_ty m ts) (λ x. on_ty (get_ty n us) (λ y. if_so (same_ty x y) (a_bag (a_rec (both_tys ts us)) ∷ [])))))

abbrev pub IsJoint : Joint → Made2 → Type 0
IsJoint (jt.Op b) k = k ≡ op2 (op_2 b)
IsJoint jt.Product k = k ≡ all
IsJoint (jt.Matched i j) k = (m : Name) × (n : Name) × (k ≡ where_same m n) × (length m ≡ i) × (length n ≡ j)

-- what is counted before the parts are worked out
abbrev pub price_of : Joint → ℕ
price_of (jt.Op b) = 1
price_of jt.Product = 0
price_of (jt.Matched i j) = 0
