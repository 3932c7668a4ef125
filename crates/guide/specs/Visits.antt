-- What it is to visit a query in its bytes, with a guide's number for it.
use Rattle.std.specs.Prelude.{◌≡◌, ℕ, List, ◌++◌, length, IsSomeAnd, Option}
use Rattle.query.specs.Data.{Name, Data}
use Rattle.query.specs.Query.{Op1, Ty, Query, table, it, env, just, two, one, each, keep, product, matched, default, as_left, as_right, either, then, with_env}
use Rattle.format.specs.Wire.{write_ty, write_query, FitsQuery}
use Rattle.format.specs.Nodes.{op_2, IsOp1}
use Rattle.format.specs.declared.node.QueryNode.{QueryNode}
use Rattle.format.specs.declared.node.QueryNode.TheVariants as qn
use Rattle.guide.specs.Guide.{first_part, last_part}
use Rattle.guide.specs.declared.Visit.{Visit}

-- what a right guide has at a query's place: nothing that counts where there is neither a part nor a datum
unfoldable pub SaysLast : ℕ → Query → Type 0
SaysLast last (table n) = Unit {0}
SaysLast last it = Unit {0}
SaysLast last env = Unit {0}
SaysLast last (just t d) = last ≡ last_part (just t d)
SaysLast last (two o p q) = last ≡ last_part (two o p q)
SaysLast last (one o q) = last ≡ last_part (one o q)
SaysLast last (each p q) = last ≡ last_part (each p q)
SaysLast last (keep p q) = last ≡ last_part (keep p q)
SaysLast last (product p q) = last ≡ last_part (product p q)
SaysLast last (matched m n p q) = last ≡ last_part (matched m n p q)
SaysLast last (default p q) = last ≡ last_part (default p q)
SaysLast last (as_left t q) = last ≡ last_part (as_left t q)
SaysLast last (as_right t q) = last ≡ last_part (as_right t q)
SaysLast last (either p q) = last ≡ last_part (either p q)
SaysLast last (then p q) = last ≡ last_part (then p q)
SaysLast last (with_env p q) = last ≡ last_part (with_env p q)

-- a query of two parts, made so
abbrev pub OfTwo : (Query → Query → Query) → Query → Type 0
OfTwo make x = (p : Query) × (q : Query) × (x ≡ make p q)

-- a node tells which query it is
abbrev pub IsQuery : QueryNode → Query → Type 0
IsQuery (qn.Table n) x = x ≡ table n
IsQuery qn.It x = x ≡ it
IsQuery qn.Env x = x ≡ env
IsQuery (qn.Just k) x = (t : Ty) × (d : Data) × (x ≡ just t d) × (length (write_ty t) ≡ k)
IsQuery (qn.Two o) x = OfTwo (two (op_2 o)) x
IsQuery (qn.One u) x = (o : Op1) × (p : Query) × (x ≡ one o p) × IsOp1 u o
IsQuery qn.Each x = OfTwo each x
IsQuery qn.Keep x = OfTwo keep x
IsQuery qn.Product x = OfTwo product x
IsQuery (qn.Matched j k) x = (m : Name) × (n : Name) × (p : Query) × (q : Query) × (x ≡ matched m n p q) × (length m ≡ j) × (length n ≡ k)
IsQuery qn.Default x = OfTwo default x
IsQuery (qn.OnLeft k) x = (t : Ty) × (p : Query) × (x ≡ as_left t p) × (length (write_ty t) ≡ k)
IsQuery (qn.OnRight k) x = (t : Ty) × (p : Query) × (x ≡ as_right t p) × (length (write_ty t) ≡ k)
IsQuery qn.Either x = OfTwo either x
IsQuery qn.Then x = OfTwo then x
IsQuery qn.WithEnv x = OfTwo with_env x

-- whichever query stands in front, with the guide's number for it: which one it is, and where its first part begins
pub record Visited (xs : List ℕ) (last : ℕ) (r : Option Visit) : Type 0 where
  pub visits : (q : Query) (rest : List ℕ) → FitsQuery q → xs ≡ write_query q ++ rest → SaysLast last q → IsSomeAnd r (λ v. IsQuery v.node q × (v.first ≡ first_part q))
