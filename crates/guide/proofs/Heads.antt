-- The head of a query, and what it is to have read a head where a query stands.
use Rattle.std.proofs.Common.{◌≡◌, ℕ, ◌+◌, ◌≤◌, List, [], ◌∷◌, ◌++◌, length, drop, sym, refl, ap, ◌∙◌, arith, length-append}
use Rattle.std.proofs.lemmas.List.{append_assoc, append-nil}
use Rattle.query.specs.Query.{Query, table, it, env, just, two, one, each, keep, product, matched, default, as_left, as_right, either, then, with_env}
use Rattle.format.specs.Coding.{le, name, writes}
use Rattle.format.specs.Wire.{write_ty, write_data, tag_2, write_1, write_query, FitsQuery, queries}
use Rattle.format.specs.Heads.{QueryHead, table_q, it_q, env_q, just_q, two_q, one_q, each_q, keep_q, product_q, matched_q, default_q, left_q, right_q, either_q, then_q, with_env_q, write_query_head, FitsQueryHead, query_heads, query_arity, first_query, second_query, build_query}
use Rattle.format.specs.Reading.{Begins, Stuck}
use Rattle.format.specs.Nodes.{TellsQuery}
use Rattle.format.specs.declared.node.QueryNode.{QueryNode}
use Rattle.format.specs.declared.node.QueryNode.TheVariants as qn
use Rattle.format.specs.Lists.{split_at}
use Rattle.format.proofs.Pairs.{written_length}
use Rattle.format.specs.QueryLaws.{query_laws}
use Rattle.guide.specs.Visits.{IsQuery}
use Rattle.guide.proofs.Shapes.{parts}

abbrev pub head_of : Query → QueryHead
head_of (table n) = table_q n
head_of it = it_q
head_of env = env_q
head_of (just t d) = just_q t d
head_of (two o p q) = two_q o
head_of (one o q) = one_q o
head_of (each p q) = each_q
head_of (keep p q) = keep_q
head_of (product p q) = product_q
head_of (matched m n p q) = matched_q m n
head_of (default p q) = default_q
head_of (as_left t q) = left_q t
head_of (as_right t q) = right_q t
head_of (either p q) = either_q
head_of (then p q) = then_q
head_of (with_env p q) = with_env_q

pub head_fits : (q : Query) → FitsQuery q → FitsQueryHead (head_of q)
unfolding FitsQuery FitsQueryHead
head_fits (table n) f = f
head_fits it f = tt
head_fits env f = tt
head_fits (just t d) f = f
head_fits (two o p q) f = tt
head_fits (one o q) f = f.0
head_fits (each p q) f = tt
head_fits (keep p q) f = tt
head_fits (product p q) f = tt
head_fits (matched m n p q) f = f.0
head_fits (default p q) f = tt
head_fits (as_left t q) f = f.0
head_fits (as_right t q) f = f.0
head_fits (either p q) f = tt
head_fits (then p q) f = tt
head_fits (with_env p q) f = tt

pub parts_many : (q : Query) → length (parts q) ≡ query_arity (head_of q)
unfolding query_arity
parts_many (table n) = refl
parts_many it = refl
parts_many env = refl
parts_many (just t d) = refl
parts_many (two o p q) = refl
parts_many (one o q) = refl
parts_many (each p q) = refl
parts_many (keep p q) = refl
parts_many (product p q) = refl
parts_many (matched m n p q) = refl
parts_many (default p q) = refl
parts_many (as_left t q) = refl
parts_many (as_right t q) = refl
parts_many (either p q) = refl
parts_many (then p q) = refl
parts_many (with_env p q) = refl

-- a query is built of its head and its parts, and written so
pub built : (q : Query) → q ≡ build_query (head_of q) (parts q)
unfolding build_query first_query second_query
built (table n) = refl
built it = refl
built env = refl
built (just t d) = refl
built (two o p q) = refl
built (one o q) = refl
built (each p q) = refl
built (keep p q) = refl
built (product p q) = refl
built (matched m n p q) = refl
built (default p q) = refl
built (as_left t q) = refl
built (as_right t q) = refl
built (either p q) = refl
built (then p q) = refl
built (with_env p q) = refl

pub head_written : (q : Query) → write_query q ≡ write_query_head (head_of q) ++ writes queries (parts q)
unfolding write_query write_query_head
head_written (table n) = sym (append-nil (0 ∷ le 4 n))
head_written it = sym (append-nil (1 ∷ []))
head_written env = sym (append-nil (2 ∷ []))
head_written (just t d) = sym (append-nil (3 ∷ (write_ty t ++ write_data d)))
head_written (two o p q) = ap (λ (v : List ℕ). tag_2 o ∷ (write_query p ++ v)) (sym (append-nil (write_query q)))
head_written (one o q) = ap (λ (v : List ℕ). write_1 o ++ v) (sym (append-nil (write_query q)))
head_written (each p q) = ap (λ (v : List ℕ). 22 ∷ (write_query p ++ v)) (sym (append-nil (write_query q)))
head_written (keep p q) = ap (λ (v : List ℕ). 23 ∷ (write_query p ++ v)) (sym (append-nil (write_query q)))
head_written (product p q) = ap (λ (v : List ℕ). 24 ∷ (write_query p ++ v)) (sym (append-nil (write_query q)))
head_written (matched m n p q) = ap (λ (v : List ℕ). 25 ∷ ((name.write m ++ name.write n) ++ (write_query p ++ v))) (sym (append-nil (write_query q)))
head_written (default p q) = ap (λ (v : List ℕ). 26 ∷ (write_query p ++ v)) (sym (append-nil (write_query q)))
head_written (as_left t q) = ap (λ (v : List ℕ). 27 ∷ (write_ty t ++ v)) (sym (append-nil (write_query q)))
head_written (as_right t q) = ap (λ (v : List ℕ). 28 ∷ (write_ty t ++ v)) (sym (append-nil (write_query q)))
head_written (either p q) = ap (λ (v : List ℕ). 29 ∷ (write_query p ++ v)) (sym (append-nil (write_query q)))
head_written (then p q) = ap (λ (v : List ℕ). 30 ∷ (write_query p ++ v)) (sym (append-nil (write_query q)))
head_written (with_env p q) = ap (λ (v : List ℕ). 31 ∷ (write_query p ++ v)) (sym (append-nil (write_query q)))

pub in_bytes : (q : Query) (xs rest : List ℕ) → xs ≡ write_query q ++ rest → xs ≡ write_query_head (head_of q) ++ (writes queries (parts q) ++ rest)
in_bytes q xs rest e = e ∙ ap (λ (v : List ℕ). v ++ rest) (head_written q) ∙ append_assoc (write_query_head (head_of q)) (writes queries (parts q)) rest

-- the head that was read is that of the query, whose parts come next
pub record Found (xs : List ℕ) (e : ℕ) (h : QueryHead) (q : Query) (rest : List ℕ) : Type 0 where
  pub same : h ≡ head_of q
  pub after : drop e xs ≡ writes queries (parts q) ++ rest
  pub long : length (write_query q) ≡ e + length (writes queries (parts q))

pub found : (xs : List ℕ) (e : ℕ) (h : QueryHead) (q : Query) (rest : List ℕ) → Begins query_heads xs e h → FitsQuery q → xs ≡ write_query q ++ rest → Found xs e h q rest
found xs e h q rest b f i =
    let r : write_query_head h ++ drop e xs ≡ write_query_head (head_of q) ++ (writes queries (parts q) ++ rest) = sym (split_at e xs (write_query_head h) b.is) ∙ in_bytes q xs rest i in
    let w = query_laws.one_way h (head_of q) _ _ b.fits (head_fits q f) r in
    let l : length (write_query_head (head_of q)) ≡ e = ap (λ (v : QueryHead). length (write_query_head v)) (sym w.0) ∙ written_length query_heads xs e h b in
    record {
      same = w.0;
      after = w.1;
      long = ap length (head_written q) ∙ length-append (write_query_head (head_of q)) (writes queries (parts q)) ∙ ap (λ (v : ℕ). v + length (writes queries (parts q))) l;
    }

-- no head, no query
pub no_head : (xs : List ℕ) (p : ℕ) (q : Query) (rest : List ℕ) → Stuck query_heads xs p → FitsQuery q → xs ≡ write_query q ++ rest → ⊥
no_head xs p q rest t f i = t.absent (head_of q) (writes queries (parts q) ++ rest) (head_fits q f) (in_bytes q xs rest i)

-- one part and two
pub one_of : (qs : List Query) → length qs ≡ 1 → (p : Query) × (qs ≡ p ∷ [])
one_of [] e = absurd (omega (arith, e))
one_of (p ∷ []) e = (p, refl)
one_of (p ∷ q ∷ qs) e = absurd (omega (arith, e))

pub two_of : (qs : List Query) → length qs ≡ 2 → (p : Query) × (q : Query) × (qs ≡ p ∷ q ∷ [])
two_of [] e = absurd (omega (arith, e))
two_of (p ∷ []) e = absurd (omega (arith, e))
two_of (p ∷ q ∷ []) e = (p, q, refl)
two_of (p ∷ q ∷ r ∷ qs) e = absurd (omega (arith, e))

pub few_parts : (q : Query) → length (parts q) ≤ 2
few_parts (table n) = omega arith
few_parts it = omega arith
few_parts env = omega arith
few_parts (just t d) = omega arith
few_parts (two o p q) = omega arith
few_parts (one o q) = omega arith
few_parts (each p q) = omega arith
few_parts (keep p q) = omega arith
few_parts (product p q) = omega arith
few_parts (matched m n p q) = omega arith
few_parts (default p q) = omega arith
few_parts (as_left t q) = omega arith
few_parts (as_right t q) = omega arith
few_parts (either p q) = omega arith
few_parts (then p q) = omega arith
few_parts (with_env p q) = omega arith

pub from_head : (q : Query) (h : QueryHead) → head_of q ≡ h → q ≡ build_query h (parts q)
from_head q h e = built q ∙ ap (λ (v : QueryHead). build_query v (parts q)) e

-- what a node tells of a head it tells of the query
pub is_query : (node : QueryNode) (q : Query) → TellsQuery node (head_of q) → IsQuery node q
unfolding build_query
is_query (qn.Table n) q e = from_head q _ e
is_query qn.It q e = from_head q _ e
is_query qn.Env q e = from_head q _ e
is_query (qn.Just k) q e = (e.0, e.1, from_head q _ e.2, e.3)
is_query (qn.Two o) q e = (first_query (parts q), second_query (parts q), from_head q _ e)
is_query (qn.One u) q e = (e.0, first_query (parts q), from_head q _ e.1, e.2)
is_query qn.Each q e = (first_query (parts q), second_query (parts q), from_head q _ e)
is_query qn.Keep q e = (first_query (parts q), second_query (parts q), from_head q _ e)
is_query qn.Product q e = (first_query (parts q), second_query (parts q), from_head q _ e)
is_query (qn.Matched j k) q e = (e.0, e.1, first_query (parts q), second_query (parts q), from_head q _ e.2, e.3, e.4)
is_query qn.Default q e = (first_query (parts q), second_query (parts q), from_head q _ e)
is_query (qn.OnLeft k) q e = (e.0, first_query (parts q), from_head q _ e.1, e.2)
is_query (qn.OnRight k) q e = (e.0, first_query (parts q), from_head q _ e.1, e.2)
is_query qn.Either q e = (first_query (parts q), second_query (parts q), from_head q _ e)
is_query qn.Then q e = (first_query (parts q), second_query (parts q), from_head q _ e)
is_query qn.WithEnv q e = (first_query (parts q), second_query (parts q), from_head q _ e)
