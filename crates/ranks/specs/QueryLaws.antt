-- What is to be shown of queries, as a sort of thing with names in its heads.
use Rattle.std.proofs.Common.{◌≡◌, ℕ, suc, ◌+◌, ◌≤◌, List, [], ◌∷◌, ◌++◌, length, drop, sym, refl, ap, ◌∙◌, subst, arith, length-append}
use Rattle.std.proofs.lemmas.List.{append_assoc}
use Rattle.query.specs.Data.{Name}
use Rattle.query.specs.Query.{a_unit, a_num, a_truth, a_text, a_bag, a_rec, an_either, Tys, no_ty, ty, Op1, not_so, in_bag, flat, count, sum, distinct, dot, as_field, without, project, Ty, Query, table, it, env, just, two, one, each, keep, product, matched, default, as_left, as_right, either, then, with_env}
use Rattle.format.specs.Coding.{writes, AllFit}
use Rattle.format.specs.Wire.{FitsQuery, queries}
use Rattle.format.specs.Heads.{QueryHead, table_q, it_q, env_q, just_q, two_q, one_q, each_q, keep_q, product_q, matched_q, default_q, left_q, right_q, either_q, then_q, with_env_q, write_query_head, query_heads, query_arity}
use Rattle.format.specs.Reading.{ReadAs, Opened, Unopened}
use Rattle.format.specs.Nodes.{TellsQuery}
use Rattle.format.specs.declared.node.QueryNode.{QueryNode}
use Rattle.format.specs.Lists.{from, from_drop}
use Rattle.format.specs.Trees.{fits_append, writes_append}
use Rattle.format.specs.QueryLaws.{query_laws}
use Rattle.guide.proofs.Shapes.{parts}
use Rattle.guide.proofs.Heads.{head_of, head_fits, parts_many, head_written}
use Rattle.ranks.specs.Ranks.{Among, names_of}
use Rattle.ranks.specs.Known.{KnowsTy, KnowsTys, KnowsAll, Knows1, Knows, KnowsEach, HeadKnows, names_q, names_each, names_h, Kept, QueryHeadTaken}
use Rattle.ranks.specs.Naming.{QueriesTaken, NamedLaws}
use Rattle.ranks.specs.declared.names.Names.{Names}
use Rattle.ranks.specs.Placed.{read_same, read_next}
use Rattle.ranks.specs.TypeHeads.{all_in_more}
use Rattle.ranks.specs.Parts.{parts_told}

-- queries taken apart
pub query_names_are : (q : Query) → names_q q ≡ names_h (head_of q) + names_each (parts q)
unfolding names_q names_h names_each
query_names_are (table n) = refl
query_names_are it = refl
query_names_are env = refl
query_names_are (just t d) = omega arith
query_names_are (two o p q) = omega arith
query_names_are (one o q) = omega arith
query_names_are (each p q) = omega arith
query_names_are (keep p q) = omega arith
query_names_are (product p q) = omega arith
query_names_are (matched m n p q) = omega arith
query_names_are (default p q) = omega arith
query_names_are (as_left t q) = omega arith
query_names_are (as_right t q) = omega arith
query_names_are (either p q) = omega arith
query_names_are (then p q) = omega arith
query_names_are (with_env p q) = omega arith

pub query_known : (vs : List Name) (q : Query) → HeadKnows vs (head_of q) → KnowsEach vs (parts q) → Knows vs q
unfolding Knows HeadKnows KnowsEach
query_known vs (table n) a k = tt
query_known vs it a k = tt
query_known vs env a k = tt
query_known vs (just t d) a k = a
query_known vs (two o p q) a k = (k.0, k.1.0)
query_known vs (one o q) a k = (a, k.0)
query_known vs (each p q) a k = (k.0, k.1.0)
query_known vs (keep p q) a k = (k.0, k.1.0)
query_known vs (product p q) a k = (k.0, k.1.0)
query_known vs (matched m n p q) a k = (a, (k.0, k.1.0))
query_known vs (default p q) a k = (k.0, k.1.0)
query_known vs (as_left t q) a k = (a, k.0)
query_known vs (as_right t q) a k = (a, k.0)
query_known vs (either p q) a k = (k.0, k.1.0)
query_known vs (then p q) a k = (k.0, k.1.0)
query_known vs (with_env p q) a k = (k.0, k.1.0)

pub parts_fit : (q : Query) → FitsQuery q → AllFit queries (parts q)
unfolding FitsQuery
parts_fit (table n) f = tt
parts_fit it f = tt
parts_fit env f = tt
parts_fit (just t d) f = tt
parts_fit (two o p q) f = (f.0, (f.1, tt))
parts_fit (one o q) f = (f.1, tt)
parts_fit (each p q) f = (f.0, (f.1, tt))
parts_fit (keep p q) f = (f.0, (f.1, tt))
parts_fit (product p q) f = (f.0, (f.1, tt))
parts_fit (matched m n p q) f = (f.1.0, (f.1.1, tt))
parts_fit (default p q) f = (f.0, (f.1, tt))
parts_fit (as_left t q) f = (f.1, tt)
parts_fit (as_right t q) f = (f.1, tt)
parts_fit (either p q) f = (f.0, (f.1, tt))
parts_fit (then p q) f = (f.0, (f.1, tt))
parts_fit (with_env p q) f = (f.0, (f.1, tt))

names_append : (ts us : List Query) → names_each (ts ++ us) ≡ names_each ts + names_each us
unfolding names_each
names_append [] us = omega arith
names_append (t ∷ ts) us = let h = names_append ts us in omega arith

knows_append : (vs : List Name) (ts us : List Query) → KnowsEach vs (ts ++ us) → KnowsEach vs ts × KnowsEach vs us
unfolding KnowsEach
knows_append vs [] us k = (tt, k)
knows_append vs (t ∷ ts) us k = let r = knows_append vs ts us k.1 in ((k.0, r.0), r.1)

forest : (t : Query) (us : List Query) (rest : List ℕ) → writes queries (t ∷ us) ++ rest ≡ write_query_head (head_of t) ++ (writes queries (parts t ++ us) ++ rest)
forest t us rest =
    ap (λ (v : List ℕ). (v ++ writes queries us) ++ rest) (head_written t)
    ∙ (ap (λ (v : List ℕ). v ++ rest) (append_assoc (write_query_head (head_of t)) (writes queries (parts t)) (writes queries us) ∙ ap (λ (v : List ℕ). write_query_head (head_of t) ++ v) (sym (writes_append queries (parts t) us)))
    ∙ append_assoc (write_query_head (head_of t)) (writes queries (parts t ++ us)) rest)

mutual
  unfolding KnowsTy KnowsTys

  pub ty_more : (ns vs : List Name) → Among ns vs → (t : Ty) → KnowsTy ns t → KnowsTy vs t
  ty_more ns vs a a_unit k = tt
  ty_more ns vs a a_num k = tt
  ty_more ns vs a a_truth k = tt
  ty_more ns vs a a_text k = tt
  ty_more ns vs a (a_bag t) k = ty_more ns vs a t k
  ty_more ns vs a (a_rec ts) k = tys_more ns vs a ts k
  ty_more ns vs a (an_either t u) k = (ty_more ns vs a t k.0, ty_more ns vs a u k.1)

  tys_more : (ns vs : List Name) → Among ns vs → (ts : Tys) → KnowsTys ns ts → KnowsTys vs ts
  tys_more ns vs a no_ty k = tt
  tys_more ns vs a (ty n t ts) k = (a n k.0, ty_more ns vs a t k.1, tys_more ns vs a ts k.2)

pub all_more : (ns vs : List Name) → Among ns vs → (ts : List Ty) → KnowsAll ns ts → KnowsAll vs ts
unfolding KnowsAll
all_more ns vs a [] k = tt
all_more ns vs a (t ∷ ts) k = (ty_more ns vs a t k.0, all_more ns vs a ts k.1)

op_more : (ns vs : List Name) → Among ns vs → (o : Op1) → Knows1 ns o → Knows1 vs o
unfolding Knows1
op_more ns vs a not_so k = tt
op_more ns vs a in_bag k = tt
op_more ns vs a flat k = tt
op_more ns vs a count k = tt
op_more ns vs a sum k = tt
op_more ns vs a distinct k = tt
op_more ns vs a (dot n) k = a n k
op_more ns vs a (as_field n) k = a n k
op_more ns vs a (without n) k = a n k
op_more ns vs a (project ms) k = all_in_more ns vs a ms k

head_knows_more : (ns vs : List Name) → Among ns vs → (h : QueryHead) → HeadKnows ns h → HeadKnows vs h
unfolding HeadKnows
head_knows_more ns vs a (table_q n) k = tt
head_knows_more ns vs a it_q k = tt
head_knows_more ns vs a env_q k = tt
head_knows_more ns vs a (just_q t d) k = ty_more ns vs a t k
head_knows_more ns vs a (two_q o) k = tt
head_knows_more ns vs a (one_q o) k = op_more ns vs a o k
head_knows_more ns vs a each_q k = tt
head_knows_more ns vs a keep_q k = tt
head_knows_more ns vs a product_q k = tt
head_knows_more ns vs a (matched_q m n) k = (a m k.0, a n k.1)
head_knows_more ns vs a default_q k = tt
head_knows_more ns vs a (left_q t) k = ty_more ns vs a t k
head_knows_more ns vs a (right_q t) k = ty_more ns vs a t k
head_knows_more ns vs a either_q k = tt
head_knows_more ns vs a then_q k = tt
head_knows_more ns vs a with_env_q k = tt

module _ (xs : List ℕ) (v u w : Names) (at k kids e : ℕ) (node : QueryNode) (h : at ≤ length xs) (o : Opened queries (from at xs) kids e) (r : ReadAs query_heads (from at xs) e (TellsQuery node)) where
  query_step : Kept xs v u → QueryHeadTaken xs v u at node → Kept xs u w → QueriesTaken xs u w (at + e) (k + kids) → QueriesTaken xs v w at (suc k)
  unfolding names_each KnowsEach
  query_step kv ht ku run [] rest i f m q = absurd (omega arith)
  query_step kv ht ku run (t ∷ ts) rest i f m q =
      let q2 : drop at xs ≡ write_query_head (head_of t) ++ (writes queries (parts t ++ ts) ++ rest) = q ∙ forest t ts rest in
      let hf = head_fits t f.0 in
      let same : r.thing ≡ head_of t = read_same query_heads query_laws.one_way xs at e r.thing (head_of t) _ h hf q2 r.begins in
      let tk = ht (head_of t) _ i (subst (λ (z : QueryHead). TellsQuery node z) same r.says) hf q2 in
      let ar : kids ≡ length (parts t) = parts_told queries query_heads query_arity query_laws (from at xs) kids e r.thing r.begins o ∙ (ap query_arity same ∙ sym (parts_many t)) in
      let la = length-append (parts t) ts in
      let n = (read_next query_heads query_laws.one_way xs at e r.thing (head_of t) _ h hf q2 r.begins).rest in
      let go = run (parts t ++ ts) rest (kv.among [] i) (fits_append queries (parts t) ts (parts_fit t f.0) f.1) (omega arith) n in
      let nt = query_names_are t in
      let na = names_append (parts t) ts in
      let tf = tk.few in
      record {
        few = omega (arith, go.few);
        knows = λ b.
            let k2 = knows_append (names_of xs w) (parts t) ts (go.knows (omega arith)) in
            (query_known (names_of xs w) t (head_knows_more (names_of xs u) (names_of xs w) ku.among (head_of t) (tk.knows (omega arith))) k2.0, k2.1);
      }

query_stuck : (xs : List ℕ) (v : Names) (at k p : ℕ) → Unopened queries (from at xs) p → QueriesTaken xs v v at (suc k)
query_stuck xs v at k p s ts rest i f m q = absurd (s.closed k rest (record { things = ts; fits = f; many = m; is = from_drop at xs ∙ q }))

no_queries : (xs : List ℕ) (v : Names) (at : ℕ) → QueriesTaken xs v v at 0
unfolding names_each KnowsEach
no_queries xs v at [] rest i f m q = record { few = omega arith; knows = λ b. tt }
no_queries xs v at (t ∷ ts) rest i f m q = absurd (omega arith)

pub queries_named : NamedLaws queries (λ n xs e. ReadAs query_heads xs e (TellsQuery n)) QueryHeadTaken QueriesTaken
queries_named = record { step = query_step; stuck = query_stuck; none = no_queries }
