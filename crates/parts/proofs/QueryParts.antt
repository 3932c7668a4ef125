-- What a query counts, from its head and the queries after it.
use Rattle.std.proofs.Common.{◌≡◌, true, ℕ, suc, ◌+◌, ◌⊎◌, inl, inr, List, [], ◌∷◌, ◌++◌, length, Some, None, Option, sym, refl, ap, ◌∙◌, subst, ap₂, arith}
use Rattle.query.specs.Query.{Op1, Query}
use Rattle.query.specs.Size.{size_d, size_t, size_1, size_q, sizes}
use Rattle.format.specs.Coding.{name, counted}
use Rattle.format.specs.Wire.{write_names, write_ty, write_data, write_1, Fits1, types, queries}
use Rattle.format.specs.Heads.{first_query, second_query, QueryHead, table_q, it_q, env_q, just_q, two_q, one_q, each_q, keep_q, product_q, matched_q, default_q, left_q, right_q, either_q, then_q, with_env_q, write_query_head, FitsQueryHead, query_heads, query_arity, build_query}
use Rattle.format.specs.Nodes.{IsOp1, TellsQuery}
use Rattle.format.specs.declared.node.Unary.{Unary}
use Rattle.format.specs.declared.node.Unary.TheVariants as uo
use Rattle.format.specs.declared.node.QueryNode.{QueryNode}
use Rattle.format.specs.declared.node.QueryNode.TheVariants as qn
use Rattle.parts.specs.Counts.{total}
use Rattle.parts.specs.Heads.{operators, written_out, written_size, own_q, Weighs, Weighed}
use Rattle.parts.proofs.Fronts.{Weights, asks_nothing}
use Rattle.parts.proofs.Aparts.{query_parted}
use Rattle.parts.proofs.Walk.{total_none}
use Rattle.parts.proofs.Owns.{tail_of, weighed_as, Holds}

one_size : (qs : List Query) → length qs ≡ 1 → size_q (first_query qs) ≡ total size_q qs
unfolding first_query
one_size [] e = absurd (omega (arith, e))
one_size (q ∷ qs) e = omega (arith, total_none size_q qs (omega (arith, e)))

two_size : (qs : List Query) → length qs ≡ 2 → size_q (first_query qs) + size_q (second_query qs) ≡ total size_q qs
unfolding first_query second_query
two_size [] e = absurd (omega (arith, e))
two_size (q ∷ qs) e = omega (arith, one_size qs (omega (arith, e)))

pub query_sizing : (h : QueryHead) (qs : List Query) → length qs ≡ query_arity h → size_q (build_query h qs) ≡ suc (own_q h + total size_q qs)
unfolding size_q own_q build_query query_arity
query_sizing (table_q n) qs e = omega (arith, total_none size_q qs e)
query_sizing it_q qs e = omega (arith, total_none size_q qs e)
query_sizing env_q qs e = omega (arith, total_none size_q qs e)
query_sizing (just_q t d) qs e = omega (arith, total_none size_q qs e)
query_sizing (two_q o) qs e = omega (arith, two_size qs e)
query_sizing (one_q o) qs e = omega (arith, one_size qs e)
query_sizing each_q qs e = omega (arith, two_size qs e)
query_sizing keep_q qs e = omega (arith, two_size qs e)
query_sizing product_q qs e = omega (arith, two_size qs e)
query_sizing (matched_q m n) qs e = omega (arith, two_size qs e)
query_sizing default_q qs e = omega (arith, two_size qs e)
query_sizing (left_q t) qs e = omega (arith, one_size qs e)
query_sizing (right_q t) qs e = omega (arith, one_size qs e)
query_sizing either_q qs e = omega (arith, two_size qs e)
query_sizing then_q qs e = omega (arith, two_size qs e)
query_sizing with_env_q qs e = omega (arith, two_size qs e)

abbrev pub query_weights : Weights
query_weights = record { S = queries; H = query_heads; arity = query_arity; build = build_query; parted = query_parted; size = size_q; own = own_q; holds = (λ _. true); good = (λ _. true); sizing = query_sizing; holding = (λ h us e. asks_nothing us) }

-- operators on one thing
size_dot : (n : ℕ) (o : Op1) → IsOp1 (uo.Dot n) o → size_1 o ≡ suc n
unfolding size_1
size_dot n o s = ap size_1 s.1 ∙ ap suc s.2

size_field : (n : ℕ) (o : Op1) → IsOp1 (uo.AsField n) o → size_1 o ≡ suc n
unfolding size_1
size_field n o s = ap size_1 s.1 ∙ ap suc s.2

size_without : (n : ℕ) (o : Op1) → IsOp1 (uo.Without n) o → size_1 o ≡ suc n
unfolding size_1
size_without n o s = ap size_1 s.1 ∙ ap suc s.2

size_plain : (op : Unary) (o : Op1) → ((n : ℕ) → op ≡ uo.Dot n → ⊥) → ((n : ℕ) → op ≡ uo.AsField n → ⊥) → ((n : ℕ) → op ≡ uo.Without n → ⊥) → ((n : ℕ) → op ≡ uo.Only n → ⊥) → IsOp1 op o → size_1 o ≡ 1
unfolding size_1
size_plain uo.Not o a b c d s = ap size_1 s
size_plain uo.InBag o a b c d s = ap size_1 s
size_plain uo.Flat o a b c d s = ap size_1 s
size_plain uo.Count o a b c d s = ap size_1 s
size_plain uo.Sum o a b c d s = ap size_1 s
size_plain uo.Distinct o a b c d s = ap size_1 s
size_plain (uo.Dot n) o a b c d s = absurd (a n refl)
size_plain (uo.AsField n) o a b c d s = absurd (b n refl)
size_plain (uo.Without n) o a b c d s = absurd (c n refl)
size_plain (uo.Only n) o a b c d s = absurd (d n refl)

module _ (limit : ℕ) (xs : List ℕ) (op : Unary) where
  pub unary_named : (n : ℕ) (r : Option ℕ) → (op ≡ uo.Dot n) ⊎ (op ≡ uo.AsField n) ⊎ (op ≡ uo.Without n) → Weighs limit (suc n) r → Weighed operators IsOp1 size_1 limit xs op r
  unary_named n r e w = weighed_as operators IsOp1 size_1 limit xs op (suc n) r (by_name e) w
    where
      by_name : (op ≡ uo.Dot n) ⊎ (op ≡ uo.AsField n) ⊎ (op ≡ uo.Without n) → (o : Op1) → IsOp1 op o → size_1 o ≡ suc n
      by_name (inl e) o s = size_dot n o (subst (λ (v : Unary). IsOp1 v o) e s)
      by_name (inr (inl e)) o s = size_field n o (subst (λ (v : Unary). IsOp1 v o) e s)
      by_name (inr (inr e)) o s = size_without n o (subst (λ (v : Unary). IsOp1 v o) e s)

  pub unary_plain : (r : Option ℕ) → ((n : ℕ) → op ≡ uo.Dot n → ⊥) → ((n : ℕ) → op ≡ uo.AsField n → ⊥) → ((n : ℕ) → op ≡ uo.Without n → ⊥) → ((n : ℕ) → op ≡ uo.Only n → ⊥) → Weighs limit 1 r → Weighed operators IsOp1 size_1 limit xs op r
  unary_plain r a b c d w = weighed_as operators IsOp1 size_1 limit xs op 1 r (λ o s. size_plain op o a b c d s) w

  pub unary_names : (k : ℕ) → op ≡ uo.Only k → Holds operators IsOp1 size_1 limit xs op (counted name) sizes 1
  unfolding size_1 Fits1 write_1
  unary_names k e o t rest f s q =
      let s' = subst (λ (v : Unary). IsOp1 v o) e s in
      let ns = s'.0 in
      let p : t ∷ xs ≡ 21 ∷ (write_names ns ++ rest) = subst (λ (v : Op1). t ∷ xs ≡ write_1 v ++ rest) s'.1 q in
      record { thing = ns; fits = subst Fits1 s'.1 f; is = tail_of t 21 xs (write_names ns ++ rest) p; own_is = ap size_1 s'.1 ∙ (let z : suc (sizes ns) ≡ 1 + sizes ns = omega arith in z) }

  pub unary_none : (k : ℕ) → op ≡ uo.Only k → limit ≡ 0 → Weighed operators IsOp1 size_1 limit xs op None
  unfolding size_1
  unary_none k e z = record { weighs = λ o t rest f s q. let s' = subst (λ (v : Unary). IsOp1 v o) e s in omega (arith, ap size_1 s'.1); bounded = tt }

-- heads of queries
own_of_rest : (node : QueryNode) (h : QueryHead) → ((n : ℕ) → node ≡ qn.Just n → ⊥) → ((o : Unary) → node ≡ qn.One o → ⊥) → ((m n : ℕ) → node ≡ qn.Matched m n → ⊥) → ((n : ℕ) → node ≡ qn.OnLeft n → ⊥) → ((n : ℕ) → node ≡ qn.OnRight n → ⊥)
    → TellsQuery node h → own_q h ≡ 0
unfolding own_q
own_of_rest (qn.Table n) h a b c d e s = ap own_q s
own_of_rest qn.It h a b c d e s = ap own_q s
own_of_rest qn.Env h a b c d e s = ap own_q s
own_of_rest (qn.Just n) h a b c d e s = absurd (a n refl)
own_of_rest (qn.Two o) h a b c d e s = ap own_q s
own_of_rest (qn.One o) h a b c d e s = absurd (b o refl)
own_of_rest qn.Each h a b c d e s = ap own_q s
own_of_rest qn.Keep h a b c d e s = ap own_q s
own_of_rest qn.Product h a b c d e s = ap own_q s
own_of_rest (qn.Matched m n) h a b c d e s = absurd (c m n refl)
own_of_rest qn.Default h a b c d e s = ap own_q s
own_of_rest (qn.OnLeft n) h a b c d e s = absurd (d n refl)
own_of_rest (qn.OnRight n) h a b c d e s = absurd (e n refl)
own_of_rest qn.Either h a b c d e s = ap own_q s
own_of_rest qn.Then h a b c d e s = ap own_q s
own_of_rest qn.WithEnv h a b c d e s = ap own_q s

own_of_matched : (m n : ℕ) (h : QueryHead) → TellsQuery (qn.Matched m n) h → own_q h ≡ m + n
unfolding own_q
own_of_matched m n h s = ap own_q s.2 ∙ ap₂ (λ (i : ℕ) (j : ℕ). i + j) s.3 s.4

module _ (limit : ℕ) (xs : List ℕ) (node : QueryNode) where
  told : (v : QueryNode) (h : QueryHead) → node ≡ v → TellsQuery node h → TellsQuery v h
  told v h e s = subst (λ (w : QueryNode). TellsQuery w h) e s

  pub own_nothing : ((n : ℕ) → node ≡ qn.Just n → ⊥) → ((o : Unary) → node ≡ qn.One o → ⊥) → ((m n : ℕ) → node ≡ qn.Matched m n → ⊥) → ((n : ℕ) → node ≡ qn.OnLeft n → ⊥) → ((n : ℕ) → node ≡ qn.OnRight n → ⊥)
      → Weighed query_heads TellsQuery own_q limit xs node (Some 0)
  own_nothing a b c d e = weighed_as query_heads TellsQuery own_q limit xs node 0 (Some 0) (λ h s. own_of_rest node h a b c d e s) (refl, omega arith)

  pub own_matched : (m n : ℕ) (r : Option ℕ) → node ≡ qn.Matched m n → Weighs limit (m + n) r → Weighed query_heads TellsQuery own_q limit xs node r
  own_matched m n r e w = weighed_as query_heads TellsQuery own_q limit xs node (m + n) r (λ h s. own_of_matched m n h (told (qn.Matched m n) h e s)) w

  pub own_unary : (op : Unary) (r : Option ℕ) → node ≡ qn.One op → Weighed operators IsOp1 size_1 limit xs op r → Weighed query_heads TellsQuery own_q limit xs node r
  unfolding own_q FitsQueryHead write_query_head
  own_unary op r e w =
      record {
        weighs = λ h t rest f s q.
            let s' = told (qn.One op) h e s in
            subst (λ (v : ℕ). Weighs limit v r) (sym (ap own_q s'.1)) (w.weighs s'.0 t rest (subst FitsQueryHead s'.1 f) s'.2 (q ∙ ap (λ (v : QueryHead). write_query_head v ++ rest) s'.1));
        bounded = w.bounded;
      }

  own_left : (k : ℕ) → node ≡ qn.OnLeft k → Holds query_heads TellsQuery own_q limit xs node types size_t 0
  unfolding own_q FitsQueryHead write_query_head
  own_left k e h t rest f s q =
      let s' = told (qn.OnLeft k) h e s in
      let u = s'.0 in
      let p : t ∷ xs ≡ 27 ∷ (write_ty u ++ rest) = subst (λ (v : QueryHead). t ∷ xs ≡ write_query_head v ++ rest) s'.1 q in
      record { thing = u; fits = subst FitsQueryHead s'.1 f; is = tail_of t 27 xs (write_ty u ++ rest) p; own_is = ap own_q s'.1 ∙ (let z : size_t u ≡ 0 + size_t u = omega arith in z) }

  own_right : (k : ℕ) → node ≡ qn.OnRight k → Holds query_heads TellsQuery own_q limit xs node types size_t 0
  unfolding own_q FitsQueryHead write_query_head
  own_right k e h t rest f s q =
      let s' = told (qn.OnRight k) h e s in
      let u = s'.0 in
      let p : t ∷ xs ≡ 28 ∷ (write_ty u ++ rest) = subst (λ (v : QueryHead). t ∷ xs ≡ write_query_head v ++ rest) s'.1 q in
      record { thing = u; fits = subst FitsQueryHead s'.1 f; is = tail_of t 28 xs (write_ty u ++ rest) p; own_is = ap own_q s'.1 ∙ (let z : size_t u ≡ 0 + size_t u = omega arith in z) }

  pub own_side : ((k : ℕ) × (node ≡ qn.OnLeft k)) ⊎ ((k : ℕ) × (node ≡ qn.OnRight k)) → Holds query_heads TellsQuery own_q limit xs node types size_t 0
  own_side (inl e) = own_left e.0 e.1
  own_side (inr e) = own_right e.0 e.1

  pub own_just : (k : ℕ) → node ≡ qn.Just k → Holds query_heads TellsQuery own_q limit xs node written_out written_size 0
  unfolding own_q FitsQueryHead write_query_head
  own_just k e h t rest f s q =
      let s' = told (qn.Just k) h e s in
      let u = s'.0 in
      let d = s'.1 in
      let p : t ∷ xs ≡ 3 ∷ ((write_ty u ++ write_data d) ++ rest) = subst (λ (v : QueryHead). t ∷ xs ≡ write_query_head v ++ rest) s'.2 q in
      record { thing = (u, d); fits = subst FitsQueryHead s'.2 f; is = tail_of t 3 xs ((write_ty u ++ write_data d) ++ rest) p; own_is = ap own_q s'.2 ∙ (let z : size_t u + size_d d ≡ 0 + (size_t u + size_d d) = omega arith in z) }
