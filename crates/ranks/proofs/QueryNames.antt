-- The names of queries, gathered head by head.
use Rattle.std.proofs.Common.{◌≡◌, ℕ, suc, ◌+◌, ◌≤◌, ◌⊎◌, inl, inr, List, [], ◌∷◌, ◌++◌, length, take, drop, sym, refl, ap, ◌∙◌, subst, ap₂, arith, length-append}
use Rattle.std.proofs.lemmas.List.{append_assoc, append-nil}
use Rattle.query.specs.Data.{Name, Data}
use Rattle.query.specs.Query.{Op1, dot, as_field, without, project, Ty}
use Rattle.format.specs.Coding.{le, name, writes}
use Rattle.format.specs.Wire.{write_ty, write_data, types, write_1, Fits1, write_query}
use Rattle.format.specs.Heads.{QueryHead, just_q, one_q, matched_q, left_q, right_q, write_query_head, FitsQueryHead}
use Rattle.format.specs.Nodes.{TellsQuery, IsOp1}
use Rattle.format.specs.declared.node.QueryNode.{QueryNode}
use Rattle.format.specs.declared.node.QueryNode.TheVariants as qn
use Rattle.format.specs.declared.node.Unary.{Unary}
use Rattle.format.specs.declared.node.Unary.TheVariants as uo
use Rattle.format.specs.Bytes.{length_le}
use Rattle.ranks.specs.Ranks.{In, names_of, Listed, Put}
use Rattle.ranks.specs.Known.{AllIn, KnowsTy, KnowsAll, Knows1, Knows, KnowsEach, HeadKnows, names_t, names_all, names_1, names_q, names_each, names_h, Took, Named, NamesTaken, TypesTaken, OpTaken, QueryHeadTaken, QueryTaken}
use Rattle.ranks.specs.Naming.{QueriesTaken}
use Rattle.ranks.specs.declared.names.Names.{Names}
use Rattle.ranks.specs.Placed.{after_front, front_within, name_bytes}
use Rattle.ranks.proofs.Gathers.{kept_none, kept_put}

-- a name
module _ (xs : List ℕ) (v u : Names) (at n : ℕ) (h : at ≤ length xs) where
  short_name : (m : Name) (rest : List ℕ) → length m ≡ n → drop at xs ≡ name.write m ++ rest → at + (4 + n) ≤ length xs
  short_name m rest e q = omega (arith, front_within xs (name.write m) rest at h q, length-append (le 4 (length m)) m, length_le 4 (length m))

  pub named_none : Listed xs v → (at + (4 + n) ≤ length xs → ⊥) → Named xs v v at n at
  named_none l s = record {
    within = h;
    kept = kept_none xs v l;
    ends = λ m rest f e q. absurd (s (short_name m rest e q));
    taken = λ m rest f e q. absurd (s (short_name m rest e q));
    short = λ m rest f e q i. absurd (s (short_name m rest e q));
  }

  pub named_put : at + (4 + n) ≤ length xs → Put xs v u (take n (drop (at + 4) xs)) → Named xs v u at n (at + (4 + n))
  named_put l p = record {
    within = l;
    kept = kept_put xs v u _ p;
    ends = λ m rest f e q. refl;
    taken = λ m rest f e q. record { few = p.few; knows = λ o. subst (λ (z : Name). In (names_of xs u) z) (is m rest e q) (p.there (omega arith)) };
    short = λ m rest f e q i. by m rest e q i (is m rest e q);
  }
    where
      is : (m : Name) (rest : List ℕ) → length m ≡ n → drop at xs ≡ name.write m ++ rest → take n (drop (at + 4) xs) ≡ m
      is m rest e q = ap (λ z. take z (drop (at + 4) xs)) (sym e) ∙ name_bytes xs rest at m q

      by : (m : Name) (rest : List ℕ) → length m ≡ n → drop at xs ≡ name.write m ++ rest → In (names_of xs v) [] → take n (drop (at + 4) xs) ≡ m → Took xs v u (length m) (λ ns. In ns m)
      by [] rest e q i b = record { few = omega (arith, p.same (subst (λ (z : Name). In (names_of xs v) z) (sym b) i)); knows = λ o. p.among [] i }
      by (x ∷ m) rest e q i b = record { few = omega (arith, p.few); knows = λ o. subst (λ (z : Name). In (names_of xs u) z) b (p.there (omega arith)) }

-- after a tag
tag_front : (xs w rest : List ℕ) (t at : ℕ) → drop at xs ≡ (t ∷ w) ++ rest → drop (at + 1) xs ≡ w ++ rest
tag_front xs w rest t at q = after_front xs (t ∷ []) (w ++ rest) at q

took_as : (xs : List ℕ) (v u : Names) (w z : ℕ) (K L : List Name → Type 0) → w ≡ z → ((ns : List Name) → K ns → L ns) → Took xs v u w K → Took xs v u z L
took_as xs v u w z K L e f t = record { few = omega (arith, t.few); knows = λ o. f (names_of xs u) (t.knows (omega arith)) }

took_none : (xs : List ℕ) (v : Names) (w : ℕ) (K : List Name → Type 0) → ((ns : List Name) → K ns) → Took xs v v w K
took_none xs v w K f = record { few = omega arith; knows = λ o. f (names_of xs v) }

-- operators of one
op_known : (k : Unary) → ((n : ℕ) → k ≡ uo.Dot n → ⊥) → ((n : ℕ) → k ≡ uo.AsField n → ⊥) → ((n : ℕ) → k ≡ uo.Without n → ⊥) → ((n : ℕ) → k ≡ uo.Only n → ⊥) → (o : Op1) → IsOp1 k o → (ns : List Name) → Knows1 ns o
unfolding Knows1
op_known uo.Not d a w l o e ns = subst (λ (z : Op1). Knows1 ns z) (sym e) tt
op_known uo.InBag d a w l o e ns = subst (λ (z : Op1). Knows1 ns z) (sym e) tt
op_known uo.Flat d a w l o e ns = subst (λ (z : Op1). Knows1 ns z) (sym e) tt
op_known uo.Count d a w l o e ns = subst (λ (z : Op1). Knows1 ns z) (sym e) tt
op_known uo.Sum d a w l o e ns = subst (λ (z : Op1). Knows1 ns z) (sym e) tt
op_known uo.Distinct d a w l o e ns = subst (λ (z : Op1). Knows1 ns z) (sym e) tt
op_known (uo.Dot n) d a w l o e ns = absurd (d n refl)
op_known (uo.AsField n) d a w l o e ns = absurd (a n refl)
op_known (uo.Without n) d a w l o e ns = absurd (w n refl)
op_known (uo.Only n) d a w l o e ns = absurd (l n refl)

-- an operator with no names
pub op_plain : (xs : List ℕ) (v : Names) (at : ℕ) (k : Unary) → ((n : ℕ) → k ≡ uo.Dot n → ⊥) → ((n : ℕ) → k ≡ uo.AsField n → ⊥) → ((n : ℕ) → k ≡ uo.Without n → ⊥) → ((n : ℕ) → k ≡ uo.Only n → ⊥) → OpTaken xs v v at k
op_plain xs v at k d a w l o rest t g q = took_none xs v (names_1 o) (λ ns. Knows1 ns o) (op_known k d a w l o t)

-- an operator with one name
dot_taken : (xs : List ℕ) (v u : Names) (at n r : ℕ) (k : Unary) → k ≡ uo.Dot n → Named xs v u (at + 1) n r → OpTaken xs v u at k
unfolding names_1 Knows1 write_1 Fits1
dot_taken xs v u at n r k e g o rest t f q = go (subst (λ (z : Unary). IsOp1 z o) e t)
  where
    go : (m : Name) × (o ≡ dot m) × (length m ≡ n) → Took xs v u (names_1 o) (λ ns. Knows1 ns o)
    go t =
        let m = t.0 in
        let s = g.taken m rest (subst (λ (z : Op1). Fits1 z) t.1 f) t.2 (tag_front xs (name.write m) rest 18 at (q ∙ ap (λ (z : Op1). write_1 z ++ rest) t.1)) in
        subst (λ (z : Op1). Took xs v u (names_1 z) (λ ns. Knows1 ns z)) (sym t.1) s

as_field_taken : (xs : List ℕ) (v u : Names) (at n r : ℕ) (k : Unary) → k ≡ uo.AsField n → Named xs v u (at + 1) n r → OpTaken xs v u at k
unfolding names_1 Knows1 write_1 Fits1
as_field_taken xs v u at n r k e g o rest t f q = go (subst (λ (z : Unary). IsOp1 z o) e t)
  where
    go : (m : Name) × (o ≡ as_field m) × (length m ≡ n) → Took xs v u (names_1 o) (λ ns. Knows1 ns o)
    go t =
        let m = t.0 in
        let s = g.taken m rest (subst (λ (z : Op1). Fits1 z) t.1 f) t.2 (tag_front xs (name.write m) rest 19 at (q ∙ ap (λ (z : Op1). write_1 z ++ rest) t.1)) in
        subst (λ (z : Op1). Took xs v u (names_1 z) (λ ns. Knows1 ns z)) (sym t.1) s

without_taken : (xs : List ℕ) (v u : Names) (at n r : ℕ) (k : Unary) → k ≡ uo.Without n → Named xs v u (at + 1) n r → OpTaken xs v u at k
unfolding names_1 Knows1 write_1 Fits1
without_taken xs v u at n r k e g o rest t f q = go (subst (λ (z : Unary). IsOp1 z o) e t)
  where
    go : (m : Name) × (o ≡ without m) × (length m ≡ n) → Took xs v u (names_1 o) (λ ns. Knows1 ns o)
    go t =
        let m = t.0 in
        let s = g.taken m rest (subst (λ (z : Op1). Fits1 z) t.1 f) t.2 (tag_front xs (name.write m) rest 20 at (q ∙ ap (λ (z : Op1). write_1 z ++ rest) t.1)) in
        subst (λ (z : Op1). Took xs v u (names_1 z) (λ ns. Knows1 ns z)) (sym t.1) s

pub by_name_taken : (xs : List ℕ) (v u : Names) (at n r : ℕ) (k : Unary) → (k ≡ uo.Dot n) ⊎ ((k ≡ uo.AsField n) ⊎ (k ≡ uo.Without n)) → Named xs v u (at + 1) n r → OpTaken xs v u at k
by_name_taken xs v u at n r k (inl e) g = dot_taken xs v u at n r k e g
by_name_taken xs v u at n r k (inr (inl e)) g = as_field_taken xs v u at n r k e g
by_name_taken xs v u at n r k (inr (inr e)) g = without_taken xs v u at n r k e g

only_front : (xs : List ℕ) (at : ℕ) (ms : List Name) (rest : List ℕ) → drop at xs ≡ write_1 (project ms) ++ rest → drop (at + 5) xs ≡ writes name ms ++ rest
unfolding write_1
only_front xs at ms rest q =
    let w = 21 ∷ le 4 (length ms) in
    let r : drop at xs ≡ w ++ (writes name ms ++ rest) = q ∙ ap (λ (z : List ℕ). 21 ∷ z) (append_assoc (le 4 (length ms)) (writes name ms) rest) in
    ap (λ k. drop (at + suc k) xs) (sym (length_le 4 (length ms))) ∙ after_front xs w (writes name ms ++ rest) at r

only_long : (xs : List ℕ) (at : ℕ) (ms : List Name) (rest : List ℕ) → at ≤ length xs → drop at xs ≡ write_1 (project ms) ++ rest → at + 5 ≤ length xs
unfolding write_1
only_long xs at ms rest h q =
    let w = 21 ∷ le 4 (length ms) in
    let r : drop at xs ≡ w ++ (writes name ms ++ rest) = q ∙ ap (λ (z : List ℕ). 21 ∷ z) (append_assoc (le 4 (length ms)) (writes name ms) rest) in
    let l : suc (length (le 4 (length ms))) ≡ 5 = ap suc (length_le 4 (length ms)) in
    omega (arith, front_within xs w (writes name ms ++ rest) at h r)

pub only_taken : (xs : List ℕ) (v u : Names) (at n : ℕ) (k : Unary) → k ≡ uo.Only n → at ≤ length xs → (at + 5 ≤ length xs → NamesTaken xs v u (at + 5) n) → OpTaken xs v u at k
unfolding names_1 Knows1 Fits1
only_taken xs v u at n k e l g o rest t f q = go (subst (λ (z : Unary). IsOp1 z o) e t)
  where
    go : (ms : List Name) × (o ≡ project ms) × (length ms ≡ n) → Took xs v u (names_1 o) (λ ns. Knows1 ns o)
    go t =
        let ms = t.0 in
        let q2 = q ∙ ap (λ (z : Op1). write_1 z ++ rest) t.1 in
        let s = g (only_long xs at ms rest l q2) ms rest (subst (λ (z : Op1). Fits1 z) t.1 f).1 t.2 (only_front xs at ms rest q2) in
        subst (λ (z : Op1). Took xs v u (names_1 z) (λ ns. Knows1 ns z)) (sym t.1) (subst (λ (w : ℕ). Took xs v u w (λ ns. AllIn ns ms)) (sym t.2) s)

-- heads of queries
head_known : (k : QueryNode) → ((n : ℕ) → k ≡ qn.Just n → ⊥) → ((n : ℕ) → k ≡ qn.OnLeft n → ⊥) → ((n : ℕ) → k ≡ qn.OnRight n → ⊥) → ((o : Unary) → k ≡ qn.One o → ⊥) → ((a b : ℕ) → k ≡ qn.Matched a b → ⊥) → (h : QueryHead) → TellsQuery k h → (ns : List Name) → HeadKnows ns h
unfolding HeadKnows
head_known qn.It j l r o m h e ns = subst (λ (z : QueryHead). HeadKnows ns z) (sym e) tt
head_known qn.Env j l r o m h e ns = subst (λ (z : QueryHead). HeadKnows ns z) (sym e) tt
head_known qn.Each j l r o m h e ns = subst (λ (z : QueryHead). HeadKnows ns z) (sym e) tt
head_known qn.Keep j l r o m h e ns = subst (λ (z : QueryHead). HeadKnows ns z) (sym e) tt
head_known qn.Product j l r o m h e ns = subst (λ (z : QueryHead). HeadKnows ns z) (sym e) tt
head_known qn.Default j l r o m h e ns = subst (λ (z : QueryHead). HeadKnows ns z) (sym e) tt
head_known qn.Either j l r o m h e ns = subst (λ (z : QueryHead). HeadKnows ns z) (sym e) tt
head_known qn.Then j l r o m h e ns = subst (λ (z : QueryHead). HeadKnows ns z) (sym e) tt
head_known qn.WithEnv j l r o m h e ns = subst (λ (z : QueryHead). HeadKnows ns z) (sym e) tt
head_known (qn.Table n) j l r o m h e ns = subst (λ (z : QueryHead). HeadKnows ns z) (sym e) tt
head_known (qn.Two n) j l r o m h e ns = subst (λ (z : QueryHead). HeadKnows ns z) (sym e) tt
head_known (qn.Just n) j l r o m h e ns = absurd (j n refl)
head_known (qn.OnLeft n) j l r o m h e ns = absurd (l n refl)
head_known (qn.OnRight n) j l r o m h e ns = absurd (r n refl)
head_known (qn.One n) j l r o m h e ns = absurd (o n refl)
head_known (qn.Matched a b) j l r o m h e ns = absurd (m a b refl)

-- a head with no names
pub head_plain : (xs : List ℕ) (v : Names) (at : ℕ) (k : QueryNode) → ((n : ℕ) → k ≡ qn.Just n → ⊥) → ((n : ℕ) → k ≡ qn.OnLeft n → ⊥) → ((n : ℕ) → k ≡ qn.OnRight n → ⊥) → ((o : Unary) → k ≡ qn.One o → ⊥) → ((a b : ℕ) → k ≡ qn.Matched a b → ⊥) → QueryHeadTaken xs v v at k
head_plain xs v at k j l r o m h rest i t g q = took_none xs v (names_h h) (λ ns. HeadKnows ns h) (head_known k j l r o m h t)

pub one_taken : (xs : List ℕ) (v u : Names) (at : ℕ) (k : QueryNode) (o : Unary) → k ≡ qn.One o → OpTaken xs v u at o → QueryHeadTaken xs v u at k
unfolding HeadKnows names_h write_query_head FitsQueryHead
one_taken xs v u at k o e g h rest i t f q = go (subst (λ (z : QueryNode). TellsQuery z h) e t)
  where
    go : (p : Op1) × (h ≡ one_q p) × IsOp1 o p → Took xs v u (names_h h) (λ ns. HeadKnows ns h)
    go t =
        let s = g t.0 rest t.2 (subst (λ (z : QueryHead). FitsQueryHead z) t.1 f) (q ∙ ap (λ (z : QueryHead). write_query_head z ++ rest) t.1) in
        subst (λ (z : QueryHead). Took xs v u (names_h z) (λ ns. HeadKnows ns z)) (sym t.1) s

-- a type after a tag
type_took : (xs : List ℕ) (v u : Names) (at tag : ℕ) (t : Ty) (rest : List ℕ) → TypesTaken xs v u (at + 1) 1 → types.Fits t → drop at xs ≡ (tag ∷ write_ty t) ++ rest → Took xs v u (names_t t) (λ ns. KnowsTy ns t)
unfolding names_all KnowsAll
type_took xs v u at tag t rest g f q =
    let s = g (t ∷ []) rest (f, tt) refl (tag_front xs (write_ty t) rest tag at q ∙ ap (λ (z : List ℕ). z ++ rest) (sym (append-nil (write_ty t)))) in
    took_as xs v u _ (names_t t) _ (λ ns. KnowsTy ns t) (omega arith) (λ ns k. k.0) s

just_taken : (xs : List ℕ) (v u : Names) (at n : ℕ) (k : QueryNode) → k ≡ qn.Just n → TypesTaken xs v u (at + 1) 1 → QueryHeadTaken xs v u at k
unfolding HeadKnows names_h write_query_head FitsQueryHead
just_taken xs v u at n k e g h rest i t f q = go (subst (λ (z : QueryNode). TellsQuery z h) e t)
  where
    go : (y : Ty) × (d : Data) × (h ≡ just_q y d) × (length (write_ty y) ≡ n) → Took xs v u (names_h h) (λ ns. HeadKnows ns h)
    go t =
        let s = type_took xs v u at 3 t.0 (write_data t.1 ++ rest) g (subst (λ (z : QueryHead). FitsQueryHead z) t.2 f).0
        (q ∙ (ap (λ (z : QueryHead). write_query_head z ++ rest) t.2 ∙ ap (λ (z : List ℕ). 3 ∷ z) (append_assoc (write_ty t.0) (write_data t.1) rest))) in
        subst (λ (z : QueryHead). Took xs v u (names_h z) (λ ns. HeadKnows ns z)) (sym t.2) s

left_taken : (xs : List ℕ) (v u : Names) (at n : ℕ) (k : QueryNode) → k ≡ qn.OnLeft n → TypesTaken xs v u (at + 1) 1 → QueryHeadTaken xs v u at k
unfolding HeadKnows names_h write_query_head FitsQueryHead
left_taken xs v u at n k e g h rest i t f q = go (subst (λ (z : QueryNode). TellsQuery z h) e t)
  where
    go : (y : Ty) × (h ≡ left_q y) × (length (write_ty y) ≡ n) → Took xs v u (names_h h) (λ ns. HeadKnows ns h)
    go t =
        let s = type_took xs v u at 27 t.0 rest g (subst (λ (z : QueryHead). FitsQueryHead z) t.1 f) (q ∙ ap (λ (z : QueryHead). write_query_head z ++ rest) t.1) in
        subst (λ (z : QueryHead). Took xs v u (names_h z) (λ ns. HeadKnows ns z)) (sym t.1) s

right_taken : (xs : List ℕ) (v u : Names) (at n : ℕ) (k : QueryNode) → k ≡ qn.OnRight n → TypesTaken xs v u (at + 1) 1 → QueryHeadTaken xs v u at k
unfolding HeadKnows names_h write_query_head FitsQueryHead
right_taken xs v u at n k e g h rest i t f q = go (subst (λ (z : QueryNode). TellsQuery z h) e t)
  where
    go : (y : Ty) × (h ≡ right_q y) × (length (write_ty y) ≡ n) → Took xs v u (names_h h) (λ ns. HeadKnows ns h)
    go t =
        let s = type_took xs v u at 28 t.0 rest g (subst (λ (z : QueryHead). FitsQueryHead z) t.1 f) (q ∙ ap (λ (z : QueryHead). write_query_head z ++ rest) t.1) in
        subst (λ (z : QueryHead). Took xs v u (names_h z) (λ ns. HeadKnows ns z)) (sym t.1) s

pub typed_taken : (xs : List ℕ) (v u : Names) (at : ℕ) (k : QueryNode) → ((n : ℕ) × (k ≡ qn.Just n)) ⊎ (((n : ℕ) × (k ≡ qn.OnLeft n)) ⊎ ((n : ℕ) × (k ≡ qn.OnRight n))) → TypesTaken xs v u (at + 1) 1 → QueryHeadTaken xs v u at k
typed_taken xs v u at k (inl e) g = just_taken xs v u at e.0 k e.1 g
typed_taken xs v u at k (inr (inl e)) g = left_taken xs v u at e.0 k e.1 g
typed_taken xs v u at k (inr (inr e)) g = right_taken xs v u at e.0 k e.1 g

pub matched_taken : (xs : List ℕ) (v s u : Names) (at m n a b : ℕ) (k : QueryNode) → k ≡ qn.Matched m n → Named xs v s (at + 1) m a → Named xs s u a n b → QueryHeadTaken xs v u at k
unfolding HeadKnows names_h write_query_head FitsQueryHead
matched_taken xs v s u at m n a b k e g l h rest i t f q = go (subst (λ (z : QueryNode). TellsQuery z h) e t)
  where
    go : (x : Name) × (y : Name) × (h ≡ matched_q x y) × (length x ≡ m) × (length y ≡ n) → Took xs v u (names_h h) (λ ns. HeadKnows ns h)
    go t =
        let x = t.0 in
        let y = t.1 in
        let ff = subst (λ (z : QueryHead). FitsQueryHead z) t.2 f in
        let q1 : drop (at + 1) xs ≡ name.write x ++ (name.write y ++ rest) =
        tag_front xs (name.write x ++ name.write y) rest 25 at (q ∙ ap (λ (z : QueryHead). write_query_head z ++ rest) t.2) ∙ append_assoc (name.write x) (name.write y) rest in
        let ln : length (name.write x) ≡ 4 + m = length-append (le 4 (length x)) x ∙ ap₂ (λ c d. c + d) (length_le 4 (length x)) t.3 in
        let q2 : drop a xs ≡ name.write y ++ rest =
        ap (λ z. drop z xs) (g.ends x _ ff.0 t.3 q1 ∙ ap (λ z. (at + 1) + z) (sym ln)) ∙ after_front xs (name.write x) (name.write y ++ rest) (at + 1) q1 in
        let s1 = g.short x _ ff.0 t.3 q1 i in
        let s2 = l.short y rest ff.1 t.4 q2 (g.kept.among [] i) in
        let r : Took xs v u (length x + length y) (λ ns. In ns x × In ns y) =
        record { few = omega (arith, s1.few, s2.few); knows = λ o. let p = s1.few in (l.kept.among x (s1.knows (omega arith)), s2.knows (omega arith)) } in
        subst (λ (z : QueryHead). Took xs v u (names_h z) (λ ns. HeadKnows ns z)) (sym t.2) r

pub one_query : (xs : List ℕ) (v u : Names) (at : ℕ) → QueriesTaken xs v u at 1 → QueryTaken xs v u at
unfolding names_each KnowsEach
one_query xs v u at g q rest i f e =
    took_as xs v u _ (names_q q) _ (λ ns. Knows ns q) (omega arith) (λ ns k. k.0) (g (q ∷ []) rest i (f, tt) refl (e ∙ ap (λ (z : List ℕ). z ++ rest) (sym (append-nil (write_query q)))))
