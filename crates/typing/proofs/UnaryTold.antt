-- Operators of one with names.
use Rattle.std.proofs.Common.{refl, ◌≡◌, ℕ, suc, ◌+◌, ◌-◌, ◌<◌, ◌≤◌, List, [], ◌∷◌, ◌++◌, length, get_or, drop, Some, None, Option, sym, ap, ◌∙◌, subst, arith}
use Rattle.std.proofs.lemmas.List.{append_assoc}
use Rattle.query.specs.Data.{Name}
use Rattle.query.specs.Query.{Op1, dot, as_field, without, project}
use Rattle.query.specs.Types.{type1}
use Rattle.format.specs.Coding.{le, name, writes}
use Rattle.format.specs.Wire.{write_1, Fits1}
use Rattle.format.specs.Nodes.{IsOp1}
use Rattle.format.specs.declared.node.Unary.{Unary}
use Rattle.format.specs.declared.node.Unary.TheVariants as uo
use Rattle.format.specs.Bytes.{length_le}
use Rattle.ranks.specs.Ranks.{names_of}
use Rattle.ranks.specs.Known.{Knows1, names_1}
use Rattle.ranks.specs.declared.names.Names.{Names}
use Rattle.ranks.specs.Placed.{after_front, front_within}
use Rattle.types.specs.Shapes.{type_at}
use Rattle.types.specs.Operators.{named, Plain1, op_1}
use Rattle.types.specs.Outcomes.{look, Meant}
use Rattle.types.specs.declared.table.Table.{Table}
use Rattle.typing.specs.Loads.{RanksRead}
use Rattle.typing.specs.Typed.{NameTold, OpTold}
use Rattle.typing.proofs.RankReads.{none_some}

tag_front : (xs w rest : List ℕ) (t at : ℕ) → drop at xs ≡ (t ∷ w) ++ rest → drop (at + 1) xs ≡ w ++ rest
tag_front xs w rest t at q = after_front xs (t ∷ []) (w ++ rest) at q

-- an operator of one that has no name
pub plain : (k : Unary) → ((n : ℕ) → k ≡ uo.Dot n → ⊥) → ((n : ℕ) → k ≡ uo.AsField n → ⊥) → ((n : ℕ) → k ≡ uo.Without n → ⊥) → ((n : ℕ) → k ≡ uo.Only n → ⊥) → Plain1 k
plain uo.Not d a w l = tt
plain uo.InBag d a w l = tt
plain uo.Flat d a w l = tt
plain uo.Count d a w l = tt
plain uo.Sum d a w l = tt
plain uo.Distinct d a w l = tt
plain (uo.Dot n) d a w l = d n refl
plain (uo.AsField n) d a w l = a n refl
plain (uo.Without n) d a w l = w n refl
plain (uo.Only n) d a w l = l n refl

plain_is : (k : Unary) → Plain1 k → (o : Op1) → IsOp1 k o → o ≡ op_1 k
plain_is uo.Not p o e = e
plain_is uo.InBag p o e = e
plain_is uo.Flat p o e = e
plain_is uo.Count p o e = e
plain_is uo.Sum p o e = e
plain_is uo.Distinct p o e = e
plain_is (uo.Dot n) p o e = absurd p
plain_is (uo.AsField n) p o e = absurd p
plain_is (uo.Without n) p o e = absurd p
plain_is (uo.Only n) p o e = absurd p

module _ (xs : List ℕ) (v : Names) (t : Table) (at n x : ℕ) (k : Unary) (h : at < length xs) where
  pub dot_none : k ≡ uo.Dot n → NameTold xs v (at + 1) n None → OpTold xs v t t at k x None
  unfolding Knows1 write_1 Fits1
  dot_none e g o rest tl f l q kn s = go (subst (λ (z : Unary). IsOp1 z o) e tl)
    where
      go : (m : Name) × (o ≡ dot m) × (length m ≡ n) → Meant (names_of xs v) t t 1 t.names None (type1 o (type_at (names_of xs v) (look t) x))
      go d = absurd (g.tells d.0 rest (subst (λ (z : Op1). Fits1 z) d.1 f) d.2 (omega arith) (tag_front xs (name.write d.0) rest 18 at (q ∙ ap (λ (z : Op1). write_1 z ++ rest) d.1)) (subst (λ (z : Op1). Knows1 (names_of xs v) z) d.1 kn))

  pub dot_some : k ≡ uo.Dot n → (u : Table) (j : ℕ) (r : Option ℕ) → NameTold xs v (at + 1) n (Some j) → Meant (names_of xs v) t u 1 t.names r (type1 (dot (get_or (names_of xs v) j [])) (type_at (names_of xs v) (look t) x)) → OpTold xs v t u at k x r
  unfolding Knows1 write_1 Fits1
  dot_some e u j r g mt o rest tl f l q kn s = go (subst (λ (z : Unary). IsOp1 z o) e tl)
    where
      go : (m : Name) × (o ≡ dot m) × (length m ≡ n) → Meant (names_of xs v) t u 1 t.names r (type1 o (type_at (names_of xs v) (look t) x))
      go d =
          let i = g.tells d.0 rest (subst (λ (z : Op1). Fits1 z) d.1 f) d.2 (omega arith) (tag_front xs (name.write d.0) rest 18 at (q ∙ ap (λ (z : Op1). write_1 z ++ rest) d.1)) (subst (λ (z : Op1). Knows1 (names_of xs v) z) d.1 kn) in
          subst (λ (z : Op1). Meant (names_of xs v) t u 1 t.names r (type1 z (type_at (names_of xs v) (look t) x))) (sym (d.1 ∙ ap dot (sym i))) mt

  pub as_field_none : k ≡ uo.AsField n → NameTold xs v (at + 1) n None → OpTold xs v t t at k x None
  unfolding Knows1 write_1 Fits1
  as_field_none e g o rest tl f l q kn s = go (subst (λ (z : Unary). IsOp1 z o) e tl)
    where
      go : (m : Name) × (o ≡ as_field m) × (length m ≡ n) → Meant (names_of xs v) t t 1 t.names None (type1 o (type_at (names_of xs v) (look t) x))
      go d = absurd (g.tells d.0 rest (subst (λ (z : Op1). Fits1 z) d.1 f) d.2 (omega arith) (tag_front xs (name.write d.0) rest 19 at (q ∙ ap (λ (z : Op1). write_1 z ++ rest) d.1)) (subst (λ (z : Op1). Knows1 (names_of xs v) z) d.1 kn))

  pub as_field_some : k ≡ uo.AsField n → (u : Table) (j : ℕ) (r : Option ℕ) → NameTold xs v (at + 1) n (Some j) → Meant (names_of xs v) t u 1 t.names r (type1 (as_field (get_or (names_of xs v) j [])) (type_at (names_of xs v) (look t) x)) → OpTold xs v t u at k x r
  unfolding Knows1 write_1 Fits1
  as_field_some e u j r g mt o rest tl f l q kn s = go (subst (λ (z : Unary). IsOp1 z o) e tl)
    where
      go : (m : Name) × (o ≡ as_field m) × (length m ≡ n) → Meant (names_of xs v) t u 1 t.names r (type1 o (type_at (names_of xs v) (look t) x))
      go d =
          let i = g.tells d.0 rest (subst (λ (z : Op1). Fits1 z) d.1 f) d.2 (omega arith) (tag_front xs (name.write d.0) rest 19 at (q ∙ ap (λ (z : Op1). write_1 z ++ rest) d.1)) (subst (λ (z : Op1). Knows1 (names_of xs v) z) d.1 kn) in
          subst (λ (z : Op1). Meant (names_of xs v) t u 1 t.names r (type1 z (type_at (names_of xs v) (look t) x))) (sym (d.1 ∙ ap as_field (sym i))) mt

  pub without_none : k ≡ uo.Without n → NameTold xs v (at + 1) n None → OpTold xs v t t at k x None
  unfolding Knows1 write_1 Fits1
  without_none e g o rest tl f l q kn s = go (subst (λ (z : Unary). IsOp1 z o) e tl)
    where
      go : (m : Name) × (o ≡ without m) × (length m ≡ n) → Meant (names_of xs v) t t 1 t.names None (type1 o (type_at (names_of xs v) (look t) x))
      go d = absurd (g.tells d.0 rest (subst (λ (z : Op1). Fits1 z) d.1 f) d.2 (omega arith) (tag_front xs (name.write d.0) rest 20 at (q ∙ ap (λ (z : Op1). write_1 z ++ rest) d.1)) (subst (λ (z : Op1). Knows1 (names_of xs v) z) d.1 kn))

  pub without_some : k ≡ uo.Without n → (u : Table) (j : ℕ) (r : Option ℕ) → NameTold xs v (at + 1) n (Some j) → Meant (names_of xs v) t u 1 t.names r (type1 (without (get_or (names_of xs v) j [])) (type_at (names_of xs v) (look t) x)) → OpTold xs v t u at k x r
  unfolding Knows1 write_1 Fits1
  without_some e u j r g mt o rest tl f l q kn s = go (subst (λ (z : Unary). IsOp1 z o) e tl)
    where
      go : (m : Name) × (o ≡ without m) × (length m ≡ n) → Meant (names_of xs v) t u 1 t.names r (type1 o (type_at (names_of xs v) (look t) x))
      go d =
          let i = g.tells d.0 rest (subst (λ (z : Op1). Fits1 z) d.1 f) d.2 (omega arith) (tag_front xs (name.write d.0) rest 20 at (q ∙ ap (λ (z : Op1). write_1 z ++ rest) d.1)) (subst (λ (z : Op1). Knows1 (names_of xs v) z) d.1 kn) in
          subst (λ (z : Op1). Meant (names_of xs v) t u 1 t.names r (type1 z (type_at (names_of xs v) (look t) x))) (sym (d.1 ∙ ap without (sym i))) mt

  -- a record's fields of some names
  only_front : (ms : List Name) (rest : List ℕ) → drop at xs ≡ write_1 (project ms) ++ rest → (drop (at + 5) xs ≡ writes name ms ++ rest) × (at + 5 ≤ length xs)
  unfolding write_1
  only_front ms rest q =
      let w = 21 ∷ le 4 (length ms) in
      let r : drop at xs ≡ w ++ (writes name ms ++ rest) = q ∙ ap (λ (z : List ℕ). 21 ∷ z) (append_assoc (le 4 (length ms)) (writes name ms) rest) in
      let l : suc (length (le 4 (length ms))) ≡ 5 = ap suc (length_le 4 (length ms)) in
      (ap (λ k. drop (at + suc k) xs) (sym (length_le 4 (length ms))) ∙ after_front xs w (writes name ms ++ rest) at r, omega (arith, front_within xs w (writes name ms ++ rest) at (omega arith) r))

  pub only_short : k ≡ uo.Only n → length xs - at < 5 → OpTold xs v t t at k x None
  only_short e s o rest tl f l q kn z = go (subst (λ (z : Unary). IsOp1 z o) e tl)
    where
      go : (ms : List Name) × (o ≡ project ms) × (length ms ≡ n) → Meant (names_of xs v) t t 1 t.names None (type1 o (type_at (names_of xs v) (look t) x))
      go d = absurd (omega (arith, (only_front d.0 rest (q ∙ ap (λ (z : Op1). write_1 z ++ rest) d.1)).1))

  read : (b : Option (Unit {0})) (ks : List ℕ) → RanksRead xs v ks (at + 5) n b → (o : Op1) (rest : List ℕ) → (d : (ms : List Name) × (o ≡ project ms) × (length ms ≡ n)) → Fits1 o → drop at xs ≡ write_1 o ++ rest → Knows1 (names_of xs v) o → names_1 o ≤ 8200 → (b ≡ Some tt) × (named (names_of xs v) ks ≡ d.0)
  unfolding Fits1 Knows1 names_1
  read b ks g o rest d f q kn s =
      g.tells d.0 rest (subst (λ (z : Op1). Fits1 z) d.1 f).1 d.2 (only_front d.0 rest (q ∙ ap (λ (z : Op1). write_1 z ++ rest) d.1)).0 (subst (λ (z : Op1). Knows1 (names_of xs v) z) d.1 kn)
      (omega (arith, ap (λ (z : Op1). names_1 z) d.1, d.2))

  pub only_unknown : k ≡ uo.Only n → (ks : List ℕ) → RanksRead xs v ks (at + 5) n None → OpTold xs v t t at k x None
  only_unknown e ks g o rest tl f l q kn z = absurd (none_some (read None ks g o rest (subst (λ (z : Unary). IsOp1 z o) e tl) f q kn z).0)

  pub only_some : k ≡ uo.Only n → (u : Table) (ks sl : List ℕ) (r : Option ℕ) → sl ≡ ks → RanksRead xs v ks (at + 5) n (Some tt) → Meant (names_of xs v) t u 1 t.names r (type1 (project (named (names_of xs v) sl)) (type_at (names_of xs v) (look t) x)) → OpTold xs v t u at k x r
  only_some e u ks sl r i g mt o rest tl f l q kn z =
      let d = subst (λ (z : Unary). IsOp1 z o) e tl in
      let a = read (Some tt) ks g o rest d f q kn z in
      subst (λ (z : Op1). Meant (names_of xs v) t u 1 t.names r (type1 z (type_at (names_of xs v) (look t) x))) (sym (d.1 ∙ ap project (sym (ap (λ (y : List ℕ). named (names_of xs v) y) i ∙ a.1)))) mt

  pub plain_told : Plain1 k → (u : Table) (r : Option ℕ) → Meant (names_of xs v) t u 1 t.names r (type1 (op_1 k) (type_at (names_of xs v) (look t) x)) → OpTold xs v t u at k x r
  plain_told p u r mt o rest tl f l q kn s = subst (λ (z : Op1). Meant (names_of xs v) t u 1 t.names r (type1 z (type_at (names_of xs v) (look t) x))) (sym (plain_is k p o tl)) mt
