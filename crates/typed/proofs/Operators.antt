-- What is told of operators on the types of one part, or of two.
use Rattle.std.proofs.Common.{◌≡◌, ℕ, ◌+◌, ◌<◌, ◌≤◌, Bool, true, false, List, [], ◌∷◌, ◌++◌, drop, Some, None, vec_items, Option, sym, refl, ap, ◌∙◌, subst, arith}
use Rattle.std.proofs.lemmas.List.{append_assoc}
use Rattle.query.specs.Query.{Ty, an_either, Query, one, as_left, as_right, join_bags}
use Rattle.query.specs.Types.{sound, on_ty, if_so, type2}
use Rattle.query.specs.Size.{size_q}
use Rattle.format.specs.Coding.{name}
use Rattle.format.specs.Nodes.{op_2}
use Rattle.format.specs.Wire.{write_1, write_ty, write_query, FitsQuery}
use Rattle.format.specs.declared.node.Unary.{Unary}
use Rattle.format.specs.declared.node.Binary.{Binary}
use Rattle.guide.proofs.Standing.{left_type_stands, right_type_stands}
use Rattle.ranks.specs.Known.{Knows, names_q}
use Rattle.types.specs.Shapes.{shape, meaning, types, type_at, Ranked}
use Rattle.types.specs.Operators.{product_ty}
use Rattle.types.specs.Outcomes.{look, size, Grew, Meant, Says}
use Rattle.types.specs.declared.table.Table.{Table}
use Rattle.types.specs.declared.entry.Entry.TheVariants.{Either}
use Rattle.types.proofs.Meanings.{kept_at, meant_as, meant_more, bind_none, bind_some}
use Rattle.typing.specs.Typed.{TypeTold, OpTold, MatchedTold}
use Rattle.typing.proofs.Bounds.{query_few}
use Rattle.typed.specs.Shaped.{Made1, one_query, one_type, one_types, one_fields, IsSingle, Made2, two_query, two_type, IsJoint}
use Rattle.typed.specs.Walks.{Setting, names_in, Asked, SingleTold, JointTold}
use Rattle.typed.specs.declared.shape.Single.{Single}
use Rattle.typed.specs.declared.shape.Single.TheVariants as sg
use Rattle.typed.specs.declared.shape.Joint.{Joint}
use Rattle.typed.specs.declared.shape.Joint.TheVariants as jt
use Rattle.typed.proofs.Parts.{further}

-- if something is of a type, with that type
so_with : (b : Bool) (y : Ty) (f : Ty → Ty) → if_so b (f y ∷ []) ≡ on_ty (if_so b (y ∷ [])) (λ z. f z ∷ [])
unfolding if_so on_ty
so_with true y f = refl
so_with false y f = refl

module _ (S : Setting) (t : Table) (pos x : ℕ) (o : Single) where
  as_made : {u : Table} {r : Option ℕ} {k : Made1} (m : Made1) → k ≡ m → Meant (names_in S) t u (one_types m) (one_fields t.names m) r (one_type m (type_at (names_in S) (look t) x))
      → Meant (names_in S) t u (one_types k) (one_fields t.names k) r (one_type k (type_at (names_in S) (look t) x))
  as_made {u} {r} m e n =
      subst (λ (z : Made1). Meant (names_in S) t u (one_types z) (one_fields t.names z) r (one_type z (type_at (names_in S) (look t) x))) (sym e) n

  as_side : {u : Table} {r : Option ℕ} {k : Made1} {s : ℕ} (m : Made1) → k ≡ m → Meant (names_in S) t u (one_types m) (s + 0) r (one_type m (type_at (names_in S) (look t) x)) → s ≤ one_fields t.names m
      → Meant (names_in S) t u (one_types k) (one_fields t.names k) r (one_type k (type_at (names_in S) (look t) x))
  as_side m e n h = as_made m e (meant_more n (one_types m) (one_fields t.names m) (omega arith) (omega arith))

  pub single_op : (c : Unary) (u : Table) (r : Option ℕ) → o ≡ sg.Op c → OpTold S.bytes S.names t u (S.base + pos) c x r → SingleTold S t u pos o x r
  unfolding write_query size_q Knows FitsQuery names_q
  single_op c u r e m k p depth i a =
      let j = subst (λ (z : Single). IsSingle z k) e i in
      let b = subst (λ (z : Made1). Asked S pos depth (one_query z p)) j.1 a in
      let f = query_few (one j.0 p) in
      as_made _ j.1
      (m j.0 (write_query p ++ b.rest) j.2 b.fits.0 b.within (b.stands ∙ append_assoc (write_1 j.0) (write_query p) b.rest) b.knows.0 (let g = b.few in omega arith))

  -- the type of the other side stands after the tag
  left_there : (y : Ty) (p : Query) (depth : ℕ) (a : Asked S pos depth (as_left y p)) → drop (S.base + pos + 1) S.bytes ≡ write_ty y ++ (write_query p ++ a.rest)
  left_there y p depth a =
      let e : S.base + pos + 1 ≡ S.base + (pos + 1) = omega arith in
      ap (λ (z : ℕ). drop z S.bytes) e ∙ further S pos 1 (pos + 1) _ refl (left_type_stands y p _ a.rest a.stands)

  right_there : (y : Ty) (p : Query) (depth : ℕ) (a : Asked S pos depth (as_right y p)) → drop (S.base + pos + 1) S.bytes ≡ write_ty y ++ (write_query p ++ a.rest)
  right_there y p depth a =
      let e : S.base + pos + 1 ≡ S.base + (pos + 1) = omega arith in
      ap (λ (z : ℕ). drop z S.bytes) e ∙ further S pos 1 (pos + 1) _ refl (right_type_stands y p _ a.rest a.stands)

  module _ (u : Table) where
    pub left_none : o ≡ sg.Left → TypeTold S.bytes S.names t u (S.base + pos + 1) None → SingleTold S t u pos o x None
    unfolding size_q Knows FitsQuery
    left_none e m k p depth i a =
        let j = subst (λ (z : Single). IsSingle z k) e i in
        let b = subst (λ (z : Made1). Asked S pos depth (one_query z p)) j.1 a in
        let n = m j.0 _ b.fits.0 (left_there j.0 p depth b) b.knows.0 (let g = b.few in omega arith) in
        as_side _ j.1 (meant_as (bind_none 1 0 n (λ z. an_either (type_at (names_in S) (look t) x) z ∷ [])) _ (so_with (sound j.0) j.0 (λ z. an_either (type_at (names_in S) (look t) x) z))) (omega arith)

    pub right_none : o ≡ sg.Right → TypeTold S.bytes S.names t u (S.base + pos + 1) None → SingleTold S t u pos o x None
    unfolding size_q Knows FitsQuery
    right_none e m k p depth i a =
        let j = subst (λ (z : Single). IsSingle z k) e i in
        let b = subst (λ (z : Made1). Asked S pos depth (one_query z p)) j.1 a in
        let n = m j.0 _ b.fits.0 (right_there j.0 p depth b) b.knows.0 (let g = b.few in omega arith) in
        as_side _ j.1 (meant_as (bind_none 1 0 n (λ z. an_either z (type_at (names_in S) (look t) x) ∷ [])) _ (so_with (sound j.0) j.0 (λ z. an_either z (type_at (names_in S) (look t) x)))) (omega arith)

    module _ (v : Table) (y : ℕ) (r : Option ℕ) (h : x < size t) (g : Grew t u (Some y)) (m : TypeTold S.bytes S.names t u (S.base + pos + 1) (Some y)) (rk : Ranked (names_in S) u.names) where
      pub left_some : o ≡ sg.Left → Says u v 1 0 r (λ ns. meaning ns (types ns (look u)) (shape (vec_items u.fields) (Either (record { left = x; right = y }))) ∷ []) → SingleTold S t v pos o x r
      unfolding size_q Knows FitsQuery meaning
      left_some e d k p depth i a =
          let ns = names_in S in
          let j = subst (λ (z : Single). IsSingle z k) e i in
          let b = subst (λ (z : Made1). Asked S pos depth (one_query z p)) j.1 a in
          let n = m j.0 _ b.fits.0 (left_there j.0 p depth b) b.knows.0 (let g = b.few in omega arith) in
          let f : Meant ns u v 1 0 r (an_either (type_at ns (look t) x) (type_at ns (look u) y) ∷ []) = meant_as (d ns rk) _ (ap (λ (z : Ty). an_either z (type_at ns (look u) y) ∷ []) (sym (kept_at g x h ns))) in
          as_side _ j.1 (meant_as (bind_some n (λ z. an_either (type_at ns (look t) x) z ∷ []) f) _ (so_with (sound j.0) j.0 (λ z. an_either (type_at ns (look t) x) z))) (omega arith)

      pub right_some : o ≡ sg.Right → Says u v 1 0 r (λ ns. meaning ns (types ns (look u)) (shape (vec_items u.fields) (Either (record { left = y; right = x }))) ∷ []) → SingleTold S t v pos o x r
      unfolding size_q Knows FitsQuery meaning
      right_some e d k p depth i a =
          let ns = names_in S in
          let j = subst (λ (z : Single). IsSingle z k) e i in
          let b = subst (λ (z : Made1). Asked S pos depth (one_query z p)) j.1 a in
          let n = m j.0 _ b.fits.0 (right_there j.0 p depth b) b.knows.0 (let g = b.few in omega arith) in
          let f : Meant ns u v 1 0 r (an_either (type_at ns (look u) y) (type_at ns (look t) x) ∷ []) = meant_as (d ns rk) _ (ap (λ (z : Ty). an_either (type_at ns (look u) y) z ∷ []) (sym (kept_at g x h ns))) in
          as_side _ j.1 (meant_as (bind_some n (λ z. an_either z (type_at ns (look t) x) ∷ []) f) _ (so_with (sound j.0) j.0 (λ z. an_either z (type_at ns (look t) x)))) (omega arith)

module _ (S : Setting) (t u : Table) (pos x y : ℕ) (o : Joint) (r : Option ℕ) where
  as_joint : {k : Made2} (m : Made2) {f s : ℕ} → k ≡ m → Meant (names_in S) t u f s r (two_type m (type_at (names_in S) (look t) x) (type_at (names_in S) (look t) y)) → f ≤ 2 → s ≤ t.names
      → Meant (names_in S) t u 2 t.names r (two_type k (type_at (names_in S) (look t) x) (type_at (names_in S) (look t) y))
  as_joint m e n hf hs =
      meant_more (meant_as n _ (ap (λ (z : Made2). two_type z (type_at (names_in S) (look t) x) (type_at (names_in S) (look t) y)) e)) 2 t.names hf hs

  module _ (rk : Ranked (names_in S) t.names) where
    pub joint_op : (c : Binary) → o ≡ jt.Op c → Says t u 1 t.names r (λ ns. type2 (op_2 c) (type_at ns (look t) x) (type_at ns (look t) y)) → JointTold S t u pos o x y r
    joint_op c e m k p q depth i b = as_joint _ (subst (λ (z : Joint). IsJoint z k) e i) (m (names_in S) rk) (omega arith) (omega arith)

    pub joint_product : o ≡ jt.Product → Says t u 2 t.names r (λ ns. product_ty (type_at ns (look t) x) (type_at ns (look t) y)) → JointTold S t u pos o x y r
    joint_product e m k p q depth i b = as_joint _ (subst (λ (z : Joint). IsJoint z k) e i) (m (names_in S) rk) (omega arith) (omega arith)

    pub joint_default : o ≡ jt.Default → Says t u 0 0 r (λ ns. type2 join_bags (type_at ns (look t) x) (type_at ns (look t) y)) → JointTold S t u pos o x y r
    joint_default e m k p q depth i b = as_joint _ (subst (λ (z : Joint). IsJoint z k) e i) (m (names_in S) rk) (omega arith) (omega arith)

  pub joint_matched : (c d : ℕ) → o ≡ jt.Matched c d → MatchedTold S.bytes S.names t u (S.base + pos) c d x y r → JointTold S t u pos o x y r
  unfolding write_query Knows FitsQuery
  joint_matched c d e m k p q depth i w =
      let j = subst (λ (z : Joint). IsJoint z k) e i in
      let b = subst (λ (z : Made2). Asked S pos depth (two_query z p q)) j.2 w in
      as_joint _ j.2
      (m 25 j.0 j.1 ((write_query p ++ write_query q) ++ b.rest) b.fits.0.0 b.fits.0.1 j.3 j.4
      (b.stands ∙ ap (λ (z : List ℕ). 25 ∷ z) (append_assoc (name.write j.0 ++ name.write j.1) (write_query p ++ write_query q) b.rest)) b.knows.0.0 b.knows.0.1)
      (omega arith) (omega arith)
