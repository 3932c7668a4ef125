-- The walk: what is told of a query by what is told of its parts.
use Rattle.std.proofs.Common.{◌≡◌, ℕ, ◌-◌, ◌*◌, ◌<◌, ◌≤◌, List, [], ◌∷◌, Some, None, Option, sym, refl, ap, ◌∙◌, subst, ap₂, arith}
use Rattle.query.specs.Query.{Ty, Query}
use Rattle.query.specs.Types.{sides_of, same_ty, elem, on_ty, if_so, type_of}
use Rattle.query.specs.Size.{size_q}
use Rattle.guide.proofs.Sizes.{nesting_some}
use Rattle.types.specs.Shapes.{type_at, Ranked}
use Rattle.types.specs.Operators.{types_of}
use Rattle.types.specs.Outcomes.{look, size, Grew, Meant, Says}
use Rattle.types.specs.declared.table.Table.{Table}
use Rattle.types.specs.declared.entry.Two.{Two}
use Rattle.types.proofs.Meanings.{size_grows, kept_at, ranked_as, stays, meant_as, meant_more, bind_none, bind_some, Sided}
use Rattle.typing.specs.Costs.{wide}
use Rattle.typing.specs.Loads.{Fit}
use Rattle.typing.specs.declared.work.Work.{Work}
use Rattle.typing.proofs.TypeMade.{ranked}
use Rattle.typing.proofs.Loading.{types_kept, numbers_kept}
use Rattle.typed.specs.Shaped.{Shaped, one_type, one_types, one_fields, two_type, over_type}
use Rattle.typed.specs.Walks.{Setting, names_in, Asked, Ready, type_by, Walked, Stepped, LeafTold, SingleTold, JointTold}
use Rattle.typed.specs.declared.shape.Leaf.{Leaf}
use Rattle.typed.specs.declared.shape.Single.{Single}
use Rattle.typed.specs.declared.shape.Joint.{Joint}
use Rattle.typed.specs.declared.shape.Over.{Over}
use Rattle.typed.specs.declared.shape.Shape.{Shape}
use Rattle.typed.specs.declared.shape.Shape.TheVariants as sh
use Rattle.typed.specs.declared.step.Step.{Step}
use Rattle.typed.proofs.Parts.{one_part, two_parts, over_parts, then_parts, env_parts, either_parts, only_told, only_asked, both_told, first_asked, last_asked}
use Rattle.typed.proofs.Equations.{type_one, type_two, type_over, type_then, type_with_env, type_either, type_no_sides}

-- what is in order stays so while the table grows
pub ready_on : {S : Setting} {t u : Table} {w v : Work} {r : Option ℕ} → Ready S t w → Grew t u r → Fit v → Ready S u v
ready_on {S} {t} {u} R g f = record { listed = R.listed; tidy = g.tidy; same = g.names ∙ R.same; fit = f; schema = numbers_kept (size t) (size u) S.schema (size_grows t u g.grown) R.schema }

pub ranked_in : {S : Setting} {t : Table} {w : Work} → Ready S t w → Ranked (names_in S) t.names
ranked_in R = ranked_as R.same (ranked _ R.listed.ordered)

-- there is no query, or none that could be seen
pub no_depth : (S : Setting) (t : Table) (pos env it depth : ℕ) → depth ≡ 0 → Walked S t t pos env it depth None
no_depth S t pos env it depth h = record { tells = λ q a. absurd (omega (arith, a.deep, nesting_some q)) }

pub not_seen : (S : Setting) (t : Table) (pos env it depth : ℕ) → Stepped S pos None → Walked S t t pos env it depth None
not_seen S t pos env it depth s = record { tells = λ q a. absurd (s.steps q depth a) }

module _ {S : Setting} {t : Table} {w : Work} {pos env it : ℕ} {s : Step} (depth : ℕ) (R : Ready S t w) (he : env < size t) (hi : it < size t) (st : Stepped S pos (Some s)) where
  shaped : (h : Shape) → s.shape ≡ h → (q : Query) → Asked S pos depth q → Shaped h q
  shaped h e q a = subst (λ (z : Shape). Shaped z q) e (st.steps q depth a).shaped

  -- of a query that is another, with its costs
  finish : {u : Table} {r : Option ℕ} {f c : ℕ} {T : List Ty} (q x : Query) → q ≡ x → Meant (names_in S) t u f c r T → type_by S t x env it ≡ T → f ≤ 2 * size_q x → c ≤ wide t.names x
      → Meant (names_in S) t u (2 * size_q q) (wide t.names q) r (type_by S t q env it)
  finish {u} {r} q x e m k hf hc =
      subst (λ (z : Query). Meant (names_in S) t u (2 * size_q z) (wide t.names z) r (type_by S t z env it)) (sym e)
      (meant_more (meant_as m (type_by S t x env it) k) (2 * size_q x) (wide t.names x) hf hc)

  -- what a part is told in a table that grew, with the schema as it was
  next : {u v : Table} {x r : Option ℕ} {n e i d : ℕ} → Grew t u x → Walked S u v n e i d r → (q : Query) → Asked S n d q → (a b : Ty) → type_at (names_in S) (look u) e ≡ a → type_at (names_in S) (look u) i ≡ b
      → Meant (names_in S) u v (2 * size_q q) (wide t.names q) r (type_of (types_of (names_in S) (look t) S.schema) q a b)
  next {u} {v} {x} {r} {n} {e} {i} g k q k' a b ea eb =
      let ns = names_in S in
      let ss = types_of ns (look t) S.schema in
      let l = types_kept ns g S.schema R.schema in
      let m : type_by S u q e i ≡ type_of ss q a b = ap (λ (z : List Ty). type_of z q (type_at ns (look u) e) (type_at ns (look u) i)) l ∙ ap₂ (λ (y z : Ty). type_of ss q y z) ea eb in
      subst (λ (z : ℕ). Meant ns u v (2 * size_q q) (wide z q) r (type_of ss q a b)) g.names (meant_as (k.tells q k') (type_of ss q a b) (sym m))

  abbrev ss : List Ty
  ss = types_of (names_in S) (look t) S.schema

  pub leaf_walked : {u : Table} {r : Option ℕ} (l : Leaf) → s.shape ≡ sh.Leaf l → LeafTold S t u pos s.last l env it r → Walked S t u pos env it depth r
  leaf_walked l e m = record { tells = λ q a. m q depth (shaped (sh.Leaf l) e q a) a (st.steps q depth a).last }

  -- one part
  module _ (o : Single) (e : s.shape ≡ sh.Single o) {u : Table} where
    pub single_none : Walked S t u s.last env it (depth - 1) None → Walked S t u pos env it depth None
    single_none k = record {
      tells = λ q a.
          let h = shaped (sh.Single o) e q a in
          let b = subst (λ (z : Query). Asked S pos depth z) h.2 a in
          let c = one_part h.0 h.1 in
          let m = k.tells h.1 (only_asked c b s.last ((st.steps _ depth b).last (only_told c b))) in
          finish q _ h.2 (bind_none 0 0 m (λ a. one_type h.0 a)) (type_one _ h.0 h.1 _ _) (omega (arith, c.types)) (omega (arith, c.fields t.names));
    }

    pub single_some : {v : Table} {x : ℕ} {r : Option ℕ} → Grew t u (Some x) → Walked S t u s.last env it (depth - 1) (Some x) → SingleTold S u v pos o x r → Walked S t v pos env it depth r
    single_some {v} {x} {r} g k d = record {
      tells = λ q a.
          let h = shaped (sh.Single o) e q a in
          let b = subst (λ (z : Query). Asked S pos depth z) h.2 a in
          let c = one_part h.0 h.1 in
          let m = k.tells h.1 (only_asked c b s.last ((st.steps _ depth b).last (only_told c b))) in
          let n = subst (λ (z : ℕ). Meant (names_in S) u v (one_types h.0) (one_fields z h.0) r (one_type h.0 (type_at (names_in S) (look u) x))) g.names (d h.0 h.1 depth h.3 b) in
          finish q _ h.2 (bind_some m (λ a. one_type h.0 a) n) (type_one _ h.0 h.1 _ _) c.types (c.fields t.names);
    }

  -- two parts
  module _ (o : Joint) (e : s.shape ≡ sh.Pair o) {u : Table} where
    pub pair_none : Walked S t u s.first env it (depth - 1) None → Walked S t u pos env it depth None
    pair_none k = record {
      tells = λ q a.
          let h = shaped (sh.Pair o) e q a in
          let b = subst (λ (z : Query). Asked S pos depth z) h.3 a in
          let c = two_parts h.0 h.1 h.2 in
          let m = k.tells h.1 (first_asked c b s.first (st.steps _ depth b).first) in
          finish q _ h.3 (bind_none 0 0 m _) (type_two _ h.0 h.1 h.2 _ _) (omega (arith, c.size)) (omega (arith, c.fields t.names));
    }

    module _ {x : ℕ} (g : Grew t u (Some x)) (k : Walked S t u s.first env it (depth - 1) (Some x)) {v : Table} where
      pub pair_none_second : Walked S u v s.last env it (depth - 1) None → Walked S t v pos env it depth None
      pair_none_second l = record {
        tells = λ q a.
            let h = shaped (sh.Pair o) e q a in
            let b = subst (λ (z : Query). Asked S pos depth z) h.3 a in
            let c = two_parts h.0 h.1 h.2 in
            let m = k.tells h.1 (first_asked c b s.first (st.steps _ depth b).first) in
            let n = next g l h.2 (last_asked c b s.last ((st.steps _ depth b).last (both_told c b))) _ _ (kept_at g env he (names_in S)) (kept_at g it hi (names_in S)) in
            finish q _ h.3 (bind_some m (λ a. on_ty (type_of ss h.2 _ _) (λ b. two_type h.0 a b)) (bind_none 0 0 n _)) (type_two _ h.0 h.1 h.2 _ _) (omega (arith, c.size)) (omega (arith, c.fields t.names));
      }

      pub pair_some : {z : Table} {y : ℕ} {r : Option ℕ} → Grew u v (Some y) → Walked S u v s.last env it (depth - 1) (Some y) → JointTold S v z pos o x y r → Walked S t z pos env it depth r
      pair_some {z} {y} {r} j l d = record {
        tells = λ q a.
            let h = shaped (sh.Pair o) e q a in
            let b = subst (λ (z : Query). Asked S pos depth z) h.3 a in
            let c = two_parts h.0 h.1 h.2 in
            let m = k.tells h.1 (first_asked c b s.first (st.steps _ depth b).first) in
            let n = next g l h.2 (last_asked c b s.last ((st.steps _ depth b).last (both_told c b))) _ _ (kept_at g env he (names_in S)) (kept_at g it hi (names_in S)) in
            let f = subst (λ (i : ℕ). Meant (names_in S) v z 2 i r (two_type h.0 (type_at (names_in S) (look v) x) (type_at (names_in S) (look v) y))) (j.names ∙ g.names) (d h.0 h.1 h.2 depth h.4 b) in
            let f2 = subst (λ (i : Ty). Meant (names_in S) v z 2 t.names r (two_type h.0 i (type_at (names_in S) (look v) y))) (kept_at j x g.here (names_in S)) f in
            finish q _ h.3
            (bind_some m (λ a. on_ty (type_of ss h.2 _ _) (λ b. two_type h.0 a b)) (bind_some n (λ b. two_type h.0 (type_at (names_in S) (look u) x) b) f2))
            (type_two _ h.0 h.1 h.2 _ _) (omega (arith, c.size)) (omega (arith, c.fields t.names));
      }

  -- the first part for each of the second
  module _ (o : Over) (e : s.shape ≡ sh.Over o) {u : Table} where
    pub over_none : Walked S t u s.last env it (depth - 1) None → Walked S t u pos env it depth None
    over_none k = record {
      tells = λ q a.
          let h = shaped (sh.Over o) e q a in
          let b = subst (λ (z : Query). Asked S pos depth z) h.2 a in
          let c = over_parts o h.0 h.1 in
          let m = k.tells h.1 (last_asked c b s.last ((st.steps _ depth b).last (both_told c b))) in
          finish q _ h.2 (bind_none 0 0 m _) (type_over _ o h.0 h.1 _ _) (omega (arith, c.size)) (omega (arith, c.fields t.names));
    }

    module _ {x : ℕ} (g : Grew t u (Some x)) (k : Walked S t u s.last env it (depth - 1) (Some x)) where
      abbrev after : Ty → Query → Ty → List Ty
      after a p y = on_ty (type_of ss p (type_at (names_in S) (look t) env) y) (λ v. over_type o a v)

      pub over_no_bag : Says u u 0 0 None (λ ns. elem (type_at ns (look u) x)) → Walked S t u pos env it depth None
      over_no_bag l = record {
        tells = λ q a.
            let h = shaped (sh.Over o) e q a in
            let b = subst (λ (z : Query). Asked S pos depth z) h.2 a in
            let c = over_parts o h.0 h.1 in
            let m = k.tells h.1 (last_asked c b s.last ((st.steps _ depth b).last (both_told c b))) in
            let n = l (names_in S) (ranked_as g.names (ranked_in R)) in
            finish q _ h.2 (bind_some m (λ a. on_ty (elem a) (λ y. after a h.0 y)) (bind_none 0 0 n _)) (type_over _ o h.0 h.1 _ _) (omega (arith, c.size)) (omega (arith, c.fields t.names));
      }

      module _ {i : ℕ} (l : Says u u 0 0 (Some i) (λ ns. elem (type_at ns (look u) x))) {v : Table} where
        pub over_none_second : Walked S u v s.first env i (depth - 1) None → Walked S t v pos env it depth None
        over_none_second j = record {
          tells = λ q a.
              let h = shaped (sh.Over o) e q a in
              let b = subst (λ (z : Query). Asked S pos depth z) h.2 a in
              let c = over_parts o h.0 h.1 in
              let m = k.tells h.1 (last_asked c b s.last ((st.steps _ depth b).last (both_told c b))) in
              let n = l (names_in S) (ranked_as g.names (ranked_in R)) in
              let f = next g j h.0 (first_asked c b s.first (st.steps _ depth b).first) _ _ (kept_at g env he (names_in S)) refl in
              finish q _ h.2 (bind_some m (λ a. on_ty (elem a) (λ y. after a h.0 y)) (bind_some n (λ y. after (type_at (names_in S) (look u) x) h.0 y) (bind_none 0 0 f _)))
              (type_over _ o h.0 h.1 _ _) (omega (arith, c.size)) (omega (arith, c.fields t.names));
        }

        pub over_some : {z : Table} {y : ℕ} {r : Option ℕ} → Grew u v (Some y) → Walked S u v s.first env i (depth - 1) (Some y)
            → Says v z 1 0 r (λ ns. over_type o (type_at ns (look v) x) (type_at ns (look v) y)) → Walked S t z pos env it depth r
        over_some {z} {y} {r} p j d = record {
          tells = λ q a.
              let h = shaped (sh.Over o) e q a in
              let b = subst (λ (z : Query). Asked S pos depth z) h.2 a in
              let c = over_parts o h.0 h.1 in
              let m = k.tells h.1 (last_asked c b s.last ((st.steps _ depth b).last (both_told c b))) in
              let n = l (names_in S) (ranked_as g.names (ranked_in R)) in
              let f = next g j h.0 (first_asked c b s.first (st.steps _ depth b).first) _ _ (kept_at g env he (names_in S)) refl in
              let f2 = subst (λ (i : Ty). Meant (names_in S) v z 1 0 r (over_type o i (type_at (names_in S) (look v) y))) (kept_at p x g.here (names_in S)) (d (names_in S) (ranked_as (p.names ∙ g.names) (ranked_in R))) in
              finish q _ h.2
              (bind_some m (λ a. on_ty (elem a) (λ y. after a h.0 y))
              (bind_some n (λ y. after (type_at (names_in S) (look u) x) h.0 y) (bind_some f (λ v. over_type o (type_at (names_in S) (look u) x) v) f2)))
              (type_over _ o h.0 h.1 _ _) (omega (arith, c.size)) (omega (arith, c.fields t.names));
        }

  -- the first part of what the second comes to
  module _ (e : s.shape ≡ sh.Then) {u : Table} where
    pub then_none : Walked S t u s.last env it (depth - 1) None → Walked S t u pos env it depth None
    then_none k = record {
      tells = λ q a.
          let h = shaped sh.Then e q a in
          let b = subst (λ (z : Query). Asked S pos depth z) h.2 a in
          let c = then_parts h.0 h.1 in
          let m = k.tells h.1 (last_asked c b s.last ((st.steps _ depth b).last (both_told c b))) in
          finish q _ h.2 (bind_none 0 0 m _) (type_then _ h.0 h.1 _ _) (omega (arith, c.size)) (omega (arith, c.fields t.names));
    }

    pub then_some : {v : Table} {x : ℕ} {r : Option ℕ} → Grew t u (Some x) → Walked S t u s.last env it (depth - 1) (Some x) → Walked S u v s.first env x (depth - 1) r → Walked S t v pos env it depth r
    then_some {v} {x} g k j = record {
      tells = λ q a.
          let h = shaped sh.Then e q a in
          let b = subst (λ (z : Query). Asked S pos depth z) h.2 a in
          let c = then_parts h.0 h.1 in
          let m = k.tells h.1 (last_asked c b s.last ((st.steps _ depth b).last (both_told c b))) in
          let f = next g j h.0 (first_asked c b s.first (st.steps _ depth b).first) _ _ (kept_at g env he (names_in S)) refl in
          finish q _ h.2 (bind_some m (λ a. type_of ss h.0 (type_at (names_in S) (look t) env) a) f) (type_then _ h.0 h.1 _ _) (omega (arith, c.size)) (omega (arith, c.fields t.names));
    }

  -- the first part with what the second comes to going along
  module _ (e : s.shape ≡ sh.WithEnv) {u : Table} where
    pub env_none : Walked S t u s.last env it (depth - 1) None → Walked S t u pos env it depth None
    env_none k = record {
      tells = λ q a.
          let h = shaped sh.WithEnv e q a in
          let b = subst (λ (z : Query). Asked S pos depth z) h.2 a in
          let c = env_parts h.0 h.1 in
          let m = k.tells h.1 (last_asked c b s.last ((st.steps _ depth b).last (both_told c b))) in
          finish q _ h.2 (bind_none 0 0 m _) (type_with_env _ h.0 h.1 _ _) (omega (arith, c.size)) (omega (arith, c.fields t.names));
    }

    pub env_some : {v : Table} {x : ℕ} {r : Option ℕ} → Grew t u (Some x) → Walked S t u s.last env it (depth - 1) (Some x) → Walked S u v s.first x it (depth - 1) r → Walked S t v pos env it depth r
    env_some {v} {x} g k j = record {
      tells = λ q a.
          let h = shaped sh.WithEnv e q a in
          let b = subst (λ (z : Query). Asked S pos depth z) h.2 a in
          let c = env_parts h.0 h.1 in
          let m = k.tells h.1 (last_asked c b s.last ((st.steps _ depth b).last (both_told c b))) in
          let f = next g j h.0 (first_asked c b s.first (st.steps _ depth b).first) _ _ refl (kept_at g it hi (names_in S)) in
          finish q _ h.2 (bind_some m (λ a. type_of ss h.0 a (type_at (names_in S) (look t) it)) f) (type_with_env _ h.0 h.1 _ _) (omega (arith, c.size)) (omega (arith, c.fields t.names));
    }

  -- the first part of a left, the second of a right
  module _ (e : s.shape ≡ sh.Either) where
    pub either_no_sides : sides_of (type_at (names_in S) (look t) it) ≡ [] → Walked S t t pos env it depth None
    either_no_sides l = record {
      tells = λ q a.
          let h = shaped sh.Either e q a in
          finish q _ h.2 (stays 0 0 None [] refl) (type_no_sides _ h.0 h.1 _ _ l) (omega arith) (omega arith);
    }

    module _ {p : Two} (d : Sided t it p) where
      abbrev both : Query → Ty → List Ty
      both y a = on_ty (type_of ss y (type_at (names_in S) (look t) env) (type_at (names_in S) (look t) p.right)) (λ b. if_so (same_ty a b) (a ∷ []))

      pub either_none : {u : Table} → Walked S t u s.first env p.left (depth - 1) None → Walked S t u pos env it depth None
      either_none k = record {
        tells = λ q a.
            let h = shaped sh.Either e q a in
            let b = subst (λ (z : Query). Asked S pos depth z) h.2 a in
            let c = either_parts h.0 h.1 in
            let m = k.tells h.0 (first_asked c b s.first (st.steps _ depth b).first) in
            finish q _ h.2 (bind_none 0 0 m _) (type_either _ h.0 h.1 _ _ _ _ (d.is (names_in S))) (omega (arith, c.size)) (omega (arith, c.fields t.names));
      }

      module _ {u : Table} {x : ℕ} (g : Grew t u (Some x)) (k : Walked S t u s.first env p.left (depth - 1) (Some x)) {v : Table} where
        pub either_none_second : Walked S u v s.last env p.right (depth - 1) None → Walked S t v pos env it depth None
        either_none_second j = record {
          tells = λ q a.
              let h = shaped sh.Either e q a in
              let b = subst (λ (z : Query). Asked S pos depth z) h.2 a in
              let c = either_parts h.0 h.1 in
              let m = k.tells h.0 (first_asked c b s.first (st.steps _ depth b).first) in
              let n = next g j h.1 (last_asked c b s.last ((st.steps _ depth b).last (both_told c b))) _ _ (kept_at g env he (names_in S)) (kept_at g p.right d.right (names_in S)) in
              finish q _ h.2 (bind_some m (λ a. both h.1 a) (bind_none 0 0 n _)) (type_either _ h.0 h.1 _ _ _ _ (d.is (names_in S))) (omega (arith, c.size)) (omega (arith, c.fields t.names));
        }

        pub either_some : {y : ℕ} {r : Option ℕ} → Grew u v (Some y) → Walked S u v s.last env p.right (depth - 1) (Some y)
            → Says v v 0 0 r (λ ns. if_so (same_ty (type_at ns (look v) x) (type_at ns (look v) y)) (type_at ns (look v) x ∷ [])) → Walked S t v pos env it depth r
        either_some {y} {r} l j w = record {
          tells = λ q a.
              let h = shaped sh.Either e q a in
              let b = subst (λ (z : Query). Asked S pos depth z) h.2 a in
              let c = either_parts h.0 h.1 in
              let m = k.tells h.0 (first_asked c b s.first (st.steps _ depth b).first) in
              let n = next g j h.1 (last_asked c b s.last ((st.steps _ depth b).last (both_told c b))) _ _ (kept_at g env he (names_in S)) (kept_at g p.right d.right (names_in S)) in
              let f = subst (λ (i : Ty). Meant (names_in S) v v 0 0 r (if_so (same_ty i (type_at (names_in S) (look v) y)) (i ∷ []))) (kept_at l x g.here (names_in S)) (w (names_in S) (ranked_as (l.names ∙ g.names) (ranked_in R))) in
              finish q _ h.2 (bind_some m (λ a. both h.1 a) (bind_some n (λ b. if_so (same_ty (type_at (names_in S) (look u) x) b) (type_at (names_in S) (look u) x ∷ [])) f))
              (type_either _ h.0 h.1 _ _ _ _ (d.is (names_in S))) (omega (arith, c.size)) (omega (arith, c.fields t.names));
        }
