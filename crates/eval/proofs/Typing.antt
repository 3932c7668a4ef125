-- Types of a query's parts, and what is known of what they come to.
use Rattle.std.proofs.Common.{◌≡◌, ℕ, ◌+◌, ◌*◌, ◌≤◌, true, List, [], ◌∷◌, length, sym, refl, ap, ◌∙◌, subst, arith}
use Rattle.query.specs.Data.{Name, Data}
use Rattle.query.specs.Query.{Ty, a_truth, a_bag, an_either, Query, default, either, eval}
use Rattle.query.specs.Types.{Sides, same_ty, sound, is_of, elem, sides_of, on_ty, if_so, fields_in, type2, Schema, type_of}
use Rattle.query.specs.Size.{size_q}
use Rattle.query.proofs.Tests.{and_l, and_r}
use Rattle.query.proofs.OneType.{type_one}
use Rattle.query.proofs.TypeParts.{on_ty_out, elem_out, sides_out}
use Rattle.query.proofs.SoundTypes.{type_sound}
use Rattle.query.proofs.Comes.{comes}
use Rattle.values.specs.Height.{height_ty}
use Rattle.bounds.specs.Names.{named, query_names, all_in}
use Rattle.operators.specs.Applied.{Made1, op1, on_left, on_right, one_query, one_type, Made2, op2, all, where_same, two_query, two_type}
use Rattle.operators.specs.Ready.{Fine}
use Rattle.eval.specs.Shaped.{over_query}
use Rattle.eval.specs.Ready.{World, Typed}
use Rattle.eval.specs.declared.shape.Over.{Over}
use Rattle.eval.specs.declared.shape.Over.TheVariants as ov
use Rattle.eval.proofs.Parts.{one_part, TwoParts, two_parts, over_parts, default_parts, either_parts}
use Rattle.bounds.proofs.TypeHeights.{type_no_deeper}
use Rattle.bounds.proofs.TypeNames.{stays_named}

pub fine_more : {ns : List Name} {a b : ℕ} {t : Ty} → a ≤ b → Fine ns a t → Fine ns b t
fine_more h f = record { in_order = f.in_order; within = f.within; shallow = omega (arith, f.shallow) }

pub fine_elem : {ns : List Name} {a : ℕ} {t : Ty} → Fine ns a (a_bag t) → Fine ns a t
unfolding sound named height_ty
fine_elem f = record { in_order = f.in_order; within = f.within; shallow = omega (arith, f.shallow) }

pub fine_left : {ns : List Name} {a : ℕ} {t u : Ty} → Fine ns a (an_either t u) → Fine ns a t
unfolding sound named height_ty
fine_left {ns} {a} {t} {u} f = record { in_order = and_l (sound t) (sound u) f.in_order; within = and_l (named ns t) (named ns u) f.within; shallow = omega (arith, f.shallow) }

pub fine_right : {ns : List Name} {a : ℕ} {t u : Ty} → Fine ns a (an_either t u) → Fine ns a u
unfolding sound named height_ty
fine_right {ns} {a} {t} {u} f = record { in_order = and_r (sound t) (sound u) f.in_order; within = and_r (named ns t) (named ns u) f.within; shallow = omega (arith, f.shallow) }

-- what a typed query comes to is of its type, and that type is fine
module _ {w : World} {deep : ℕ} {q : Query} {te ti tu : Ty} (t : Typed w deep q te ti tu) where
  pub fine_high : Fine w.names (t.high + 2 * size_q q) tu
  fine_high =
      record {
        in_order = type_sound w.schema w.in_order q te ti tu [] t.fine_env.in_order t.fine_it.in_order t.type;
        within = stays_named w.names w.schema q te ti tu t.type w.called t.called t.fine_env.within t.fine_it.within;
        shallow = type_no_deeper w.schema q te ti tu t.high t.type t.schema_low t.fine_env.shallow t.fine_it.shallow;
      }

  pub fine_result : Fine w.names deep tu
  fine_result = fine_more t.low fine_high

  pub result_of : (x y d : Data) → is_of x te ≡ true → is_of y ti ≡ true → (eval w.tables q x y).is ≡ d ∷ [] → is_of d tu ≡ true
  result_of x y d hx hy e =
      let c = comes w.schema w.tables w.are q te ti tu [] x y hx hy t.type in
      let s : c.0 ≡ d = (let z : c.0 ∷ [] ≡ d ∷ [] = sym c.1 ∙ e in cc) in
      subst (λ z. is_of z tu ≡ true) s c.2

on_ty_in : {A B : Type 0} (l : List A) (x : A) (r : List A) (f : A → List B) → l ≡ x ∷ r → on_ty l f ≡ f x
unfolding on_ty
on_ty_in l x r f e = ap (λ z. on_ty z f) e

only_one : (l : List Ty) (u : Ty) (m : List Ty) → length l ≤ 1 → l ≡ u ∷ m → l ≡ u ∷ []
only_one l u [] h e = e
only_one l u (v ∷ m) h e = absurd (let z : ⊥ = omega (arith, ap length e) in z)

one_ty : (ss : Schema) (q : Query) (e t u : Ty) (m : List Ty) → type_of ss q e t ≡ u ∷ m → type_of ss q e t ≡ u ∷ []
one_ty ss q e t u m h = only_one (type_of ss q e t) u m (type_one ss q e t) h

-- a part that is asked with the same, and one that is asked with something that a part came to
abbrev typed_part : {w : World} {deep : ℕ} {x p : Query} {te ti tu a : Ty} → Typed w deep x te ti tu → size_q p ≤ size_q x → all_in (query_names p) w.names ≡ true → type_of w.schema p te ti ≡ a ∷ [] → Typed w deep p te ti a
typed_part t h n e = record { type = e; called = n; high = t.high; schema_low = t.schema_low; fine_env = t.fine_env; fine_it = t.fine_it; low = omega (arith, t.low) }

pub record BothTyped (w : World) (deep : ℕ) (te ti : Ty) (p q : Query) (a b : Ty) : Type 0 where
  pub first : Typed w deep p te ti a
  pub second : Typed w deep q te ti b

-- what is known of the first part once the second came
abbrev pub ThenTyped : World → ℕ → Ty → Ty → Ty → Over → Query → Ty → Type 0
ThenTyped w deep te ti tu ov.Each p a = (u : Ty) × (v : Ty) × (a ≡ a_bag u) × Typed w deep p te u v
ThenTyped w deep te ti tu ov.Keep p a = (u : Ty) × (v : Ty) × (a ≡ a_bag u) × Typed w deep p te u v
ThenTyped w deep te ti tu ov.Then p a = Typed w deep p te a tu
ThenTyped w deep te ti tu ov.WithEnv p a = Typed w deep p a ti tu

module _ (w : World) (deep : ℕ) (te ti tu : Ty) where
  one_type_is : (k : Made1) (p : Query) → type_of w.schema (one_query k p) te ti ≡ on_ty (type_of w.schema p te ti) (λ a. one_type k a)
  unfolding type_of
  one_type_is (op1 o) p = refl
  one_type_is (on_left t) p = refl
  one_type_is (on_right t) p = refl

  pub one_typed : (k : Made1) (p : Query) → Typed w deep (one_query k p) te ti tu → (a : Ty) × Typed w deep p te ti a × (one_type k a ≡ tu ∷ [])
  one_typed k p t =
      let y = one_part k p in
      let c = on_ty_out (type_of w.schema p te ti) (λ a. one_type k a) tu [] (sym (one_type_is k p) ∙ t.type) in
      (c.0, typed_part t (omega (arith, y.size)) (y.names w.names t.called) (one_ty w.schema p te ti c.0 c.1 c.2), c.3)

  two_types : (k : Made2) (p q : Query) → type_of w.schema (two_query k p q) te ti ≡ tu ∷ [] →
      (a : Ty) × (b : Ty) × (l : List Ty) × (r : List Ty) × (type_of w.schema p te ti ≡ a ∷ l) × (type_of w.schema q te ti ≡ b ∷ r) × (two_type k a b ≡ tu ∷ [])
  unfolding type_of on_ty
  two_types (op2 o) p q h =
      let a = on_ty_out (type_of w.schema p te ti) (λ v. on_ty (type_of w.schema q te ti) (λ w. type2 o v w)) tu [] h in
      let c = on_ty_out (type_of w.schema q te ti) (λ w. type2 o a.0 w) tu [] a.3 in
      (a.0, c.0, a.1, c.1, a.2, c.2, c.3)
  two_types all p q h =
      let a = on_ty_out (type_of w.schema p te ti) _ tu [] h in
      let b = on_ty_out (fields_in a.0) _ tu [] a.3 in
      let c = on_ty_out (type_of w.schema q te ti) _ tu [] b.3 in
      (a.0, c.0, a.1, c.1, a.2, c.2, on_ty_in (fields_in a.0) b.0 b.1 _ b.2 ∙ c.3)
  two_types (where_same m n) p q h =
      let a = on_ty_out (type_of w.schema p te ti) _ tu [] h in
      let b = on_ty_out (fields_in a.0) _ tu [] a.3 in
      let c = on_ty_out (type_of w.schema q te ti) _ tu [] b.3 in
      (a.0, c.0, a.1, c.1, a.2, c.2, on_ty_in (fields_in a.0) b.0 b.1 _ b.2 ∙ c.3)

  both_typed : (x p q : Query) → TwoParts x p q → Typed w deep x te ti tu → (a b : Ty) (l r : List Ty) → type_of w.schema p te ti ≡ a ∷ l → type_of w.schema q te ti ≡ b ∷ r → BothTyped w deep te ti p q a b
  both_typed x p q y t a b l r e f =
      record {
        first = typed_part t (omega (arith, y.size)) (y.names w.names t.called).0 (one_ty w.schema p te ti a l e);
        second = typed_part t (omega (arith, y.size)) (y.names w.names t.called).1 (one_ty w.schema q te ti b r f);
      }

  pub two_typed : (k : Made2) (p q : Query) → Typed w deep (two_query k p q) te ti tu → (a : Ty) × (b : Ty) × BothTyped w deep te ti p q a b × (two_type k a b ≡ tu ∷ [])
  two_typed k p q t =
      let z = two_types k p q t.type in
      (z.0, z.1, both_typed (two_query k p q) p q (two_parts k p q) t z.0 z.1 z.2 z.3 z.4 z.5, z.6)

  pub default_typed : (p q : Query) → Typed w deep (default p q) te ti tu → (a : Ty) × (u : Ty) × (b : Ty) × (a ≡ a_bag u) × BothTyped w deep te ti p q a b
  unfolding type_of
  default_typed p q t =
      let a = on_ty_out (type_of w.schema p te ti) _ tu [] t.type in
      let b = on_ty_out (elem a.0) _ tu [] a.3 in
      let c = on_ty_out (type_of w.schema q te ti) _ tu [] b.3 in
      (a.0, b.0, c.0, elem_out a.0 b.0 b.1 b.2, both_typed (default p q) p q (default_parts p q) t a.0 c.0 a.1 c.1 a.2 c.2)

  pub either_typed : (p q : Query) → Typed w deep (either p q) te ti tu → (s : Sides) × (a : Ty) × (b : Ty) × (ti ≡ an_either s.l s.r) × Typed w deep p te s.l a × Typed w deep q te s.r b
  unfolding type_of
  either_typed p q t =
      let y = either_parts p q in
      let a = on_ty_out (sides_of ti) (λ s. on_ty (type_of w.schema p te s.l) (λ a. on_ty (type_of w.schema q te s.r) (λ b. if_so (same_ty a b) (a ∷ [])))) tu [] t.type in
      let b = on_ty_out (type_of w.schema p te a.0.l) (λ v. on_ty (type_of w.schema q te a.0.r) (λ b. if_so (same_ty v b) (v ∷ []))) tu [] a.3 in
      let c = on_ty_out (type_of w.schema q te a.0.r) (λ v. if_so (same_ty b.0 v) (b.0 ∷ [])) tu [] b.3 in
      let e : ti ≡ an_either a.0.l a.0.r = sides_out ti a.0 a.1 a.2 in
      let f : Fine w.names t.high (an_either a.0.l a.0.r) = subst (λ z. Fine w.names t.high z) e t.fine_it in
      let n = y.names w.names t.called in (
        a.0,
        b.0,
        c.0,
        e,
        record { type = one_ty w.schema p te a.0.l b.0 b.1 b.2; called = n.0; high = t.high; schema_low = t.schema_low; fine_env = t.fine_env; fine_it = fine_left f; low = omega (arith, t.low, y.size) },
        record { type = one_ty w.schema q te a.0.r c.0 c.1 c.2; called = n.1; high = t.high; schema_low = t.schema_low; fine_env = t.fine_env; fine_it = fine_right f; low = omega (arith, t.low, y.size) },
      )

  abbrev of_second : (o : Over) (p q : Query) (t : Typed w deep (over_query o p q) te ti tu) (a : Ty) (l : List Ty) → type_of w.schema q te ti ≡ a ∷ l → Typed w deep q te ti a
  of_second o p q t a l e = let y = over_parts o p q in typed_part t (omega (arith, y.size)) (y.names w.names t.called).1 (one_ty w.schema q te ti a l e)

  first_looks : (o : Over) (p q : Query) (t : Typed w deep (over_query o p q) te ti tu) (u v : Ty) (l : List Ty) → Fine w.names (t.high + 2 * size_q q) u → type_of w.schema p te u ≡ v ∷ l → Typed w deep p te u v
  first_looks o p q t u v l f e =
      let y = over_parts o p q in
      record {
        type = one_ty w.schema p te u v l e;
        called = (y.names w.names t.called).0;
        high = t.high + 2 * size_q q;
        schema_low = omega (arith, t.schema_low);
        fine_env = fine_more (omega arith) t.fine_env;
        fine_it = f;
        low = omega (arith, t.low, y.size);
      }

  pub over_typed : (o : Over) (p q : Query) → Typed w deep (over_query o p q) te ti tu → (a : Ty) × Typed w deep q te ti a × ThenTyped w deep te ti tu o p a
  unfolding type_of
  over_typed ov.Each p q t =
      let a = on_ty_out (type_of w.schema q te ti) (λ a. on_ty (elem a) (λ u. on_ty (type_of w.schema p te u) (λ v. a_bag v ∷ []))) tu [] t.type in
      let b = on_ty_out (elem a.0) (λ u. on_ty (type_of w.schema p te u) (λ v. a_bag v ∷ [])) tu [] a.3 in
      let c = on_ty_out (type_of w.schema p te b.0) (λ v. a_bag v ∷ []) tu [] b.3 in
      let s = of_second ov.Each p q t a.0 a.1 a.2 in
      let e : a.0 ≡ a_bag b.0 = elem_out a.0 b.0 b.1 b.2 in
      (a.0, s, (b.0, c.0, e, first_looks ov.Each p q t b.0 c.0 c.1 (fine_elem (subst (λ z. Fine w.names (t.high + 2 * size_q q) z) e (fine_high s))) c.2))
  over_typed ov.Keep p q t =
      let a = on_ty_out (type_of w.schema q te ti) (λ a. on_ty (elem a) (λ u. on_ty (type_of w.schema p te u) (λ v. if_so (same_ty v a_truth) (a ∷ [])))) tu [] t.type in
      let b = on_ty_out (elem a.0) (λ u. on_ty (type_of w.schema p te u) (λ v. if_so (same_ty v a_truth) (a.0 ∷ []))) tu [] a.3 in
      let c = on_ty_out (type_of w.schema p te b.0) (λ v. if_so (same_ty v a_truth) (a.0 ∷ [])) tu [] b.3 in
      let s = of_second ov.Keep p q t a.0 a.1 a.2 in
      let e : a.0 ≡ a_bag b.0 = elem_out a.0 b.0 b.1 b.2 in
      (a.0, s, (b.0, c.0, e, first_looks ov.Keep p q t b.0 c.0 c.1 (fine_elem (subst (λ z. Fine w.names (t.high + 2 * size_q q) z) e (fine_high s))) c.2))
  over_typed ov.Then p q t =
      let a = on_ty_out (type_of w.schema q te ti) (λ a. type_of w.schema p te a) tu [] t.type in
      let s = of_second ov.Then p q t a.0 a.1 a.2 in
      (a.0, s, first_looks ov.Then p q t a.0 tu [] (fine_high s) a.3)
  over_typed ov.WithEnv p q t =
      let y = over_parts ov.WithEnv p q in
      let a = on_ty_out (type_of w.schema q te ti) (λ a. type_of w.schema p a ti) tu [] t.type in
      let s = of_second ov.WithEnv p q t a.0 a.1 a.2 in (
        a.0,
        s,
        record {
          type = a.3;
          called = (y.names w.names t.called).0;
          high = t.high + 2 * size_q q;
          schema_low = omega (arith, t.schema_low);
          fine_env = fine_high s;
          fine_it = fine_more (omega arith) t.fine_it;
          low = omega (arith, t.low, y.size);
        },
      )
