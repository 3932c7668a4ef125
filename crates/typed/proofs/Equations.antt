-- The types of queries, by how those of their parts are put together.
use Rattle.std.proofs.Common.{◌≡◌, List, [], ◌∷◌, refl, ap}
use Rattle.query.specs.Query.{Ty, a_bag, a_rec, Query, then, with_env, either}
use Rattle.query.specs.Types.{Sides, sides_of, same_ty, elem, on_ty, if_so, get_ty, both_tys, fields_in, type2, Schema, type_of}
use Rattle.typed.specs.Shaped.{Made1, op1, on_left, on_right, one_query, one_type, Made2, op2, all, where_same, or_else, two_query, two_type, over_query, over_type}
use Rattle.typed.specs.declared.shape.Over.{Over}
use Rattle.typed.specs.declared.shape.Over.TheVariants as ov

on_same : {A B : Type 0} (xs : List A) (f g : A → List B) → ((x : A) → f x ≡ g x) → on_ty xs f ≡ on_ty xs g
unfolding on_ty
on_same [] f g h = refl
on_same (x ∷ xs) f g h = h x

-- one after the other, in either order
turned : {A B C : Type 0} (xs : List A) (ys : List B) (k : A → B → List C) → on_ty xs (λ a. on_ty ys (λ b. k a b)) ≡ on_ty ys (λ b. on_ty xs (λ a. k a b))
unfolding on_ty
turned [] [] k = refl
turned [] (y ∷ ys) k = refl
turned (x ∷ xs) [] k = refl
turned (x ∷ xs) (y ∷ ys) k = refl

module _ (ss : Schema) where
  pub type_one : (k : Made1) (p : Query) (e i : Ty) → type_of ss (one_query k p) e i ≡ on_ty (type_of ss p e i) (λ a. one_type k a)
  unfolding type_of
  type_one (op1 o) p e i = refl
  type_one (on_left t) p e i = refl
  type_one (on_right t) p e i = refl

  pub type_two : (k : Made2) (p q : Query) (e i : Ty) → type_of ss (two_query k p q) e i ≡ on_ty (type_of ss p e i) (λ a. on_ty (type_of ss q e i) (λ b. two_type k a b))
  unfolding type_of type2
  type_two (op2 o) p q e i = refl
  type_two all p q e i =
      on_same (type_of ss p e i) _ _ (λ a. turned (fields_in a) (type_of ss q e i) (λ ts b. on_ty (fields_in b) (λ us. a_bag (a_rec (both_tys ts us)) ∷ [])))
  type_two (where_same m n) p q e i =
      on_same (type_of ss p e i) _ _ (λ a. turned (fields_in a) (type_of ss q e i) (λ ts b. on_ty (fields_in b) (λ us. on_ty (get_ty m ts) (λ x. on_ty (get_ty n us) (λ y. if_so (same_ty x y) (a_bag (a_rec (both_tys ts us)) ∷ []))))))
  type_two or_else p q e i = on_same (type_of ss p e i) _ _ (λ a. turned (elem a) (type_of ss q e i) (λ u b. if_so (same_ty a b) (a ∷ [])))

  pub type_over : (o : Over) (p q : Query) (e i : Ty) → type_of ss (over_query o p q) e i ≡ on_ty (type_of ss q e i) (λ a. on_ty (elem a) (λ u. on_ty (type_of ss p e u) (λ v. over_type o a v)))
  unfolding type_of
  type_over ov.Each p q e i = refl
  type_over ov.Keep p q e i = refl

  pub type_then : (p q : Query) (e i : Ty) → type_of ss (then p q) e i ≡ on_ty (type_of ss q e i) (λ a. type_of ss p e a)
  unfolding type_of
  type_then p q e i = refl

  pub type_with_env : (p q : Query) (e i : Ty) → type_of ss (with_env p q) e i ≡ on_ty (type_of ss q e i) (λ a. type_of ss p a i)
  unfolding type_of
  type_with_env p q e i = refl

  -- where the sides are known
  pub type_either : (p q : Query) (e i a b : Ty) → sides_of i ≡ record { l = a; r = b } ∷ [] → type_of ss (either p q) e i ≡ on_ty (type_of ss p e a) (λ x. on_ty (type_of ss q e b) (λ y. if_so (same_ty x y) (x ∷ [])))
  unfolding type_of on_ty
  type_either p q e i a b h = ap (λ (z : List Sides). on_ty z (λ s. on_ty (type_of ss p e s.l) (λ x. on_ty (type_of ss q e s.r) (λ y. if_so (same_ty x y) (x ∷ []))))) h

  pub type_no_sides : (p q : Query) (e i : Ty) → sides_of i ≡ [] → type_of ss (either p q) e i ≡ []
  unfolding type_of on_ty
  type_no_sides p q e i h = ap (λ (z : List Sides). on_ty z (λ s. on_ty (type_of ss p e s.l) (λ x. on_ty (type_of ss q e s.r) (λ y. if_so (same_ty x y) (x ∷ []))))) h
