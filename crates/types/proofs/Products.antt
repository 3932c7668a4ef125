-- Types of products and matchings, step by step.
use Rattle.std.proofs.Common.{◌≡◌, ℕ, true, false, List, [], ◌∷◌, Some, None, Option, sym, refl, ◌∙◌, ap₂, arith}
use Rattle.query.specs.Data.{Name}
use Rattle.query.specs.Query.{in_bag, dot, join_recs, Ty, a_bag, a_rec, Tys}
use Rattle.query.specs.Types.{same_ty, elem, fields_of, on_ty, if_so, get_ty, both_tys, type1, type2, fields_in}
use Rattle.types.specs.Shapes.{type_at}
use Rattle.types.specs.Operators.{product_ty, matched_ty, paired_ty}
use Rattle.types.specs.Outcomes.{look, Meant}
use Rattle.types.specs.declared.table.Table.{Table}
use Rattle.types.proofs.Meanings.{meant_more, meant_if, bind_none, bind_some, stays_if, seen}
use Rattle.types.proofs.Operators.{on_is, on_none, if_yes, if_no}

none_each : {A B : Type 0} (l : List A) (e : List B) → e ≡ [] → on_ty l (λ (x : A). e) ≡ []
unfolding on_ty
none_each [] e h = refl
none_each (x ∷ l) e h = h

pair_in : (p q : List Tys) → on_ty p (λ ts. on_ty q (λ us. a_bag (a_rec (both_tys ts us)) ∷ [])) ≡ on_ty (on_ty p (λ ts. on_ty q (λ us. a_rec (both_tys ts us) ∷ []))) (λ r. type1 in_bag r)
unfolding on_ty type1
pair_in [] q = refl
pair_in (ts ∷ p) [] = refl
pair_in (ts ∷ p) (us ∷ q) = refl

-- with what is in both bags
product_in : (x y a b : Ty) → elem x ≡ a ∷ [] → elem y ≡ b ∷ [] → product_ty x y ≡ paired_ty a b
unfolding type2
product_in x y a b e f =
    ap₂ (λ (p q : List Tys). on_ty p (λ ts. on_ty q (λ us. a_bag (a_rec (both_tys ts us)) ∷ []))) (on_is (elem x) a (λ u. fields_of u) e) (on_is (elem y) b (λ u. fields_of u) f)
    ∙ pair_in (fields_of a) (fields_of b)

product_first : (x y : Ty) → elem x ≡ [] → product_ty x y ≡ []
product_first x y e = on_none (fields_in x) _ (on_none (elem x) _ e)

none_in : {A B C : Type 0} (p : List A) (q : List B) (g : A → B → List C) → q ≡ [] → on_ty p (λ ts. on_ty q (g ts)) ≡ []
unfolding on_ty
none_in [] q g e = refl
none_in (ts ∷ p) q g e = on_none q (g ts) e

product_second : (x y : Ty) → elem y ≡ [] → product_ty x y ≡ []
product_second x y e = none_in (fields_in x) (fields_in y) (λ ts us. a_bag (a_rec (both_tys ts us)) ∷ []) (on_none (elem y) _ e)

match_in : (m n : Name) (p q : List Tys) → on_ty p (λ ts. on_ty q (λ us. on_ty (get_ty m ts) (λ x. on_ty (get_ty n us) (λ y. if_so (same_ty x y) (a_bag (a_rec (both_tys ts us)) ∷ [])))))
    ≡ on_ty (on_ty p (λ ts. get_ty m ts)) (λ x. on_ty (on_ty q (λ us. get_ty n us)) (λ y. if_so (same_ty x y) (on_ty (on_ty p (λ ts. on_ty q (λ us. a_rec (both_tys ts us) ∷ []))) (λ r. type1 in_bag r))))
unfolding on_ty type1
match_in m n [] q = refl
match_in m n (ts ∷ p) [] = sym (none_each (get_ty m ts) [] refl)
match_in m n (ts ∷ p) (us ∷ q) = refl

matched_in : (m n : Name) (x y a b : Ty) → elem x ≡ a ∷ [] → elem y ≡ b ∷ [] → matched_ty m n x y ≡ on_ty (type1 (dot m) a) (λ u. on_ty (type1 (dot n) b) (λ v. if_so (same_ty u v) (paired_ty a b)))
unfolding type1 type2
matched_in m n x y a b e f =
    ap₂ (λ (p q : List Tys). on_ty p (λ ts. on_ty q (λ us. on_ty (get_ty m ts) (λ x. on_ty (get_ty n us) (λ y. if_so (same_ty x y) (a_bag (a_rec (both_tys ts us)) ∷ []))))))
    (on_is (elem x) a (λ u. fields_of u) e) (on_is (elem y) b (λ u. fields_of u) f)
    ∙ match_in m n (fields_of a) (fields_of b)

matched_first : (m n : Name) (x y : Ty) → elem x ≡ [] → matched_ty m n x y ≡ []
matched_first m n x y e = on_none (fields_in x) _ (on_none (elem x) _ e)

matched_second : (m n : Name) (x y : Ty) → elem y ≡ [] → matched_ty m n x y ≡ []
matched_second m n x y e = none_in (fields_in x) (fields_in y) (λ ts us. on_ty (get_ty m ts) (λ x. on_ty (get_ty n us) (λ y. if_so (same_ty x y) (a_bag (a_rec (both_tys ts us)) ∷ [])))) (on_none (elem y) _ e)

-- outcomes
pub paired_none : {ns : List Name} {t u : Table} {w : ℕ} (x y : Ty) → Meant ns t u 1 w None (type2 join_recs x y) → Meant ns t u 2 w None (paired_ty x y)
paired_none {w = w} x y m = meant_more (bind_none 1 0 m (λ r. type1 in_bag r)) 2 w (omega arith) (omega arith)

pub paired_some : {ns : List Name} {t u v : Table} {w i : ℕ} {r : Option ℕ} (x y : Ty) → Meant ns t u 1 w (Some i) (type2 join_recs x y) → Meant ns u v 1 0 r (type1 in_bag (type_at ns (look u) i)) → Meant ns t v 2 w r (paired_ty x y)
paired_some {w = w} x y m n = meant_more (bind_some m (λ r. type1 in_bag r) n) 2 w (omega arith) (omega arith)

module _ {ns : List Name} {t : Table} {w : ℕ} (x y : Ty) where
  pub product_none : Meant ns t t 0 0 None (elem x) → Meant ns t t 2 w None (product_ty x y)
  product_none m = stays_if 2 w None _ (λ o. product_first x y (seen m o))

  pub product_none_second : Meant ns t t 0 0 None (elem y) → Meant ns t t 2 w None (product_ty x y)
  product_none_second m = stays_if 2 w None _ (λ o. product_second x y (seen m o))

  pub product_some : {u : Table} {a b : ℕ} {r : Option ℕ} → Meant ns t t 0 0 (Some a) (elem x) → Meant ns t t 0 0 (Some b) (elem y) → Meant ns t u 2 w r (paired_ty (type_at ns (look t) a) (type_at ns (look t) b)) → Meant ns t u 2 w r (product_ty x y)
  product_some m n p = meant_if p _ (λ o. product_in x y _ _ (seen m o) (seen n o))

  module _ (m n : Name) where
    pub matched_none : Meant ns t t 0 0 None (elem x) → Meant ns t t 2 w None (matched_ty m n x y)
    matched_none k = stays_if 2 w None _ (λ o. matched_first m n x y (seen k o))

    pub matched_none_second : Meant ns t t 0 0 None (elem y) → Meant ns t t 2 w None (matched_ty m n x y)
    matched_none_second k = stays_if 2 w None _ (λ o. matched_second m n x y (seen k o))

    module _ {a b : ℕ} (k : Meant ns t t 0 0 (Some a) (elem x)) (l : Meant ns t t 0 0 (Some b) (elem y)) where
      pub matched_no_field : Meant ns t t 0 0 None (type1 (dot m) (type_at ns (look t) a)) → Meant ns t t 2 w None (matched_ty m n x y)
      matched_no_field d = stays_if 2 w None _ (λ o. matched_in m n x y _ _ (seen k o) (seen l o) ∙ on_none _ _ (seen d o))

      module _ {c : ℕ} (d : Meant ns t t 0 0 (Some c) (type1 (dot m) (type_at ns (look t) a))) where
        pub matched_no_field_second : Meant ns t t 0 0 None (type1 (dot n) (type_at ns (look t) b)) → Meant ns t t 2 w None (matched_ty m n x y)
        matched_no_field_second e = stays_if 2 w None _ (λ o. matched_in m n x y _ _ (seen k o) (seen l o) ∙ (on_is _ _ _ (seen d o) ∙ on_none _ _ (seen e o)))

        module _ {f : ℕ} (e : Meant ns t t 0 0 (Some f) (type1 (dot n) (type_at ns (look t) b))) where
          pub matched_apart : false ≡ same_ty (type_at ns (look t) c) (type_at ns (look t) f) → Meant ns t t 2 w None (matched_ty m n x y)
          matched_apart q = stays_if 2 w None _ (λ o. matched_in m n x y _ _ (seen k o) (seen l o) ∙ (on_is _ _ _ (seen d o) ∙ (on_is _ _ _ (seen e o) ∙ if_no _ _ q)))

          pub matched_some : {u : Table} {r : Option ℕ} → true ≡ same_ty (type_at ns (look t) c) (type_at ns (look t) f) → Meant ns t u 2 w r (paired_ty (type_at ns (look t) a) (type_at ns (look t) b)) → Meant ns t u 2 w r (matched_ty m n x y)
          matched_some q p = meant_if p _ (λ o. matched_in m n x y _ _ (seen k o) (seen l o) ∙ (on_is _ _ _ (seen d o) ∙ (on_is _ _ _ (seen e o) ∙ if_yes _ _ q)))
