-- Types of what operators come to, by what is known of the types that they are given.
use Rattle.std.proofs.Common.{◌≡◌, Bool, true, false, ◌&&◌, List, [], ◌∷◌, sym, refl, ap, ◌∙◌, true≢false}
use mathlib.Core.Bool.{false≢true}
use Rattle.query.specs.Query.{not_so, flat, count, sum, distinct, equal, and, or, plus, less, join_bags, within, Ty, a_num, a_truth, a_bag}
use Rattle.query.specs.Types.{same_ty, as_num, elem, on_ty, if_so, type1, type2}
use Rattle.query.proofs.TypeParts.{same_ty_out, same_ty_self, elem_out, num_out}

pub if_yes : (b : Bool) (ts : List Ty) → true ≡ b → if_so b ts ≡ ts
unfolding if_so
if_yes true ts h = refl
if_yes false ts h = absurd (true≢false h)

pub if_no : (b : Bool) (ts : List Ty) → false ≡ b → if_so b ts ≡ []
unfolding if_so
if_no true ts h = absurd (false≢true h)
if_no false ts h = refl

pub on_is : {A B : Type 0} (l : List A) (x : A) (f : A → List B) → l ≡ x ∷ [] → on_ty l f ≡ f x
unfolding on_ty
on_is l x f e = ap (λ z. on_ty z f) e

pub on_none : {A B : Type 0} (l : List A) (f : A → List B) → l ≡ [] → on_ty l f ≡ []
unfolding on_ty
on_none l f e = ap (λ z. on_ty z f) e

both_yes : (a b : Bool) → true ≡ a → true ≡ b → true ≡ a && b
both_yes true true p q = refl
both_yes true false p q = absurd (true≢false q)
both_yes false b p q = absurd (true≢false p)

first_no : (a b : Bool) → false ≡ a → false ≡ a && b
first_no true b p = absurd (false≢true p)
first_no false b p = refl

second_no : (a b : Bool) → false ≡ b → false ≡ a && b
second_no true b p = p
second_no false b p = refl

pub bag_is : (t u : Ty) → elem t ≡ u ∷ [] → a_bag u ∷ [] ≡ t ∷ []
bag_is t u e = ap (λ (z : Ty). z ∷ []) (sym (elem_out t u [] e))

truth_is : (t : Ty) → true ≡ same_ty t a_truth → a_truth ∷ [] ≡ t ∷ []
truth_is t e = ap (λ (z : Ty). z ∷ []) (sym (same_ty_out t a_truth (sym e)))

num_is : (t : Ty) → true ≡ as_num t → a_num ∷ [] ≡ t ∷ []
num_is t e = ap (λ (z : Ty). z ∷ []) (sym (num_out t (sym e)))

pub apart_no : (t u : Ty) → (t ≡ u → ⊥) → false ≡ same_ty t u
apart_no t u h = by (same_ty t u) refl
  where
    by : (b : Bool) → same_ty t u ≡ b → false ≡ b
    by true q = absurd (h (same_ty_out t u q))
    by false q = refl

pub alike_yes : (t u : Ty) → t ≡ u → true ≡ same_ty t u
alike_yes t u e = sym (ap (λ z. same_ty t z) (sym e) ∙ same_ty_self t)

-- operators of one
module _ (t : Ty) where
  pub not_yes : true ≡ same_ty t a_truth → type1 not_so t ≡ t ∷ []
  unfolding type1
  not_yes e = if_yes _ _ e ∙ truth_is t e

  pub not_no : false ≡ same_ty t a_truth → type1 not_so t ≡ []
  unfolding type1
  not_no e = if_no _ _ e

  pub flat_is : (u v : Ty) → elem t ≡ u ∷ [] → elem u ≡ v ∷ [] → type1 flat t ≡ u ∷ []
  unfolding type1
  flat_is u v e f = on_is (elem t) u _ e ∙ (on_is (elem u) v _ f ∙ bag_is u v f)

  pub flat_none : elem t ≡ [] → type1 flat t ≡ []
  unfolding type1
  flat_none e = on_none (elem t) _ e

  pub flat_none_in : (u : Ty) → elem t ≡ u ∷ [] → elem u ≡ [] → type1 flat t ≡ []
  unfolding type1
  flat_none_in u e f = on_is (elem t) u _ e ∙ on_none (elem u) _ f

  pub count_is : (u : Ty) → elem t ≡ u ∷ [] → type1 count t ≡ a_num ∷ []
  unfolding type1
  count_is u e = on_is (elem t) u _ e

  pub count_none : elem t ≡ [] → type1 count t ≡ []
  unfolding type1
  count_none e = on_none (elem t) _ e

  pub sum_yes : (u : Ty) → elem t ≡ u ∷ [] → true ≡ as_num u → type1 sum t ≡ u ∷ []
  unfolding type1
  sum_yes u e f = on_is (elem t) u _ e ∙ (if_yes _ _ f ∙ num_is u f)

  pub sum_no : (u : Ty) → elem t ≡ u ∷ [] → false ≡ as_num u → type1 sum t ≡ []
  unfolding type1
  sum_no u e f = on_is (elem t) u _ e ∙ if_no _ _ f

  pub sum_none : elem t ≡ [] → type1 sum t ≡ []
  unfolding type1
  sum_none e = on_none (elem t) _ e

  pub distinct_is : (u : Ty) → elem t ≡ u ∷ [] → type1 distinct t ≡ t ∷ []
  unfolding type1
  distinct_is u e = on_is (elem t) u _ e ∙ bag_is t u e

  pub distinct_none : elem t ≡ [] → type1 distinct t ≡ []
  unfolding type1
  distinct_none e = on_none (elem t) _ e

-- operators of two
module _ (t u : Ty) where
  pub equal_yes : t ≡ u → type2 equal t u ≡ a_truth ∷ []
  unfolding type2
  equal_yes e = if_yes _ _ (alike_yes t u e)

  pub equal_no : (t ≡ u → ⊥) → type2 equal t u ≡ []
  unfolding type2
  equal_no e = if_no _ _ (apart_no t u e)

  pub and_yes : true ≡ same_ty t a_truth → true ≡ same_ty u a_truth → type2 and t u ≡ t ∷ []
  unfolding type2
  and_yes e f = if_yes _ _ (both_yes _ _ e f) ∙ truth_is t e

  pub and_first : false ≡ same_ty t a_truth → type2 and t u ≡ []
  unfolding type2
  and_first e = if_no _ _ (first_no _ _ e)

  pub and_second : false ≡ same_ty u a_truth → type2 and t u ≡ []
  unfolding type2
  and_second e = if_no _ _ (second_no (same_ty t a_truth) _ e)

  pub or_is : type2 or t u ≡ type2 and t u
  unfolding type2
  or_is = refl

  pub plus_yes : true ≡ as_num t → true ≡ as_num u → type2 plus t u ≡ t ∷ []
  unfolding type2
  plus_yes e f = if_yes _ _ (both_yes _ _ e f) ∙ num_is t e

  pub plus_first : false ≡ as_num t → type2 plus t u ≡ []
  unfolding type2
  plus_first e = if_no _ _ (first_no _ _ e)

  pub plus_second : false ≡ as_num u → type2 plus t u ≡ []
  unfolding type2
  plus_second e = if_no _ _ (second_no (as_num t) _ e)

  pub less_yes : true ≡ as_num t → true ≡ as_num u → type2 less t u ≡ a_truth ∷ []
  unfolding type2
  less_yes e f = if_yes _ _ (both_yes _ _ e f)

  pub less_first : false ≡ as_num t → type2 less t u ≡ []
  unfolding type2
  less_first e = if_no _ _ (first_no _ _ e)

  pub less_second : false ≡ as_num u → type2 less t u ≡ []
  unfolding type2
  less_second e = if_no _ _ (second_no (as_num t) _ e)

  pub bags_yes : (v : Ty) → elem t ≡ v ∷ [] → t ≡ u → type2 join_bags t u ≡ t ∷ []
  unfolding type2
  bags_yes v e f = on_is (elem t) v _ e ∙ if_yes _ _ (alike_yes t u f)

  pub bags_no : (v : Ty) → elem t ≡ v ∷ [] → (t ≡ u → ⊥) → type2 join_bags t u ≡ []
  unfolding type2
  bags_no v e f = on_is (elem t) v _ e ∙ if_no _ _ (apart_no t u f)

  pub bags_none : elem t ≡ [] → type2 join_bags t u ≡ []
  unfolding type2
  bags_none e = on_none (elem t) _ e

  pub within_yes : (v : Ty) → elem u ≡ v ∷ [] → t ≡ v → type2 within t u ≡ a_truth ∷ []
  unfolding type2
  within_yes v e f = on_is (elem u) v _ e ∙ if_yes _ _ (alike_yes t v f)

  pub within_no : (v : Ty) → elem u ≡ v ∷ [] → (t ≡ v → ⊥) → type2 within t u ≡ []
  unfolding type2
  within_no v e f = on_is (elem u) v _ e ∙ if_no _ _ (apart_no t v f)

  pub within_none : elem u ≡ [] → type2 within t u ≡ []
  unfolding type2
  within_none e = on_none (elem u) _ e
