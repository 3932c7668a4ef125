-- Data that are told to be the same are the same, and each is the same as itself.
use mathlib.Core.Path.{◌≡◌, refl, sym, ◌∙◌, ap, ap₂}
use mathlib.Core.Bool.{Bool, true, false, not, ◌&&◌, ◌||◌, false≢true}
use mathlib.Core.List.{List}
use Prim.Native.Nat.{ℕ}
use Rattle.query.specs.Data.{same_text, Name, Data, Datas, Fields, is_unit, is_num, is_truth, is_text, is_bag, is_rec, is_left, is_right, is_none, is_more, is_no_field, is_field, same, same_all, same_fields, unit, num, truth, text, bag, rec, left, right, none, more, no_field, field}
use Rattle.query.specs.Laws.{SameIsSame}
use Rattle.query.proofs.Tests.{and_l, and_r, and_i, eqb_true, eqb_self}
use Rattle.query.proofs.Texts.{same_text_true, same_text_self}

bool_same : (a b : Bool) → ((a && b) || (not a && not b)) ≡ true → a ≡ b
bool_same true true h = refl
bool_same true false h = sym h
bool_same false true h = h
bool_same false false h = refl

bool_self : (a : Bool) → ((a && a) || (not a && not a)) ≡ true
bool_self true = refl
bool_self false = refl

un_unit : (e : Data) → is_unit e ≡ true → unit ≡ e
unfolding is_unit
un_unit unit h = refl
un_unit (num y) h = absurd (false≢true h)
un_unit (truth y) h = absurd (false≢true h)
un_unit (text y) h = absurd (false≢true h)
un_unit (bag y) h = absurd (false≢true h)
un_unit (rec y) h = absurd (false≢true h)
un_unit (left y) h = absurd (false≢true h)
un_unit (right y) h = absurd (false≢true h)

un_num : (n : ℕ) (e : Data) → is_num n e ≡ true → num n ≡ e
unfolding is_num
un_num n unit h = absurd (false≢true h)
un_num n (num y) h = ap num (eqb_true n y h)
un_num n (truth y) h = absurd (false≢true h)
un_num n (text y) h = absurd (false≢true h)
un_num n (bag y) h = absurd (false≢true h)
un_num n (rec y) h = absurd (false≢true h)
un_num n (left y) h = absurd (false≢true h)
un_num n (right y) h = absurd (false≢true h)

un_truth : (b : Bool) (e : Data) → is_truth b e ≡ true → truth b ≡ e
unfolding is_truth
un_truth b unit h = absurd (false≢true h)
un_truth b (num y) h = absurd (false≢true h)
un_truth b (truth y) h = ap truth (bool_same b y h)
un_truth b (text y) h = absurd (false≢true h)
un_truth b (bag y) h = absurd (false≢true h)
un_truth b (rec y) h = absurd (false≢true h)
un_truth b (left y) h = absurd (false≢true h)
un_truth b (right y) h = absurd (false≢true h)

un_text : (t : List ℕ) (e : Data) → is_text t e ≡ true → text t ≡ e
unfolding is_text
un_text t unit h = absurd (false≢true h)
un_text t (num y) h = absurd (false≢true h)
un_text t (truth y) h = absurd (false≢true h)
un_text t (text y) h = ap text (same_text_true t y h)
un_text t (bag y) h = absurd (false≢true h)
un_text t (rec y) h = absurd (false≢true h)
un_text t (left y) h = absurd (false≢true h)
un_text t (right y) h = absurd (false≢true h)

un_bag : (f : Datas → Bool) (e : Data) → is_bag f e ≡ true → (y : Datas) × (bag y ≡ e) × (f y ≡ true)
unfolding is_bag
un_bag f unit h = absurd (false≢true h)
un_bag f (num y) h = absurd (false≢true h)
un_bag f (truth y) h = absurd (false≢true h)
un_bag f (text y) h = absurd (false≢true h)
un_bag f (bag y) h = (y, refl, h)
un_bag f (rec y) h = absurd (false≢true h)
un_bag f (left y) h = absurd (false≢true h)
un_bag f (right y) h = absurd (false≢true h)

un_rec : (f : Fields → Bool) (e : Data) → is_rec f e ≡ true → (y : Fields) × (rec y ≡ e) × (f y ≡ true)
unfolding is_rec
un_rec f unit h = absurd (false≢true h)
un_rec f (num y) h = absurd (false≢true h)
un_rec f (truth y) h = absurd (false≢true h)
un_rec f (text y) h = absurd (false≢true h)
un_rec f (bag y) h = absurd (false≢true h)
un_rec f (rec y) h = (y, refl, h)
un_rec f (left y) h = absurd (false≢true h)
un_rec f (right y) h = absurd (false≢true h)

un_left : (f : Data → Bool) (e : Data) → is_left f e ≡ true → (y : Data) × (left y ≡ e) × (f y ≡ true)
unfolding is_left
un_left f unit h = absurd (false≢true h)
un_left f (num y) h = absurd (false≢true h)
un_left f (truth y) h = absurd (false≢true h)
un_left f (text y) h = absurd (false≢true h)
un_left f (bag y) h = absurd (false≢true h)
un_left f (rec y) h = absurd (false≢true h)
un_left f (left y) h = (y, refl, h)
un_left f (right y) h = absurd (false≢true h)

un_right : (f : Data → Bool) (e : Data) → is_right f e ≡ true → (y : Data) × (right y ≡ e) × (f y ≡ true)
unfolding is_right
un_right f unit h = absurd (false≢true h)
un_right f (num y) h = absurd (false≢true h)
un_right f (truth y) h = absurd (false≢true h)
un_right f (text y) h = absurd (false≢true h)
un_right f (bag y) h = absurd (false≢true h)
un_right f (rec y) h = absurd (false≢true h)
un_right f (left y) h = absurd (false≢true h)
un_right f (right y) h = (y, refl, h)

un_none : (es : Datas) → is_none es ≡ true → none ≡ es
unfolding is_none
un_none none h = refl
un_none (more e es) h = absurd (false≢true h)

un_more : (f : Data → Bool) (g : Datas → Bool) (es : Datas) → is_more f g es ≡ true → (x : Data) × (xs : Datas) × (more x xs ≡ es) × (f x ≡ true) × (g xs ≡ true)
unfolding is_more
un_more f g none h = absurd (false≢true h)
un_more f g (more e es) h = (e, es, refl, and_l (f e) (g es) h, and_r (f e) (g es) h)

un_no_field : (gs : Fields) → is_no_field gs ≡ true → no_field ≡ gs
unfolding is_no_field
un_no_field no_field h = refl
un_no_field (field m e es) h = absurd (false≢true h)

un_field : (n : Name) (f : Data → Bool) (g : Fields → Bool) (gs : Fields) → is_field n f g gs ≡ true → (x : Data) × (xs : Fields) × (field n x xs ≡ gs) × (f x ≡ true) × (g xs ≡ true)
unfolding is_field
un_field n f g no_field h = absurd (false≢true h)
un_field n f g (field m e es) h =
    (e, es, ap (λ (k : Name). field k e es) (same_text_true n m (and_l (same_text n m) (f e && g es) h)), and_l (f e) (g es) (and_r (same_text n m) (f e && g es) h), and_r (f e) (g es) (and_r (same_text n m) (f e && g es) h))

mutual
  unfolding same same_all same_fields

  pub same→≡ : (d e : Data) → same d e ≡ true → d ≡ e
  same→≡ unit e h = un_unit e h
  same→≡ (num n) e h = un_num n e h
  same→≡ (truth b) e h = un_truth b e h
  same→≡ (text t) e h = un_text t e h
  same→≡ (bag ds) e h = let u = un_bag (λ es. same_all ds es) e h in ap bag (all→≡ ds u.0 u.2) ∙ u.1
  same→≡ (rec fs) e h = let u = un_rec (λ gs. same_fields fs gs) e h in ap rec (fields→≡ fs u.0 u.2) ∙ u.1
  same→≡ (left d) e h = let u = un_left (λ x. same d x) e h in ap left (same→≡ d u.0 u.2) ∙ u.1
  same→≡ (right d) e h = let u = un_right (λ x. same d x) e h in ap right (same→≡ d u.0 u.2) ∙ u.1

  pub all→≡ : (ds es : Datas) → same_all ds es ≡ true → ds ≡ es
  all→≡ none es h = un_none es h
  all→≡ (more d ds) es h =
      let u = un_more (λ x. same d x) (λ xs. same_all ds xs) es h in ap₂ more (same→≡ d u.0 u.3) (all→≡ ds u.1 u.4) ∙ u.2

  pub fields→≡ : (fs gs : Fields) → same_fields fs gs ≡ true → fs ≡ gs
  fields→≡ no_field gs h = un_no_field gs h
  fields→≡ (field n d fs) gs h =
      let u = un_field n (λ x. same d x) (λ xs. same_fields fs xs) gs h in ap₂ (field n) (same→≡ d u.0 u.3) (fields→≡ fs u.1 u.4) ∙ u.2

mutual
  unfolding same same_all same_fields is_unit is_num is_truth is_text is_bag is_rec is_left is_right is_none is_more is_no_field is_field

  pub same_self : (d : Data) → same d d ≡ true
  same_self unit = refl
  same_self (num n) = eqb_self n
  same_self (truth b) = bool_self b
  same_self (text t) = same_text_self t
  same_self (bag ds) = all_self ds
  same_self (rec fs) = fields_self fs
  same_self (left d) = same_self d
  same_self (right d) = same_self d

  pub all_self : (ds : Datas) → same_all ds ds ≡ true
  all_self none = refl
  all_self (more d ds) = and_i (same d d) (same_all ds ds) (same_self d) (all_self ds)

  pub fields_self : (fs : Fields) → same_fields fs fs ≡ true
  fields_self no_field = refl
  fields_self (field n d fs) = and_i (same_text n n) (same d d && same_fields fs fs) (same_text_self n) (and_i (same d d) (same_fields fs fs) (same_self d) (fields_self fs))

pub same_is_same : SameIsSame
unfolding SameIsSame
same_is_same d e = (same→≡ d e, same_self d)
