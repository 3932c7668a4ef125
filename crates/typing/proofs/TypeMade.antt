-- The type of a head, from those of its parts.
use Rattle.std.proofs.Common.{Some, ◌≡◌, ℕ, zero, suc, ◌+◌, ◌-◌, ◌<◌, ◌≤◌, Bool, true, false, ◌&&◌, eqb, ltb, leb, ◌⊎◌, List, [], ◌∷◌, ◌++◌, length, get_or, take, drop, None, Option, sym, refl, ap, ◌∙◌, subst, ap₂, inl, inr, true≢false, arith, length-append}
use Rattle.std.proofs.lemmas.List.{drop_more}
use Rattle.query.specs.Data.{Name, same_text, less_text}
use Rattle.query.specs.Query.{Ty, a_unit, a_num, a_truth, a_text, a_bag, a_rec, an_either, Tys, no_ty, ty}
use Rattle.query.specs.Types.{if_so}
use Rattle.query.proofs.Texts.{same_text_self, same_text_true, less_self, less_trans, less_differs}
use Rattle.format.specs.Wire.{names_ty}
use Rattle.format.specs.Heads.{TyHead, unit_t, num_t, truth_t, text_t, bag_t, rec_t, either_t, write_ty_head, FitsTyHead, ty_arity}
use Rattle.format.specs.Nodes.{TellsType}
use Rattle.format.specs.declared.node.TypeNode.{TypeNode}
use Rattle.format.specs.declared.node.TypeNode.TheVariants as tn
use Rattle.ranks.specs.Ranks.{Ordered, names_of}
use Rattle.ranks.specs.Known.{AllIn, head_names}
use Rattle.ranks.specs.declared.names.Names.{Names}
use Rattle.ranks.specs.TypeHeads.{head_ty, kids_ty, listed_tys, kids_many}
use Rattle.ranks.proofs.TypeNames.{rec_front, rec_long}
use Rattle.types.specs.Shapes.{Shape, type_at, Ranked}
use Rattle.types.specs.Fields.{rise}
use Rattle.types.specs.Operators.{NamesOf, named, types_of, zip_ty}
use Rattle.types.specs.Outcomes.{look, Meant}
use Rattle.types.specs.declared.table.Table.{Table}
use Rattle.types.proofs.Meanings.{meant_as, meant_more}
use Rattle.typing.specs.Loads.{name_first, names_rise, head_sound, TypeMade, RanksRead}
use Rattle.typing.proofs.RankReads.{none_some}

-- names in order are told by their numbers
three : (i j : ℕ) → (i < j) ⊎ ((i ≡ j) ⊎ (j < i))
three i j = grind arith

apart_sym : (s t : Name) → less_text s t ≡ true → same_text t s ≡ false
apart_sym s t h = by (same_text t s) refl
  where
    by : (b : Bool) → same_text t s ≡ b → b ≡ false
    by true e = absurd (true≢false (sym h ∙ (ap (λ (z : Name). less_text s z) (same_text_true t s e) ∙ less_self s)))
    by false e = refl

not_both : (s t : Name) → less_text s t ≡ true → less_text t s ≡ false
not_both s t h = by (less_text t s) refl
  where
    by : (b : Bool) → less_text t s ≡ b → b ≡ false
    by true e = absurd (true≢false (sym (less_trans s t s h e) ∙ less_self s))
    by false e = refl

pub ranked : (ns : List Name) → Ordered ns → Ranked ns (length ns)
ranked ns o = record {
  many = refl;
  same = λ i j h l. elim (three i j) [
    | inl a ↦ less_differs _ _ (o i j a l) ∙ sym (no_eq i j (λ e. omega arith))
    | inr b ↦ elim b [
      | inl e ↦ ap (λ z. same_text (get_or ns i []) (get_or ns z [])) (sym e) ∙ (same_text_self (get_or ns i []) ∙ sym (yes_eq i j e))
      | inr a ↦ apart_sym _ _ (o j i a h) ∙ sym (no_eq i j (λ e. omega arith))
    ]
  ];
  less = λ i j h l. elim (three i j) [
    | inl a ↦ o i j a l ∙ sym (yes_lt i j a)
    | inr b ↦ elim b [
      | inl e ↦ ap (λ z. less_text (get_or ns i []) (get_or ns z [])) (sym e) ∙ (less_self (get_or ns i []) ∙ sym (no_lt i j (omega arith)))
      | inr a ↦ not_both _ _ (o j i a h) ∙ sym (no_lt i j (omega arith))
    ]
  ];
}
  where
    no_eq : (i j : ℕ) → (i ≡ j → ⊥) → eqb i j ≡ false
    no_eq i j h = grind arith

    yes_eq : (i j : ℕ) → i ≡ j → eqb i j ≡ true
    yes_eq i j h = grind arith

    yes_lt : (i j : ℕ) → i < j → ltb i j ≡ true
    yes_lt i j h = grind arith

    no_lt : (i j : ℕ) → j ≤ i → ltb i j ≡ false
    no_lt i j h = grind arith

rise_from : (ns : List Name) (w : ℕ) → Ranked ns w → (k : ℕ) (ks : List ℕ) → k < w → NamesOf w ks → rise (suc k) ks ≡ name_first (get_or ns k []) (named ns ks) && names_rise (named ns ks)
unfolding rise name_first names_rise named NamesOf
rise_from ns w rk k [] h n = refl
rise_from ns w rk k (j ∷ ks) h n = ap₂ (λ (a b : Bool). a && b) (leb_ltb k j ∙ sym (rk.less k j h n.0)) (rise_from ns w rk j ks n.0 n.1)
  where
    leb_ltb : (k j : ℕ) → leb (suc k) j ≡ ltb k j
    leb_ltb k j = refl

pub rise_names : (ns : List Name) (w : ℕ) → Ranked ns w → (ks : List ℕ) → NamesOf w ks → rise 0 ks ≡ names_rise (named ns ks)
unfolding rise names_rise named NamesOf
rise_names ns w rk [] n = refl
rise_names ns w rk (k ∷ ks) n = ap (λ (b : Bool). b && rise (suc k) ks) (least k) ∙ rise_from ns w rk k ks n.0 n.1
  where
    least : (k : ℕ) → leb 0 k ≡ true
    least k = grind arith

-- types of some numbers
pub types_length : (ns : List Name) (ss : List Shape) (xs : List ℕ) → length (types_of ns ss xs) ≡ length xs
unfolding types_of
types_length ns ss [] = refl
types_length ns ss (x ∷ xs) = ap suc (types_length ns ss xs)

types_take : (ns : List Name) (ss : List Shape) (k : ℕ) (xs : List ℕ) → types_of ns ss (take k xs) ≡ take k (types_of ns ss xs)
unfolding types_of
types_take ns ss zero xs = refl
types_take ns ss (suc k) [] = refl
types_take ns ss (suc k) (x ∷ xs) = ap (λ (z : List Ty). type_at ns ss x ∷ z) (types_take ns ss k xs)

take_front : (us vs : List Ty) (k : ℕ) → k ≡ length us → take k (us ++ vs) ≡ us
take_front us vs k e = ap (λ z. take z (us ++ vs)) e ∙ go us
  where
    go : (us : List Ty) → take (length us) (us ++ vs) ≡ us
    go [] = refl
    go (u ∷ us) = ap (λ (z : List Ty). u ∷ z) (go us)

pub names_take : (w k : ℕ) (xs : List ℕ) → NamesOf w xs → NamesOf w (take k xs)
unfolding NamesOf
names_take w zero xs n = tt
names_take w (suc k) [] n = tt
names_take w (suc k) (x ∷ xs) n = (n.0, names_take w k xs n.1)

pub first_below : (w top : ℕ) (st : List ℕ) → top < length st → NamesOf w (drop top st) → get_or st top 0 < w
unfolding NamesOf
first_below w top st h n = (subst (λ (z : List ℕ). NamesOf w z) (drop_more st top 0 h) n).0

pub second_below : (w top : ℕ) (st : List ℕ) → top + 1 < length st → NamesOf w (drop top st) → get_or st (top + 1) 0 < w
unfolding NamesOf
second_below w top st h n = first_below w (top + 1) st h (subst (λ (z : List ℕ). NamesOf w z) (drop_more st top 0 (omega arith)) n).1

-- the first type of some
first_type : (ns : List Name) (ss : List Shape) (st : List ℕ) (top : ℕ) (u : Ty) (us : List Ty) → top < length st → types_of ns ss (drop top st) ≡ u ∷ us → (type_at ns ss (get_or st top 0) ≡ u) × (types_of ns ss (drop (top + 1) st) ≡ us)
unfolding types_of
first_type ns ss st top u us h e =
    let q : type_at ns ss (get_or st top 0) ∷ types_of ns ss (drop (top + 1) st) ≡ u ∷ us = sym (ap (λ (z : List ℕ). types_of ns ss z) (drop_more st top 0 h)) ∙ e in
    let a : type_at ns ss (get_or st top 0) ≡ u = cc in let b : types_of ns ss (drop (top + 1) st) ≡ us = cc in (a, b)

too_few : (ns : List Name) (ss : List Shape) (st : List ℕ) (k : ℕ) (us vs : List Ty) → length us ≡ k → length st < k → types_of ns ss st ≡ us ++ vs → ⊥
too_few ns ss st k us vs l h e = omega (arith, ap (λ (z : List Ty). length z) e, length-append us vs, types_length ns ss st)

unit_is : (t : Ty) → head_ty t ≡ unit_t → t ≡ a_unit
unit_is a_unit h = refl
unit_is a_num h = let zz : ◌≡◌ {A = ℕ} 0 1 = cc in absurd (omega arith)
unit_is a_truth h = let zz : ◌≡◌ {A = ℕ} 0 1 = cc in absurd (omega arith)
unit_is a_text h = let zz : ◌≡◌ {A = ℕ} 0 1 = cc in absurd (omega arith)
unit_is (a_bag y) h = let zz : ◌≡◌ {A = ℕ} 0 1 = cc in absurd (omega arith)
unit_is (a_rec ys) h = let zz : ◌≡◌ {A = ℕ} 0 1 = cc in absurd (omega arith)
unit_is (an_either y z) h = let zz : ◌≡◌ {A = ℕ} 0 1 = cc in absurd (omega arith)

num_is : (t : Ty) → head_ty t ≡ num_t → t ≡ a_num
num_is a_unit h = let zz : ◌≡◌ {A = ℕ} 0 1 = cc in absurd (omega arith)
num_is a_num h = refl
num_is a_truth h = let zz : ◌≡◌ {A = ℕ} 0 1 = cc in absurd (omega arith)
num_is a_text h = let zz : ◌≡◌ {A = ℕ} 0 1 = cc in absurd (omega arith)
num_is (a_bag y) h = let zz : ◌≡◌ {A = ℕ} 0 1 = cc in absurd (omega arith)
num_is (a_rec ys) h = let zz : ◌≡◌ {A = ℕ} 0 1 = cc in absurd (omega arith)
num_is (an_either y z) h = let zz : ◌≡◌ {A = ℕ} 0 1 = cc in absurd (omega arith)

truth_is : (t : Ty) → head_ty t ≡ truth_t → t ≡ a_truth
truth_is a_unit h = let zz : ◌≡◌ {A = ℕ} 0 1 = cc in absurd (omega arith)
truth_is a_num h = let zz : ◌≡◌ {A = ℕ} 0 1 = cc in absurd (omega arith)
truth_is a_truth h = refl
truth_is a_text h = let zz : ◌≡◌ {A = ℕ} 0 1 = cc in absurd (omega arith)
truth_is (a_bag y) h = let zz : ◌≡◌ {A = ℕ} 0 1 = cc in absurd (omega arith)
truth_is (a_rec ys) h = let zz : ◌≡◌ {A = ℕ} 0 1 = cc in absurd (omega arith)
truth_is (an_either y z) h = let zz : ◌≡◌ {A = ℕ} 0 1 = cc in absurd (omega arith)

text_is : (t : Ty) → head_ty t ≡ text_t → t ≡ a_text
text_is a_unit h = let zz : ◌≡◌ {A = ℕ} 0 1 = cc in absurd (omega arith)
text_is a_num h = let zz : ◌≡◌ {A = ℕ} 0 1 = cc in absurd (omega arith)
text_is a_truth h = let zz : ◌≡◌ {A = ℕ} 0 1 = cc in absurd (omega arith)
text_is a_text h = refl
text_is (a_bag y) h = let zz : ◌≡◌ {A = ℕ} 0 1 = cc in absurd (omega arith)
text_is (a_rec ys) h = let zz : ◌≡◌ {A = ℕ} 0 1 = cc in absurd (omega arith)
text_is (an_either y z) h = let zz : ◌≡◌ {A = ℕ} 0 1 = cc in absurd (omega arith)

bag_is : (t : Ty) → head_ty t ≡ bag_t → (u : Ty) × (t ≡ a_bag u)
bag_is a_unit h = let zz : ◌≡◌ {A = ℕ} 0 1 = cc in absurd (omega arith)
bag_is a_num h = let zz : ◌≡◌ {A = ℕ} 0 1 = cc in absurd (omega arith)
bag_is a_truth h = let zz : ◌≡◌ {A = ℕ} 0 1 = cc in absurd (omega arith)
bag_is a_text h = let zz : ◌≡◌ {A = ℕ} 0 1 = cc in absurd (omega arith)
bag_is (a_bag y) h = (y, refl)
bag_is (a_rec ys) h = let zz : ◌≡◌ {A = ℕ} 0 1 = cc in absurd (omega arith)
bag_is (an_either y z) h = let zz : ◌≡◌ {A = ℕ} 0 1 = cc in absurd (omega arith)

either_is : (t : Ty) → head_ty t ≡ either_t → (u : Ty) × (v : Ty) × (t ≡ an_either u v)
either_is a_unit h = let zz : ◌≡◌ {A = ℕ} 0 1 = cc in absurd (omega arith)
either_is a_num h = let zz : ◌≡◌ {A = ℕ} 0 1 = cc in absurd (omega arith)
either_is a_truth h = let zz : ◌≡◌ {A = ℕ} 0 1 = cc in absurd (omega arith)
either_is a_text h = let zz : ◌≡◌ {A = ℕ} 0 1 = cc in absurd (omega arith)
either_is (a_bag y) h = let zz : ◌≡◌ {A = ℕ} 0 1 = cc in absurd (omega arith)
either_is (a_rec ys) h = let zz : ◌≡◌ {A = ℕ} 0 1 = cc in absurd (omega arith)
either_is (an_either y z) h = (y, z, refl)

rec_is : (t : Ty) (ms : List Name) → head_ty t ≡ rec_t ms → (ts : Tys) × (t ≡ a_rec ts) × (names_ty ts ≡ ms)
rec_is a_unit ms h = let zz : ◌≡◌ {A = ℕ} 0 1 = cc in absurd (omega arith)
rec_is a_num ms h = let zz : ◌≡◌ {A = ℕ} 0 1 = cc in absurd (omega arith)
rec_is a_truth ms h = let zz : ◌≡◌ {A = ℕ} 0 1 = cc in absurd (omega arith)
rec_is a_text ms h = let zz : ◌≡◌ {A = ℕ} 0 1 = cc in absurd (omega arith)
rec_is (a_bag y) ms h = let zz : ◌≡◌ {A = ℕ} 0 1 = cc in absurd (omega arith)
rec_is (a_rec ys) ms h = (ys, refl, cc)
rec_is (an_either y z) ms h = let zz : ◌≡◌ {A = ℕ} 0 1 = cc in absurd (omega arith)

arity_is : (ms : List Name) {n : ℕ} → length ms ≡ n → ty_arity (rec_t ms) ≡ n
unfolding ty_arity
arity_is ms e = e

zip_back : (ts : Tys) → zip_ty (names_ty ts) (listed_tys ts) ≡ ts
unfolding zip_ty names_ty listed_tys
zip_back no_ty = refl
zip_back (ty n t ts) = ap (λ (z : Tys). ty n t z) (zip_back ts)

-- each head
module _ (xs : List ℕ) (v : Names) (t u : Table) (st : List ℕ) (at : ℕ) (node : TypeNode) (r : Option ℕ) where
  pub unit_made : node ≡ tn.Nothing → Meant (names_of xs v) t u 1 0 r (a_unit ∷ []) → TypeMade xs v t u st at node r
  unfolding head_sound if_so
  unit_made e m y vs rest tl f q a l k =
      let i : y ≡ a_unit = unit_is y (subst (λ (z : TypeNode). TellsType z (head_ty y)) e tl) in
      meant_more (meant_as m (if_so (head_sound y) (y ∷ [])) (ap (λ (z : Ty). if_so (head_sound z) (z ∷ [])) i)) 1 (length (head_names (head_ty y))) (omega arith) (omega arith)

  pub num_made : node ≡ tn.Number → Meant (names_of xs v) t u 1 0 r (a_num ∷ []) → TypeMade xs v t u st at node r
  unfolding head_sound if_so
  num_made e m y vs rest tl f q a l k =
      let i : y ≡ a_num = num_is y (subst (λ (z : TypeNode). TellsType z (head_ty y)) e tl) in
      meant_more (meant_as m (if_so (head_sound y) (y ∷ [])) (ap (λ (z : Ty). if_so (head_sound z) (z ∷ [])) i)) 1 (length (head_names (head_ty y))) (omega arith) (omega arith)

  pub truth_made : node ≡ tn.Truth → Meant (names_of xs v) t u 1 0 r (a_truth ∷ []) → TypeMade xs v t u st at node r
  unfolding head_sound if_so
  truth_made e m y vs rest tl f q a l k =
      let i : y ≡ a_truth = truth_is y (subst (λ (z : TypeNode). TellsType z (head_ty y)) e tl) in
      meant_more (meant_as m (if_so (head_sound y) (y ∷ [])) (ap (λ (z : Ty). if_so (head_sound z) (z ∷ [])) i)) 1 (length (head_names (head_ty y))) (omega arith) (omega arith)

  pub text_made : node ≡ tn.Text → Meant (names_of xs v) t u 1 0 r (a_text ∷ []) → TypeMade xs v t u st at node r
  unfolding head_sound if_so
  text_made e m y vs rest tl f q a l k =
      let i : y ≡ a_text = text_is y (subst (λ (z : TypeNode). TellsType z (head_ty y)) e tl) in
      meant_more (meant_as m (if_so (head_sound y) (y ∷ [])) (ap (λ (z : Ty). if_so (head_sound z) (z ∷ [])) i)) 1 (length (head_names (head_ty y))) (omega arith) (omega arith)

  pub bag_made : node ≡ tn.Bag → 0 < length st → Meant (names_of xs v) t u 1 0 r (a_bag (type_at (names_of xs v) (look t) (get_or st 0 0)) ∷ []) → TypeMade xs v t u st at node r
  unfolding head_sound if_so
  bag_made e h m y vs rest tl f q a l k =
      let i = bag_is y (subst (λ (z : TypeNode). TellsType z (head_ty y)) e tl) in
      let w = first_type (names_of xs v) (look t) st 0 i.0 vs h (k ∙ ap (λ (z : Ty). kids_ty z ++ vs) i.1) in
      meant_more (meant_as m (if_so (head_sound y) (y ∷ [])) (ap (λ (z : Ty). if_so (head_sound z) (z ∷ [])) (i.1 ∙ ap a_bag (sym w.0)))) 1 (length (head_names (head_ty y))) (omega arith) (omega arith)

  pub either_made : node ≡ tn.Either → 1 < length st → Meant (names_of xs v) t u 1 0 r (an_either (type_at (names_of xs v) (look t) (get_or st 0 0)) (type_at (names_of xs v) (look t) (get_or st 1 0)) ∷ []) → TypeMade xs v t u st at node r
  unfolding head_sound if_so
  either_made e h m y vs rest tl f q a l k =
      let i = either_is y (subst (λ (z : TypeNode). TellsType z (head_ty y)) e tl) in
      let w = first_type (names_of xs v) (look t) st 0 i.0 (i.1 ∷ vs) (omega arith) (k ∙ ap (λ (z : Ty). kids_ty z ++ vs) i.2) in
      let w2 = first_type (names_of xs v) (look t) st 1 i.1 vs h w.1 in
      meant_more (meant_as m (if_so (head_sound y) (y ∷ [])) (ap (λ (z : Ty). if_so (head_sound z) (z ∷ [])) (i.2 ∙ ap₂ an_either (sym w.0) (sym w2.0)))) 1 (length (head_names (head_ty y))) (omega arith) (omega arith)

  pub bag_short : node ≡ tn.Bag → length st < 1 → TypeMade xs v t t st at node None
  bag_short e h y vs rest tl f q a l k =
      let i = bag_is y (subst (λ (z : TypeNode). TellsType z (head_ty y)) e tl) in
      absurd (too_few (names_of xs v) (look t) st 1 (i.0 ∷ []) vs refl h (k ∙ ap (λ (z : Ty). kids_ty z ++ vs) i.1))

  pub either_short : node ≡ tn.Either → length st < 2 → TypeMade xs v t t st at node None
  either_short e h y vs rest tl f q a l k =
      let i = either_is y (subst (λ (z : TypeNode). TellsType z (head_ty y)) e tl) in
      absurd (too_few (names_of xs v) (look t) st 2 (i.0 ∷ i.1 ∷ []) vs refl h (k ∙ ap (λ (z : Ty). kids_ty z ++ vs) i.2))

  -- a record's
  module _ (n : ℕ) (in_bytes : at ≤ length xs) where
    pub rec_short : length xs - at < 5 → TypeMade xs v t t st at (tn.Record n) None
    rec_short h y vs rest tl f q a l k = absurd (omega (arith, rec_long xs at tl.0 rest in_bytes (q ∙ ap (λ (z : TyHead). write_ty_head z ++ rest) tl.1)))

    module _ (ks : List ℕ) where
      read : (b : Option (Unit {0})) → RanksRead xs v ks (at + 5) n b → (y : Ty) (rest : List ℕ) → (tl : TellsType (tn.Record n) (head_ty y)) → FitsTyHead (head_ty y) → drop at xs ≡ write_ty_head (head_ty y) ++ rest → AllIn (names_of xs v) (head_names (head_ty y)) → length (head_names (head_ty y)) ≤ 8200 → (b ≡ Some tt) × (named (names_of xs v) ks ≡ tl.0)
      unfolding FitsTyHead head_names
      read b g y rest tl f q a l =
          let ms = tl.0 in
          let ln : length (head_names (head_ty y)) ≡ n = ap (λ (z : TyHead). length (head_names z)) tl.1 ∙ tl.2 in
          g.tells ms rest (subst (λ (z : TyHead). FitsTyHead z) tl.1 f).1 tl.2 (rec_front xs at ms rest (q ∙ ap (λ (z : TyHead). write_ty_head z ++ rest) tl.1))
          (subst (λ (z : TyHead). AllIn (names_of xs v) (head_names z)) tl.1 a) (omega arith)

      pub rec_unknown : RanksRead xs v ks (at + 5) n None → TypeMade xs v t t st at (tn.Record n) None
      rec_unknown g y vs rest tl f q a l k = absurd (none_some (read None g y rest tl f q a l).0)

      pub rec_few : RanksRead xs v ks (at + 5) n (Some tt) → length st < n → TypeMade xs v t t st at (tn.Record n) None
      unfolding listed_tys
      rec_few g h y vs rest tl f q a l k =
          absurd (too_few (names_of xs v) (look t) st n (kids_ty y) vs (kids_many y ∙ (ap (λ (z : TyHead). ty_arity z) tl.1 ∙ arity_is tl.0 tl.2)) h k)

      pub rec_made : RanksRead xs v ks (at + 5) n (Some tt) → Ranked (names_of xs v) (length (names_of xs v))
          → Meant (names_of xs v) t u 1 (length ks) r (if_so (rise 0 ks) (a_rec (zip_ty (named (names_of xs v) ks) (types_of (names_of xs v) (look t) (take n st))) ∷ [])) → TypeMade xs v t u st at (tn.Record n) r
      unfolding head_sound head_names
      rec_made g rk m y vs rest tl f q a l k =
          let d = read (Some tt) g y rest tl f q a l in
          let i = rec_is y tl.0 tl.1 in
          let ts = i.0 in
          let nm : named (names_of xs v) ks ≡ names_ty ts = d.1 ∙ sym i.2 in
          let many : length (listed_tys ts) ≡ n = ap (λ (z : Ty). length (kids_ty z)) (sym i.1) ∙ (kids_many y ∙ (ap (λ (z : TyHead). ty_arity z) tl.1 ∙ arity_is tl.0 tl.2)) in
          let tk : types_of (names_of xs v) (look t) (take n st) ≡ listed_tys ts =
          types_take (names_of xs v) (look t) n st ∙ (ap (λ (z : List Ty). take n z) (k ∙ ap (λ (z : Ty). kids_ty z ++ vs) i.1) ∙ take_front (listed_tys ts) vs n (sym many)) in
          let e : a_rec (zip_ty (named (names_of xs v) ks) (types_of (names_of xs v) (look t) (take n st))) ≡ y =
          ap a_rec (ap₂ (λ (p : List Name) (s : List Ty). zip_ty p s) nm tk ∙ zip_back ts) ∙ sym i.1 in
          let b : head_sound y ≡ rise 0 ks = ap (λ (z : Ty). head_sound z) i.1 ∙ (ap (λ (z : List Name). names_rise z) (sym nm) ∙ sym (rise_names (names_of xs v) (length (names_of xs v)) rk ks g.below)) in
          let ln : length ks ≡ length (head_names (head_ty y)) = g.many refl ∙ (sym tl.2 ∙ ap (λ (z : TyHead). length (head_names z)) (sym tl.1)) in
          subst (λ w. Meant (names_of xs v) t u 1 w r (if_so (head_sound y) (y ∷ []))) ln
          (meant_as m (if_so (head_sound y) (y ∷ [])) (ap₂ (λ (c : Bool) (z : Ty). if_so c (z ∷ [])) b (sym e)))

pub rec_as : (ns : List Name) (t u : Table) (r : Option ℕ) (st ps sl ks : List ℕ) (n : ℕ) → sl ≡ ks → ps ≡ take n st
    → Meant ns t u 1 (length sl) r (if_so (rise 0 sl) (a_rec (zip_ty (named ns sl) (types_of ns (look t) ps)) ∷ [])) → Meant ns t u 1 (length ks) r (if_so (rise 0 ks) (a_rec (zip_ty (named ns ks) (types_of ns (look t) (take n st))) ∷ []))
rec_as ns t u r st ps sl ks n e f m =
    subst (λ (z : List ℕ). Meant ns t u 1 (length ks) r (if_so (rise 0 ks) (a_rec (zip_ty (named ns ks) (types_of ns (look t) z)) ∷ []))) f
    (subst (λ (z : List ℕ). Meant ns t u 1 (length z) r (if_so (rise 0 z) (a_rec (zip_ty (named ns z) (types_of ns (look t) ps)) ∷ []))) e m)

pub node_as : (xs : List ℕ) (v : Names) (t u : Table) (st : List ℕ) (at : ℕ) (node other : TypeNode) (r : Option ℕ) → node ≡ other → TypeMade xs v t u st at other r → TypeMade xs v t u st at node r
node_as xs v t u st at node other r e m = subst (λ (z : TypeNode). TypeMade xs v t u st at z r) (sym e) m

pub names_as : (w z : ℕ) (ks js : List ℕ) → w ≡ z → ks ≡ js → NamesOf z js → NamesOf w ks
names_as w z ks js e f n = subst (λ (y : ℕ). NamesOf y ks) (sym e) (subst (λ (y : List ℕ). NamesOf z y) (sym f) n)
