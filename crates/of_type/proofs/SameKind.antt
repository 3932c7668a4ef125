-- Kinds: those of heads are those of what they head, and what is of a type is of its kind.
use Rattle.std.proofs.Common.{◌≡◌, ℕ, ◌^◌, Bool, true, ltb, List, [], ◌∷◌, sym, refl, ap, subst, lt-ltb}
use mathlib.Core.Bool.{false≢true}
use Rattle.query.specs.Data.{Data, unit, num, truth, text, bag, rec, left, right}
use Rattle.query.specs.Query.{Ty, a_unit, a_num, a_truth, a_text, a_bag, a_rec, an_either, Tys, word}
use Rattle.query.specs.Types.{same_ty, as_num, elem, fields_of, sides_of, on_one, is_of, all_of, fields_are, bytes}
use Rattle.query.proofs.Tests.{and_l, and_i}
use Rattle.query.proofs.TypeParts.{same_ty_out, same_ty_self, num_out, elem_out, fields_out, sides_out}
use Rattle.format.specs.Wire.{FitsData}
use Rattle.format.specs.Heads.{DataHead, unit_h, num_h, truth_h, text_h, bag_h, rec_h, left_h, right_h, TyHead, unit_t, num_t, truth_t, text_t, bag_t, rec_t, either_t}
use Rattle.format.specs.Nodes.{TellsData, TellsType}
use Rattle.format.specs.declared.node.DataNode.{DataNode}
use Rattle.format.specs.declared.node.DataNode.TheVariants as dn
use Rattle.format.specs.declared.node.TypeNode.{TypeNode}
use Rattle.format.specs.declared.node.TypeNode.TheVariants as tn
use Rattle.of_type.specs.declared.Kind.{Kind}
use Rattle.of_type.specs.declared.Kind.TheVariants as k
use Rattle.of_type.specs.Kinds.{kind_of_node, kind_of_type}
use Rattle.of_type.proofs.Fronts.{head_of, head_ty}

abbrev pub kind : DataHead → Kind
kind unit_h = k.Nothing
kind (num_h n) = k.Number
kind (truth_h b) = k.Truth
kind (text_h t) = k.Text
kind (bag_h n) = k.Bag
kind (rec_h ns) = k.Record
kind left_h = k.Either
kind right_h = k.Either

abbrev pub kind_ty : TyHead → Kind
kind_ty unit_t = k.Nothing
kind_ty num_t = k.Number
kind_ty truth_t = k.Truth
kind_ty text_t = k.Text
kind_ty bag_t = k.Bag
kind_ty (rec_t ns) = k.Record
kind_ty either_t = k.Either

pub told_kind : (n : DataNode) (h : DataHead) → TellsData n h → kind_of_node n ≡ kind h
told_kind dn.Nothing h e = sym (ap kind e)
told_kind (dn.Number n) h e = sym (ap kind e)
told_kind (dn.Truth b) h e = sym (ap kind e)
told_kind (dn.Text n) h e = sym (ap kind e.1)
told_kind (dn.Bag k) h e = sym (ap kind e)
told_kind (dn.Record k) h e = sym (ap kind e.1)
told_kind dn.Left h e = sym (ap kind e)
told_kind dn.Right h e = sym (ap kind e)

pub told_kind_ty : (n : TypeNode) (h : TyHead) → TellsType n h → kind_of_type n ≡ kind_ty h
told_kind_ty tn.Nothing h e = sym (ap kind_ty e)
told_kind_ty tn.Number h e = sym (ap kind_ty e)
told_kind_ty tn.Truth h e = sym (ap kind_ty e)
told_kind_ty tn.Text h e = sym (ap kind_ty e)
told_kind_ty tn.Bag h e = sym (ap kind_ty e)
told_kind_ty (tn.Record k) h e = sym (ap kind_ty e.1)
told_kind_ty tn.Either h e = sym (ap kind_ty e)

-- a type by its kind
abbrev pub OfKind : Kind → Ty → Type 0
OfKind k.Nothing t = t ≡ a_unit
OfKind k.Number t = t ≡ a_num
OfKind k.Truth t = t ≡ a_truth
OfKind k.Text t = t ≡ a_text
OfKind k.Bag t = (u : Ty) × (t ≡ a_bag u)
OfKind k.Record t = (ts : Tys) × (t ≡ a_rec ts)
OfKind k.Either t = (u : Ty) × (v : Ty) × (t ≡ an_either u v)

of_kind : (t : Ty) → OfKind (kind_ty (head_ty t)) t
of_kind a_unit = refl
of_kind a_num = refl
of_kind a_truth = refl
of_kind a_text = refl
of_kind (a_bag u) = (u, refl)
of_kind (a_rec ts) = (ts, refl)
of_kind (an_either u v) = (u, v, refl)

pub at_kind : (k : Kind) (t : Ty) → kind_ty (head_ty t) ≡ k → OfKind k t
at_kind k t e = subst (λ (v : Kind). OfKind v t) e (of_kind t)

-- what is of a type is of its kind
on_one_out : {A : Type 0} (l : List A) (f : A → Bool) → on_one l f ≡ true → (a : A) × (m : List A) × (l ≡ a ∷ m)
unfolding on_one
on_one_out [] f h = absurd (false≢true h)
on_one_out (a ∷ m) f h = (a, m, refl)

by_ty : (t u : Ty) → t ≡ u → kind_ty (head_ty u) ≡ kind_ty (head_ty t)
by_ty t u e = sym (ap (λ (v : Ty). kind_ty (head_ty v)) e)

pub same_kind : (d : Data) (t : Ty) → is_of d t ≡ true → kind (head_of d) ≡ kind_ty (head_ty t)
unfolding is_of
same_kind unit t h = by_ty t a_unit (same_ty_out t a_unit h)
same_kind (num n) t h = by_ty t a_num (num_out t (and_l (as_num t) (ltb n word) h))
same_kind (truth b) t h = by_ty t a_truth (same_ty_out t a_truth h)
same_kind (text x) t h = by_ty t a_text (same_ty_out t a_text (and_l (same_ty t a_text) (bytes x) h))
same_kind (bag ds) t h = let o = on_one_out (elem t) (λ u. all_of ds u) h in by_ty t (a_bag o.0) (elem_out t o.0 o.1 o.2)
same_kind (rec fs) t h = let o = on_one_out (fields_of t) (λ ts. fields_are fs ts) h in by_ty t (a_rec o.0) (fields_out t o.0 o.1 o.2)
same_kind (left d) t h = let o = on_one_out (sides_of t) (λ s. is_of d s.l) h in by_ty t (an_either o.0.l o.0.r) (sides_out t o.0 o.1 o.2)
same_kind (right d) t h = let o = on_one_out (sides_of t) (λ s. is_of d s.r) h in by_ty t (an_either o.0.l o.0.r) (sides_out t o.0 o.1 o.2)

-- data without parts are of every type of their kind
pub unit_is : is_of unit a_unit ≡ true
unfolding is_of
unit_is = same_ty_self a_unit

pub num_is : (n : ℕ) → FitsData (num n) → is_of (num n) a_num ≡ true
unfolding is_of as_num FitsData
num_is n f = lt-ltb n (2 ^ 64) f

pub truth_is : (b : Bool) → is_of (truth b) a_truth ≡ true
unfolding is_of
truth_is b = same_ty_self a_truth

pub text_is : (t : List ℕ) → FitsData (text t) → is_of (text t) a_text ≡ true
unfolding is_of FitsData
text_is t f = and_i (same_ty a_text a_text) (bytes t) (same_ty_self a_text) f.1
