-- Types taken apart: what a type must be where a step of typing came to something.
use mathlib.Core.Path.{◌≡◌, refl, ◌∙◌, ap}
use mathlib.Core.Bool.{Bool, true, false, false≢true}
use mathlib.Core.List.{List, [], ◌∷◌}
use Prim.Native.Nat.{ℕ}
use native.Mathlib.Omega.{arith}
use Rattle.query.specs.Query.{Ty, Tys, a_unit, a_num, a_truth, a_text, a_bag, a_rec, an_either}
use Rattle.query.specs.Types.{Sides, code, same_ty, as_num, elem, fields_of, sides_of, on_ty, if_so, fields_in}
use Rattle.query.specs.Laws.{CodeTells}
use Rattle.query.proofs.Texts.{same_text_true, same_text_self}
use Rattle.query.proofs.Codes.{code_tells}

-- types taken apart
pub on_ty_out : {A B : Type 0} (l : List A) (f : A → List B) (b : B) (m : List B) → on_ty l f ≡ b ∷ m → (a : A) × (r : List A) × (l ≡ a ∷ r) × (f a ≡ b ∷ m)
unfolding on_ty
on_ty_out [] f b m h = let z : ◌≡◌ {A = ℕ} 0 1 = cc in absurd (omega arith)
on_ty_out (a ∷ r) f b m h = (a, r, refl, h)

pub if_so_out : (b : Bool) (ts : List Ty) (u : Ty) (m : List Ty) → if_so b ts ≡ u ∷ m → (b ≡ true) × (ts ≡ u ∷ m)
unfolding if_so
if_so_out true ts u m h = (refl, h)
if_so_out false ts u m h = let z : ◌≡◌ {A = ℕ} 0 1 = cc in absurd (omega arith)

pub same_ty_out : (t u : Ty) → same_ty t u ≡ true → t ≡ u
unfolding CodeTells
same_ty_out t u h = code_tells t u (same_text_true (code t) (code u) h)

pub same_ty_self : (t : Ty) → same_ty t t ≡ true
same_ty_self t = same_text_self (code t)

pub elem_out : (t u : Ty) (m : List Ty) → elem t ≡ u ∷ m → t ≡ a_bag u
unfolding elem
elem_out a_unit u m h = let z : ◌≡◌ {A = ℕ} 0 1 = cc in absurd (omega arith)
elem_out a_num u m h = let z : ◌≡◌ {A = ℕ} 0 1 = cc in absurd (omega arith)
elem_out a_truth u m h = let z : ◌≡◌ {A = ℕ} 0 1 = cc in absurd (omega arith)
elem_out a_text u m h = let z : ◌≡◌ {A = ℕ} 0 1 = cc in absurd (omega arith)
elem_out (a_bag v) u m h = let e : v ≡ u = cc in ap a_bag e
elem_out (a_rec ts) u m h = let z : ◌≡◌ {A = ℕ} 0 1 = cc in absurd (omega arith)
elem_out (an_either v w) u m h = let z : ◌≡◌ {A = ℕ} 0 1 = cc in absurd (omega arith)

pub fields_out : (t : Ty) (us : Tys) (m : List Tys) → fields_of t ≡ us ∷ m → t ≡ a_rec us
unfolding fields_of
fields_out a_unit us m h = let z : ◌≡◌ {A = ℕ} 0 1 = cc in absurd (omega arith)
fields_out a_num us m h = let z : ◌≡◌ {A = ℕ} 0 1 = cc in absurd (omega arith)
fields_out a_truth us m h = let z : ◌≡◌ {A = ℕ} 0 1 = cc in absurd (omega arith)
fields_out a_text us m h = let z : ◌≡◌ {A = ℕ} 0 1 = cc in absurd (omega arith)
fields_out (a_bag v) us m h = let z : ◌≡◌ {A = ℕ} 0 1 = cc in absurd (omega arith)
fields_out (a_rec ts) us m h = let e : ts ≡ us = cc in ap a_rec e
fields_out (an_either v w) us m h = let z : ◌≡◌ {A = ℕ} 0 1 = cc in absurd (omega arith)

pub num_out : (t : Ty) → as_num t ≡ true → t ≡ a_num
unfolding as_num
num_out a_unit h = absurd (false≢true h)
num_out a_num h = refl
num_out a_truth h = absurd (false≢true h)
num_out a_text h = absurd (false≢true h)
num_out (a_bag v) h = absurd (false≢true h)
num_out (a_rec ts) h = absurd (false≢true h)
num_out (an_either v w) h = absurd (false≢true h)

pub sides_out : (t : Ty) (s : Sides) (m : List Sides) → sides_of t ≡ s ∷ m → t ≡ an_either s.l s.r
unfolding sides_of
sides_out a_unit s m h = let z : ◌≡◌ {A = ℕ} 0 1 = cc in absurd (omega arith)
sides_out a_num s m h = let z : ◌≡◌ {A = ℕ} 0 1 = cc in absurd (omega arith)
sides_out a_truth s m h = let z : ◌≡◌ {A = ℕ} 0 1 = cc in absurd (omega arith)
sides_out a_text s m h = let z : ◌≡◌ {A = ℕ} 0 1 = cc in absurd (omega arith)
sides_out (a_bag v) s m h = let z : ◌≡◌ {A = ℕ} 0 1 = cc in absurd (omega arith)
sides_out (a_rec ts) s m h = let z : ◌≡◌ {A = ℕ} 0 1 = cc in absurd (omega arith)
sides_out (an_either v w) s m h = let f : Sides → Ty = λ x. an_either x.l x.r in let e : record { l = v; r = w } ≡ s = cc in ap f e

pub heads : {A : Type 0} (a b : A) (m n : List A) → a ∷ m ≡ b ∷ n → a ≡ b
heads a b m n h = cc

pub fields_in_out : (t : Ty) (us : Tys) (m : List Tys) → fields_in t ≡ us ∷ m → t ≡ a_bag (a_rec us)
fields_in_out t us m h =
    let a = on_ty_out (elem t) (λ u. fields_of u) us m h in
    elem_out t a.0 a.1 a.2 ∙ ap a_bag (fields_out a.0 us m a.3)
