-- Data nest no deeper than their type.
use mathlib.Core.Path.{◌≡◌, refl, ap}
use mathlib.Core.Bool.{Bool, true, false≢true}
use mathlib.Core.List.{List, [], ◌∷◌}
use Prim.Native.Nat.{◌≤◌}
use native.Mathlib.Omega.{arith}
use Rattle.query.specs.Data.{Data, unit, num, truth, text, bag, rec, left, right, Datas, none, more, Fields, no_field, field}
use Rattle.query.specs.Query.{Ty, Tys, no_ty, ty}
use Rattle.query.specs.Types.{is_of, all_of, fields_are, elem, fields_of, sides_of, on_one}
use Rattle.query.proofs.TypeParts.{elem_out, fields_out, sides_out}
use Rattle.query.proofs.OfType.{field_out, no_ty_out, first_of, rest_of}
use Rattle.values.specs.Height.{height, height_all, height_fields, height_ty, height_tys}

one_out : {A : Type 0} (l : List A) (f : A → Bool) → on_one l f ≡ true → (x : A) × (r : List A) × (l ≡ x ∷ r) × (f x ≡ true)
unfolding on_one
one_out [] f h = absurd (false≢true h)
one_out (x ∷ xs) f h = (x, xs, refl, h)

mutual
  unfolding height height_all height_fields height_ty height_tys is_of

  pub no_deeper : (d : Data) (t : Ty) → is_of d t ≡ true → height d ≤ height_ty t
  no_deeper unit t h = omega arith
  no_deeper (num n) t h = omega arith
  no_deeper (truth b) t h = omega arith
  no_deeper (text x) t h = omega arith
  no_deeper (bag ds) t h =
      let o = one_out (elem t) (λ u. all_of ds u) h in
      let e = ap height_ty (elem_out t o.0 o.1 o.2) in
      omega (arith, e, all_no_deeper ds o.0 o.3)
  no_deeper (rec fs) t h =
      let o = one_out (fields_of t) (λ ts. fields_are fs ts) h in
      let e = ap height_ty (fields_out t o.0 o.1 o.2) in
      omega (arith, e, fields_no_deeper fs o.0 o.3)
  no_deeper (left d) t h =
      let o = one_out (sides_of t) (λ s. is_of d s.l) h in
      let e = ap height_ty (sides_out t o.0 o.1 o.2) in
      omega (arith, e, no_deeper d o.0.l o.3)
  no_deeper (right d) t h =
      let o = one_out (sides_of t) (λ s. is_of d s.r) h in
      let e = ap height_ty (sides_out t o.0 o.1 o.2) in
      omega (arith, e, no_deeper d o.0.r o.3)

  all_no_deeper : (ds : Datas) (t : Ty) → all_of ds t ≡ true → height_all ds ≤ height_ty t
  all_no_deeper none t h = omega arith
  all_no_deeper (more d ds) t h = omega (arith, no_deeper d t (first_of d ds t h), all_no_deeper ds t (rest_of d ds t h))

  fields_no_deeper : (fs : Fields) (ts : Tys) → fields_are fs ts ≡ true → height_fields fs ≤ height_tys ts
  fields_no_deeper no_field ts h = omega arith
  fields_no_deeper (field n d fs) no_ty h = absurd (no_ty_out n d fs h)
  fields_no_deeper (field n d fs) (ty m t ts) h = let o = field_out n d fs m t ts h in omega (arith, no_deeper d t o.1, fields_no_deeper fs ts o.2)
