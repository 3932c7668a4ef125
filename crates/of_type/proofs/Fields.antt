-- Records: with the names of its type, a record is of it if its values are of the types, one by one.
use Rattle.std.proofs.Common.{◌≡◌, ℕ, suc, ◌≤◌, Bool, true, false, ◌&&◌, List, [], ◌∷◌, ◌++◌, length, sym, refl, ap, ◌∙◌, arith}
use Rattle.query.specs.Data.{Name, Data, rec, Fields, no_field, field, same_text}
use Rattle.query.specs.Query.{Ty, a_rec, Tys, no_ty, ty}
use Rattle.query.specs.Types.{is_of, fields_are, tables_are, on_one, no_tys, first_ty, fields_of}
use Rattle.query.specs.Size.{size_ts, size_s}
use Rattle.query.proofs.Texts.{same_text_self}
use Rattle.query.proofs.OfType.{field_out, no_field_out, no_ty_out}
use Rattle.format.specs.Coding.{writes, many}
use Rattle.format.specs.Wire.{names, names_ty, write_ty, write_tys, FitsTys, write_data, write_values, FitsValues, types, data_of}

abbrev pub values : Fields → List Data
values no_field = []
values (field n d fs) = d ∷ values fs

abbrev pub tys : Tys → List Ty
tys no_ty = []
tys (ty n t ts) = t ∷ tys ts

pub values_fit : (k : ℕ) (fs : Fields) → length (names fs) ≡ k → FitsValues fs → (many data_of k).Fits (values fs)
unfolding names FitsValues
values_fit k no_field e f = (e, tt)
values_fit k (field n d fs) e f = let r = values_fit (length (names fs)) fs refl f.1 in (ap suc r.0 ∙ e, (f.0, r.1))

pub tys_fit : (k : ℕ) (ts : Tys) → length (names_ty ts) ≡ k → FitsTys ts → (many types k).Fits (tys ts)
unfolding names_ty FitsTys
tys_fit k no_ty e f = (e, tt)
tys_fit k (ty n t ts) e f = let r = tys_fit (length (names_ty ts)) ts refl f.1 in (ap suc r.0 ∙ e, (f.0, r.1))

pub values_written : (fs : Fields) → write_values fs ≡ writes data_of (values fs)
unfolding write_values
values_written no_field = refl
values_written (field n d fs) = ap (λ (v : List ℕ). write_data d ++ v) (values_written fs)

pub tys_written : (ts : Tys) → write_tys ts ≡ writes types (tys ts)
unfolding write_tys
tys_written no_ty = refl
tys_written (ty n t ts) = ap (λ (v : List ℕ). write_ty t ++ v) (tys_written ts)

pub tys_size : (ts : Tys) → size_s (tys ts) ≤ size_ts ts
unfolding size_s size_ts
tys_size no_ty = omega arith
tys_size (ty n t ts) = let ih = tys_size ts in omega arith

same_first : (n m : Name) (ns ms : List Name) → n ∷ ns ≡ m ∷ ms → (n ≡ m) × (ns ≡ ms)
same_first n m ns ms e = let p : n ≡ m = cc in let q : ns ≡ ms = cc in (p, q)

-- with the same names it comes to the values
pub by_values : (fs : Fields) (ts : Tys) → names fs ≡ names_ty ts → fields_are fs ts ≡ tables_are (values fs) (tys ts)
unfolding names names_ty fields_are tables_are on_one no_tys first_ty
by_values no_field no_ty e = refl
by_values no_field (ty m t ts) e = let z : ◌≡◌ {A = ℕ} 0 1 = cc in absurd (omega arith)
by_values (field n d fs) no_ty e = let z : ◌≡◌ {A = ℕ} 0 1 = cc in absurd (omega arith)
by_values (field n d fs) (ty m t ts) e =
    let s = same_first n m (names fs) (names_ty ts) e in
    ap (λ (v : Name). same_text n v && (is_of d t && fields_are fs ts)) (sym s.0) ∙ ap (λ (b : Bool). b && (is_of d t && fields_are fs ts)) (same_text_self n) ∙ ap (λ (b : Bool). is_of d t && b) (by_values fs ts s.1)

-- without them it is not of the type
pub names_of : (fs : Fields) (ts : Tys) → fields_are fs ts ≡ true → names fs ≡ names_ty ts
unfolding names names_ty
names_of no_field no_ty h = refl
names_of no_field (ty m t ts) h = absurd (no_field_out m t ts h)
names_of (field n d fs) no_ty h = absurd (no_ty_out n d fs h)
names_of (field n d fs) (ty m t ts) h =
    let o = field_out n d fs m t ts h in
    ap (λ (v : Name). v ∷ names fs) o.0 ∙ ap (λ (v : List Name). m ∷ v) (names_of fs ts o.2)

pub rec_is : (fs : Fields) (ts : Tys) → is_of (rec fs) (a_rec ts) ≡ fields_are fs ts
unfolding is_of on_one fields_of
rec_is fs ts = refl

-- as many tables as types, or they are not of them
pub as_many : (ds : List Data) (ts : List Ty) → (length ds ≡ length ts → ⊥) → tables_are ds ts ≡ false
unfolding tables_are
as_many [] [] h = absurd (h refl)
as_many [] (t ∷ ts) h = refl
as_many (d ∷ ds) [] h = refl
as_many (d ∷ ds) (t ∷ ts) h = go (is_of d t) (as_many ds ts (λ e. h (ap suc e)))
  where
    go : (b : Bool) → tables_are ds ts ≡ false → b && tables_are ds ts ≡ false
    go true e = e
    go false e = refl
