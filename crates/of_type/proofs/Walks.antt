-- A type passed over, and data after data: what the loops have gone through.
use Rattle.std.proofs.Common.{◌≡◌, ℕ, ◌+◌, ◌<◌, ◌≤◌, Bool, true, false, ◌&&◌, List, [], ◌∷◌, ◌++◌, length, Some, None, Option, refl, ap, ◌∙◌, ap₂, arith}
use Rattle.std.proofs.lemmas.List.{append_assoc}
use Rattle.query.specs.Data.{Data, Datas, none, more, how_many}
use Rattle.query.specs.Query.{Ty}
use Rattle.query.specs.Types.{is_of, all_of, tables_are}
use Rattle.query.specs.Size.{size_t, size_s}
use Rattle.format.specs.Coding.{many, writes, AllFit}
use Rattle.format.specs.Wire.{write_ty, FitsTy, write_data, write_datas, FitsData, FitsDatas, types, data_of}
use Rattle.format.specs.Heads.{ty_heads, ty_arity}
use Rattle.format.specs.Reading.{Read, Stuck}
use Rattle.format.specs.Lists.{from}
use Rattle.format.specs.Trees.{tree_way}
use Rattle.format.proofs.Spans.{one_read, one_stuck}
use Rattle.format.specs.TypeLaws.{ty_laws}
use Rattle.of_type.specs.declared.Both.{Both}
use Rattle.of_type.specs.Places.{datas, NoLonger, TypePast, DatumIs, BagIs, ValuesAre}
use Rattle.of_type.proofs.Fronts.{front, shorter}

-- a type passed over
pub past_read : (b : Both) (e : ℕ) (after : Both) → Read (many types 1) b.ty.now e → after.datum.now ≡ b.datum.now → after.ty.now ≡ from e b.ty.now → TypePast b (Some after)
past_read b e after r g h =
    let o = one_read types b.ty.now e r in
    record { within = (omega (arith, ap length g), omega (arith, ap length h, shorter e b.ty.now)); tells = λ t rest f q. (g, h ∙ (front types (tree_way types ty_heads ty_arity ty_laws) b.ty.now e o.thing t rest o.begins f q).1) }

pub past_none : (b : Both) (p : ℕ) → Stuck (many types 1) b.ty.now p → TypePast b None
past_none b p s = record { within = tt; tells = λ t rest f q. (one_stuck types b.ty.now p s).absent t rest f q }

-- a bag's things so far: what is left decides
pub record BagLeft (k i : ℕ) (after : Both) (ds : Datas) (u : Ty) (rest rest' : List ℕ) : Type 0 where
  pub left : Datas
  pub many : i + how_many left ≡ k
  pub fits : FitsDatas left
  pub place : after.datum.now ≡ write_datas left ++ rest
  pub same : all_of ds u ≡ all_of left u
  pub ended : 0 < i → after.ty.now ≡ rest'

pub record BagSoFar (limit k : ℕ) (b : Both) (i : ℕ) (after : Both) : Type 0 where
  pub within : NoLonger b (Some after)
  pub tells : (ds : Datas) (u : Ty) (rest rest' : List ℕ) → (datas k).Fits ds → FitsTy u → b.datum.now ≡ write_datas ds ++ rest → b.ty.now ≡ write_ty u ++ rest' → size_t u ≤ limit → BagLeft k i after ds u rest rest'

none_left : (i k : ℕ) → i < k → i + how_many none ≡ k → ⊥
unfolding how_many
none_left i k h e = omega arith

one_less : (i k : ℕ) (d : Data) (ds : Datas) → i + how_many (more d ds) ≡ k → (i + 1) + how_many ds ≡ k
unfolding how_many
one_less i k d ds e = omega arith

first_fits : (d : Data) (ds : Datas) → FitsDatas (more d ds) → FitsData d × FitsDatas ds
unfolding FitsDatas
first_fits d ds f = f

all_more : (d : Data) (ds : Datas) (u : Ty) → is_of d u ≡ true → all_of (more d ds) u ≡ all_of ds u
unfolding all_of
all_more d ds u h = ap (λ (b : Bool). b && all_of ds u) h

all_less : (d : Data) (ds : Datas) (u : Ty) → is_of d u ≡ false → all_of (more d ds) u ≡ false
unfolding all_of
all_less d ds u h = ap (λ (b : Bool). b && all_of ds u) h

nothing_left : (i k : ℕ) (ds : Datas) → k ≤ i → i + how_many ds ≡ k → ds ≡ none
unfolding how_many
nothing_left i k none h e = refl
nothing_left i k (more d ds) h e = absurd (omega arith)

module _ (limit k : ℕ) (b : Both) (i : ℕ) (after : Both) (w : BagSoFar limit k b i after) where
  abbrev pub against : Both
  against = record { datum = after.datum; ty = b.ty }

  pub bag_more : (e : Both) → i < k → DatumIs limit against (Some e) → BagSoFar limit k b (i + 1) e
  unfolding write_datas
  bag_more e h j =
      record {
        within = (omega (arith, w.within.0, j.within.0), j.within.1);
        tells = λ ds u rest rest' f fu p q s. let l = w.tells ds u rest rest' f fu p q s in go ds u rest rest' fu q s l.left l.many l.fits l.place l.same;
      }
    where
      go : (ds : Datas) (u : Ty) (rest rest' : List ℕ) → FitsTy u → b.ty.now ≡ write_ty u ++ rest' → size_t u ≤ limit → (left : Datas) → i + how_many left ≡ k → FitsDatas left → after.datum.now ≡ write_datas left ++ rest → all_of ds u ≡ all_of left u → BagLeft k (i + 1) e ds u rest rest'
      go ds u rest rest' fu q s none m f p a = absurd (none_left i k h m)
      go ds u rest rest' fu q s (more d left) m f p a =
          let g = first_fits d left f in
          let v = j.tells d u (write_datas left ++ rest) rest' g.0 fu (p ∙ append_assoc (write_data d) (write_datas left) rest) q s in
          record { left = left; many = one_less i k d left m; fits = g.1; place = v.1; same = a ∙ all_more d left u v.0; ended = λ z. v.2 }

  pub bag_refused : i < k → DatumIs limit against None → BagIs k limit b None
  unfolding write_datas
  bag_refused h j =
      record { within = tt; tells = λ ds u rest rest' f fu p q s. let l = w.tells ds u rest rest' f fu p q s in l.same ∙ go u rest rest' fu q s l.left l.many l.fits l.place }
    where
      go : (u : Ty) (rest rest' : List ℕ) → FitsTy u → b.ty.now ≡ write_ty u ++ rest' → size_t u ≤ limit → (left : Datas) → i + how_many left ≡ k → FitsDatas left → after.datum.now ≡ write_datas left ++ rest → all_of left u ≡ false
      go u rest rest' fu q s none m f p = absurd (none_left i k h m)
      go u rest rest' fu q s (more d left) m f p = all_less d left u (j.tells d u (write_datas left ++ rest) rest' (first_fits d left f).0 fu (p ∙ append_assoc (write_data d) (write_datas left) rest) q s)

  pub bag_done : k ≤ i → 0 < k → BagIs k limit b (Some after)
  unfolding all_of write_datas
  bag_done h g =
      record {
        within = w.within;
        tells = λ ds u rest rest' f fu p q s.
            let l = w.tells ds u rest rest' f fu p q s in
            let n = nothing_left i k l.left h l.many in
            (l.same ∙ ap (λ (v : Datas). all_of v u) n, l.place ∙ ap (λ (v : Datas). write_datas v ++ rest) n, l.ended (omega arith));
      }

-- an empty bag is of every type
pub bag_empty : (limit k : ℕ) (b : Both) (r : Option Both) → k ≡ 0 → TypePast b r → BagIs k limit b r
unfolding all_of write_datas
bag_empty limit k b None z r = record { within = tt; tells = λ ds u rest rest' f fu p q s. absurd (r.tells u rest' fu q) }
bag_empty limit k b (Some e) z r =
    record {
      within = r.within;
      tells = λ ds u rest rest' f fu p q s.
          let n = nothing_left 0 k ds (omega arith) (omega (arith, f.0)) in
          let v = r.tells u rest' fu q in
          (ap (λ (v : Datas). all_of v u) n, v.0 ∙ p ∙ ap (λ (v : Datas). write_datas v ++ rest) n, v.1);
    }

-- values and their types so far: what is left decides
pub record ValuesLeft (limit k i : ℕ) (after : Both) (ds : List Data) (ts : List Ty) (rest rest' : List ℕ) : Type 0 where
  pub left : List Data
  pub left_ty : List Ty
  pub many : i + length left ≡ k
  pub many_ty : i + length left_ty ≡ k
  pub fits : AllFit data_of left
  pub fits_ty : AllFit types left_ty
  pub place : after.datum.now ≡ writes data_of left ++ rest
  pub place_ty : after.ty.now ≡ writes types left_ty ++ rest'
  pub small : size_s left_ty ≤ limit
  pub same : tables_are ds ts ≡ tables_are left left_ty

pub record ValuesSoFar (limit k : ℕ) (b : Both) (i : ℕ) (after : Both) : Type 0 where
  pub within : NoLonger b (Some after)
  pub tells : (ds : List Data) (ts : List Ty) (rest rest' : List ℕ) → (many data_of k).Fits ds → (many types k).Fits ts → b.datum.now ≡ writes data_of ds ++ rest → b.ty.now ≡ writes types ts ++ rest' → size_s ts ≤ limit → ValuesLeft limit k i after ds ts rest rest'

small_first : (limit : ℕ) (t : Ty) (ts : List Ty) → size_s (t ∷ ts) ≤ limit → (size_t t ≤ limit) × (size_s ts ≤ limit)
unfolding size_s
small_first limit t ts h = (omega arith, omega arith)

both_more : (d : Data) (t : Ty) (ds : List Data) (ts : List Ty) → is_of d t ≡ true → tables_are (d ∷ ds) (t ∷ ts) ≡ tables_are ds ts
unfolding tables_are
both_more d t ds ts h = ap (λ (b : Bool). b && tables_are ds ts) h

both_less : (d : Data) (t : Ty) (ds : List Data) (ts : List Ty) → is_of d t ≡ false → tables_are (d ∷ ds) (t ∷ ts) ≡ false
unfolding tables_are
both_less d t ds ts h = ap (λ (b : Bool). b && tables_are ds ts) h

no_more : {A : Type 0} (i k : ℕ) (us : List A) → k ≤ i → i + length us ≡ k → us ≡ []
no_more i k [] h e = refl
no_more i k (u ∷ us) h e = absurd (omega (arith, e))

module _ (limit k : ℕ) (b : Both) (i : ℕ) (after : Both) (w : ValuesSoFar limit k b i after) where
  pub values_more : (e : Both) → i < k → DatumIs limit after (Some e) → ValuesSoFar limit k b (i + 1) e
  values_more e h j =
      record {
        within = (omega (arith, w.within.0, j.within.0), omega (arith, w.within.1, j.within.1));
        tells = λ ds ts rest rest' f ft p q s. let l = w.tells ds ts rest rest' f ft p q s in go ds ts rest rest' l.left l.left_ty l.many l.many_ty l.fits l.fits_ty l.place l.place_ty l.small l.same;
      }
    where
      go : (ds : List Data) (ts : List Ty) (rest rest' : List ℕ) (left : List Data) (left_ty : List Ty) → i + length left ≡ k → i + length left_ty ≡ k → AllFit data_of left → AllFit types left_ty → after.datum.now ≡ writes data_of left ++ rest → after.ty.now ≡ writes types left_ty ++ rest'
          → size_s left_ty ≤ limit → tables_are ds ts ≡ tables_are left left_ty → ValuesLeft limit k (i + 1) e ds ts rest rest'
      go ds ts rest rest' [] us m n f g p q s a = absurd (omega (arith, m))
      go ds ts rest rest' (d ∷ left) [] m n f g p q s a = absurd (omega (arith, n))
      go ds ts rest rest' (d ∷ left) (t ∷ left_ty) m n f g p q s a =
          let z = small_first limit t left_ty s in
          let v = j.tells d t (writes data_of left ++ rest) (writes types left_ty ++ rest') f.0 g.0 (p ∙ append_assoc (write_data d) (writes data_of left) rest) (q ∙ append_assoc (write_ty t) (writes types left_ty) rest') z.0 in
          record {
            left = left;
            left_ty = left_ty;
            many = (let y : (i + 1) + length left ≡ k = omega (arith, m) in y);
            many_ty = (let y : (i + 1) + length left_ty ≡ k = omega (arith, n) in y);
            fits = f.1;
            fits_ty = g.1;
            place = v.1;
            place_ty = v.2;
            small = z.1;
            same = a ∙ both_more d t left left_ty v.0;
          }

  pub values_refused : i < k → DatumIs limit after None → ValuesAre k limit b None
  values_refused h j =
      record { within = tt; tells = λ ds ts rest rest' f ft p q s. let l = w.tells ds ts rest rest' f ft p q s in l.same ∙ go rest rest' l.left l.left_ty l.many l.many_ty l.fits l.fits_ty l.place l.place_ty l.small }
    where
      go : (rest rest' : List ℕ) (left : List Data) (left_ty : List Ty) → i + length left ≡ k → i + length left_ty ≡ k → AllFit data_of left → AllFit types left_ty → after.datum.now ≡ writes data_of left ++ rest → after.ty.now ≡ writes types left_ty ++ rest' → size_s left_ty ≤ limit
          → tables_are left left_ty ≡ false
      go rest rest' [] us m n f g p q s = absurd (omega (arith, m))
      go rest rest' (d ∷ left) [] m n f g p q s = absurd (omega (arith, n))
      go rest rest' (d ∷ left) (t ∷ left_ty) m n f g p q s =
          both_less d t left left_ty (j.tells d t (writes data_of left ++ rest) (writes types left_ty ++ rest') f.0 g.0 (p ∙ append_assoc (write_data d) (writes data_of left) rest) (q ∙ append_assoc (write_ty t) (writes types left_ty) rest') (small_first limit t left_ty s).0)

  pub values_done : k ≤ i → ValuesAre k limit b (Some after)
  unfolding tables_are
  values_done h =
      record {
        within = w.within;
        tells = λ ds ts rest rest' f ft p q s.
            let l = w.tells ds ts rest rest' f ft p q s in
            let m = no_more i k l.left h l.many in
            let n = no_more i k l.left_ty h l.many_ty in
            (l.same ∙ ap₂ (λ (v : List Data) (w : List Ty). tables_are v w) m n, l.place ∙ ap (λ (v : List Data). writes data_of v ++ rest) m, l.place_ty ∙ ap (λ (v : List Ty). writes types v ++ rest') n);
      }
