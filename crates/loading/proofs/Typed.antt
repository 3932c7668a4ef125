-- Data by their types: what the parts of a datum are of, and where the types of the parts stand.
use Rattle.std.proofs.Common.{◌≡◌, ℕ, suc, ◌+◌, ◌-◌, ◌<◌, ◌≤◌, true, false, List, ◌∷◌, ◌++◌, length, sym, refl, ap, ◌∙◌, subst, arith, length-append}
use Rattle.query.specs.Data.{Name, Data, bag, rec, left, right, Datas, Fields, no_field, field, how_many}
use Rattle.query.specs.Query.{Ty, a_unit, a_num, a_truth, a_text, a_bag, a_rec, an_either, Tys, no_ty, ty}
use Rattle.query.specs.Types.{is_of, all_of, fields_are, on_one, elem, fields_of, sides_of}
use Rattle.query.specs.Size.{size_d, size_fs}
use Rattle.query.proofs.OfType.{field_out, no_field_out, no_ty_out}
use Rattle.format.specs.Coding.{le, name, writes, AllFit}
use Rattle.format.specs.Wire.{names, names_ty, write_names, write_data, write_datas, write_values, FitsData, FitsDatas, FitsValues, write_ty, write_tys, FitsTy, FitsTys}
use Rattle.format.specs.Bytes.{length_le}
use Rattle.values.specs.Height.{height_ty, height_tys}
use Rattle.loading.proofs.Spots.{At, at_first, at_second, at_tail, at_same}

no_truth : {A : Type 0} → false ≡ true → A
no_truth e = absurd (let z : ◌≡◌ {A = ℕ} 0 1 = cc in omega arith)

-- a bag
pub record BagOf (bs : List ℕ) (at kind depth : ℕ) (ds : Datas) (t : Ty) : Type 0 where
  pub item : Ty
  pub is : t ≡ a_bag item
  pub all : all_of ds item ≡ true
  pub stand : At bs (at + 5) (write_datas ds)
  pub stand_type : At bs (kind + 1) (write_ty item)
  pub fit : FitsDatas ds
  pub fit_type : FitsTy item
  pub shallow : height_ty item < depth - 1
  pub long : at + 5 + length (write_datas ds) ≡ at + length (write_data (bag ds))
  pub long_type : length (write_ty t) ≡ 1 + length (write_ty item)

pub bag_of : (bs : List ℕ) (at kind depth : ℕ) (ds : Datas) (t : Ty) → At bs at (write_data (bag ds)) → At bs kind (write_ty t) → FitsData (bag ds) → FitsTy t → is_of (bag ds) t ≡ true → height_ty t < depth → BagOf bs at kind depth ds t
unfolding is_of on_one elem write_data write_ty FitsData FitsTy height_ty
bag_of bs at kind depth ds a_unit a b f g e h = no_truth e
bag_of bs at kind depth ds a_num a b f g e h = no_truth e
bag_of bs at kind depth ds a_truth a b f g e h = no_truth e
bag_of bs at kind depth ds a_text a b f g e h = no_truth e
bag_of bs at kind depth ds (a_bag t) a b f g e h =
    let l = length_le 4 (how_many ds) in
    record {
      item = t;
      is = refl;
      all = e;
      stand = at_same (at_second (5 ∷ le 4 (how_many ds)) (write_datas ds) a) (let z : at + suc (length (le 4 (how_many ds))) ≡ at + 5 = omega arith in z) refl;
      stand_type = at_tail 4 (write_ty t) b;
      fit = f.1;
      fit_type = g;
      shallow = omega arith;
      long = omega (arith, length-append (le 4 (how_many ds)) (write_datas ds));
      long_type = omega arith;
    }
bag_of bs at kind depth ds (a_rec ts) a b f g e h = no_truth e
bag_of bs at kind depth ds (an_either t u) a b f g e h = no_truth e

-- a side of an either
pub record SideOf (bs : List ℕ) (at kind depth : ℕ) (d : Data) (a b : Ty) (to : ℕ) (own : Ty) : Type 0 where
  pub of : is_of d own ≡ true
  pub stand : At bs (at + 1) (write_data d)
  pub stand_type : At bs to (write_ty own)
  pub first_type : At bs (kind + 1) (write_ty a)
  pub second_type : At bs (kind + 1 + length (write_ty a)) (write_ty b)
  pub fit : FitsData d
  pub fit_first : FitsTy a
  pub fit_second : FitsTy b
  pub shallow : height_ty own < depth - 1

pub record LeftOf (bs : List ℕ) (at kind depth : ℕ) (d : Data) (t : Ty) : Type 0 where
  pub a : Ty
  pub b : Ty
  pub is : t ≡ an_either a b
  pub side : SideOf bs at kind depth d a b (kind + 1) a
  pub long_type : length (write_ty t) ≡ 1 + length (write_ty a) + length (write_ty b)

pub record RightOf (bs : List ℕ) (at kind depth : ℕ) (d : Data) (t : Ty) : Type 0 where
  pub a : Ty
  pub b : Ty
  pub is : t ≡ an_either a b
  pub side : SideOf bs at kind depth d a b (kind + 1 + length (write_ty a)) b
  pub long_type : length (write_ty t) ≡ 1 + length (write_ty a) + length (write_ty b)

pub left_of : (bs : List ℕ) (at kind depth : ℕ) (d : Data) (t : Ty) → At bs at (write_data (left d)) → At bs kind (write_ty t) → FitsData (left d) → FitsTy t → is_of (left d) t ≡ true → height_ty t < depth → LeftOf bs at kind depth d t
unfolding is_of on_one sides_of write_data write_ty FitsData FitsTy height_ty
left_of bs at kind depth d a_unit a b f g e h = no_truth e
left_of bs at kind depth d a_num a b f g e h = no_truth e
left_of bs at kind depth d a_truth a b f g e h = no_truth e
left_of bs at kind depth d a_text a b f g e h = no_truth e
left_of bs at kind depth d (a_bag t) a b f g e h = no_truth e
left_of bs at kind depth d (a_rec ts) a b f g e h = no_truth e
left_of bs at kind depth d (an_either t u) a b f g e h =
    let c = at_tail 6 (write_ty t ++ write_ty u) b in
    record {
      a = t;
      b = u;
      is = refl;
      side = record {
        of = e;
        stand = at_tail 7 (write_data d) a;
        stand_type = at_first (write_ty t) (write_ty u) c;
        first_type = at_first (write_ty t) (write_ty u) c;
        second_type = at_second (write_ty t) (write_ty u) c;
        fit = f;
        fit_first = g.0;
        fit_second = g.1;
        shallow = omega arith;
      };
      long_type = omega (arith, length-append (write_ty t) (write_ty u));
    }

pub right_of : (bs : List ℕ) (at kind depth : ℕ) (d : Data) (t : Ty) → At bs at (write_data (right d)) → At bs kind (write_ty t) → FitsData (right d) → FitsTy t → is_of (right d) t ≡ true → height_ty t < depth → RightOf bs at kind depth d t
unfolding is_of on_one sides_of write_data write_ty FitsData FitsTy height_ty
right_of bs at kind depth d a_unit a b f g e h = no_truth e
right_of bs at kind depth d a_num a b f g e h = no_truth e
right_of bs at kind depth d a_truth a b f g e h = no_truth e
right_of bs at kind depth d a_text a b f g e h = no_truth e
right_of bs at kind depth d (a_bag t) a b f g e h = no_truth e
right_of bs at kind depth d (a_rec ts) a b f g e h = no_truth e
right_of bs at kind depth d (an_either t u) a b f g e h =
    let c = at_tail 6 (write_ty t ++ write_ty u) b in
    record {
      a = t;
      b = u;
      is = refl;
      side = record {
        of = e;
        stand = at_tail 8 (write_data d) a;
        stand_type = at_second (write_ty t) (write_ty u) c;
        first_type = at_first (write_ty t) (write_ty u) c;
        second_type = at_second (write_ty t) (write_ty u) c;
        fit = f;
        fit_first = g.0;
        fit_second = g.1;
        shallow = omega arith;
      };
      long_type = omega (arith, length-append (write_ty t) (write_ty u));
    }

-- a record has the names of its type
pub same_names : (fs : Fields) (ts : Tys) → fields_are fs ts ≡ true → names fs ≡ names_ty ts
unfolding names names_ty
same_names no_field no_ty e = refl
same_names no_field (ty m t ts) e = absurd (no_field_out m t ts e)
same_names (field n d fs) no_ty e = absurd (no_ty_out n d fs e)
same_names (field n d fs) (ty m t ts) e =
    let r = field_out n d fs m t ts e in
    ap (λ x. x ∷ names fs) r.0 ∙ ap (λ x. m ∷ x) (same_names fs ts r.2)

pub record RecordOf (bs : List ℕ) (at kind depth : ℕ) (fs : Fields) (t : Ty) : Type 0 where
  pub types : Tys
  pub is : t ≡ a_rec types
  pub are : fields_are fs types ≡ true
  pub stand : At bs (at + (1 + length (write_names (names_ty types)))) (write_values fs)
  pub stand_types : At bs (kind + (1 + length (write_names (names_ty types)))) (write_tys types)
  pub stand_names : At bs (kind + 5) (writes name (names_ty types))
  pub fit : FitsValues fs
  pub fit_types : FitsTys types
  pub fit_names : AllFit name (names_ty types)
  pub shallow : height_tys types < depth - 1
  pub long : at + (1 + length (write_names (names_ty types))) + length (write_values fs) ≡ at + length (write_data (rec fs))
  pub long_type : kind + (1 + length (write_names (names_ty types))) + length (write_tys types) ≡ kind + length (write_ty t)

pub record_of : (bs : List ℕ) (at kind depth : ℕ) (fs : Fields) (t : Ty) → At bs at (write_data (rec fs)) → At bs kind (write_ty t) → FitsData (rec fs) → FitsTy t → is_of (rec fs) t ≡ true → height_ty t < depth → RecordOf bs at kind depth fs t
unfolding is_of on_one fields_of write_data write_ty FitsData FitsTy height_ty
record_of bs at kind depth fs a_unit a b f g e h = no_truth e
record_of bs at kind depth fs a_num a b f g e h = no_truth e
record_of bs at kind depth fs a_truth a b f g e h = no_truth e
record_of bs at kind depth fs a_text a b f g e h = no_truth e
record_of bs at kind depth fs (a_bag t) a b f g e h = no_truth e
record_of bs at kind depth fs (a_rec ts) a b f g e h =
    let ns = names_ty ts in
    let q : 6 ∷ (write_names (names fs) ++ write_values fs) ≡ 6 ∷ (write_names ns ++ write_values fs) = ap (λ x. 6 ∷ (write_names x ++ write_values fs)) (same_names fs ts e) in
    let c = at_same a refl q in
    let l = length_le 4 (length ns) in
    let k = length-append (le 4 (length ns)) (writes name ns) in
    let n = at_first (write_names ns) (write_tys ts) (at_tail 5 (write_names ns ++ write_tys ts) b) in
    record {
      types = ts;
      is = refl;
      are = e;
      stand = at_same (at_second (6 ∷ write_names ns) (write_values fs) c) (let z : at + suc (length (write_names ns)) ≡ at + (1 + length (write_names ns)) = omega arith in z) refl;
      stand_types = at_same (at_second (5 ∷ write_names ns) (write_tys ts) b) (let z : kind + suc (length (write_names ns)) ≡ kind + (1 + length (write_names ns)) = omega arith in z) refl;
      stand_names = at_same (at_second (le 4 (length ns)) (writes name ns) n) (let z : kind + 1 + length (le 4 (length ns)) ≡ kind + 5 = omega arith in z) refl;
      fit = f.1;
      fit_types = g.1;
      fit_names = g.0.1;
      shallow = omega arith;
      long = (let z : at + (1 + length (write_names ns)) + length (write_values fs) ≡ at + length (6 ∷ (write_names ns ++ write_values fs)) = omega (arith, length-append (write_names ns) (write_values fs)) in z ∙ ap (λ x. at + length x) (sym q));
      long_type = omega (arith, length-append (write_names ns) (write_tys ts));
    }
record_of bs at kind depth fs (an_either t u) a b f g e h = no_truth e

-- the first of the fields that are to come
pub record FirstField (bs : List ℕ) (spot next type : ℕ) (fs : Fields) (ts : Tys) : Type 0 where
  pub nm : Name
  pub item : Data
  pub others : Fields
  pub own : Ty
  pub types : Tys
  pub is : fs ≡ field nm item others
  pub types_are : ts ≡ ty nm own types
  pub of : is_of item own ≡ true
  pub are : fields_are others types ≡ true
  pub stand : At bs next (write_data item)
  pub stand_others : At bs (next + length (write_data item)) (write_values others)
  pub stand_type : At bs type (write_ty own)
  pub stand_types : At bs (type + length (write_ty own)) (write_tys types)
  pub stand_name : At bs spot (name.write nm)
  pub stand_letters : At bs (spot + 4) nm
  pub stand_names : At bs (spot + (4 + length nm)) (writes name (names_ty types))
  pub fit : FitsData item
  pub fit_others : FitsValues others
  pub fit_type : FitsTy own
  pub fit_types : FitsTys types
  pub fit_name : name.Fits nm
  pub fit_names : AllFit name (names_ty types)
  pub low : height_ty own ≤ height_tys ts
  pub low_others : height_tys types ≤ height_tys ts
  pub many : length (names_ty ts) ≡ suc (length (names_ty types))
  pub size : size_fs fs ≡ suc (length nm + (size_d item + size_fs others))
  pub long : length (write_values fs) ≡ length (write_data item) + length (write_values others)
  pub long_types : length (write_tys ts) ≡ length (write_ty own) + length (write_tys types)

pub first_field : (bs : List ℕ) (spot next type : ℕ) (fs : Fields) (ts : Tys) → 0 < length (names_ty ts) → fields_are fs ts ≡ true → At bs next (write_values fs) → At bs type (write_tys ts) → At bs spot (writes name (names_ty ts))
    → FitsValues fs → FitsTys ts → AllFit name (names_ty ts) → FirstField bs spot next type fs ts
unfolding write_values write_tys names_ty FitsValues FitsTys height_tys size_fs
first_field bs spot next type fs no_ty l e a b c f g h = absurd (omega arith)
first_field bs spot next type no_field (ty m t ts) l e a b c f g h = absurd (no_field_out m t ts e)
first_field bs spot next type (field n d fs) (ty m t ts) l e a b c f g h =
    let r = field_out n d fs m t ts e in
    let q : m ≡ n = sym r.0 in
    let c1 = at_first (name.write m) (writes name (names_ty ts)) c in
    let k = length-append (le 4 (length m)) m in
    let j = length_le 4 (length m) in
    let same : length m ≡ length n = ap length q in
    record {
      nm = n;
      item = d;
      others = fs;
      own = t;
      types = ts;
      is = refl;
      types_are = ap (λ x. ty x t ts) q;
      of = r.1;
      are = r.2;
      stand = at_first (write_data d) (write_values fs) a;
      stand_others = at_second (write_data d) (write_values fs) a;
      stand_type = at_first (write_ty t) (write_tys ts) b;
      stand_types = at_second (write_ty t) (write_tys ts) b;
      stand_name = at_same c1 refl (ap (λ x. name.write x) q);
      stand_letters = at_same (at_second (le 4 (length m)) m c1) (let z : spot + length (le 4 (length m)) ≡ spot + 4 = omega arith in z) q;
      stand_names = at_same (at_second (name.write m) (writes name (names_ty ts)) c) (let z : spot + length (name.write m) ≡ spot + (4 + length n) = omega arith in z) refl;
      fit = f.0;
      fit_others = f.1;
      fit_type = g.0;
      fit_types = g.1;
      fit_name = subst (λ x. name.Fits x) q h.0;
      fit_names = h.1;
      low = omega arith;
      low_others = omega arith;
      many = refl;
      size = refl;
      long = length-append (write_data d) (write_values fs);
      long_types = length-append (write_ty t) (write_tys ts);
    }

pub no_fields : (fs : Fields) (ts : Tys) → length (names_ty ts) ≡ 0 → fields_are fs ts ≡ true → (fs ≡ no_field) × (ts ≡ no_ty)
unfolding names_ty
no_fields no_field no_ty z e = (refl, refl)
no_fields no_field (ty m t ts) z e = absurd (omega (arith, z))
no_fields (field n d fs) no_ty z e = absurd (no_ty_out n d fs e)
no_fields (field n d fs) (ty m t ts) z e = absurd (omega (arith, z))
