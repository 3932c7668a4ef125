-- What stands in front of data, types and names, from what was read of it.
use Rattle.std.proofs.Common.{◌≡◌, ℕ, suc, ◌+◌, ◌-◌, ◌≤◌, Bool, true, false, ltb, List, [], ◌∷◌, ◌++◌, length, get_or, drop, Some, Result, Ok, Err, sym, refl, ap, ◌∙◌, subst, arith, length-append, length-drop}
use Rattle.std.specs.Result.{MatchResult, result_ok, result_unwrap_or}
use Rattle.std.proofs.lemmas.List.{append_assoc}
use Rattle.query.specs.Data.{Name, Data, unit, num, truth, text, bag, rec, left, right, Fields, how_many}
use Rattle.query.specs.Query.{Ty, a_unit, a_truth, a_text, a_rec, Tys, word}
use Rattle.query.specs.Types.{is_of, same_ty, as_num, bytes}
use Rattle.query.specs.Size.{size_d}
use Rattle.query.proofs.Tests.{and_l}
use Rattle.query.proofs.TypeParts.{same_ty_out, num_out}
use Rattle.format.specs.Coding.{le, name, many, writes}
use Rattle.format.specs.Wire.{names, names_ty, write_names, truth_tag, write_data, write_datas, write_values, FitsData, write_ty, write_tys, FitsTy, data_of, types}
use Rattle.format.specs.Heads.{DataHead, unit_h, num_h, truth_h, text_h, bag_h, rec_h, left_h, right_h, write_data_head, FitsDataHead, data_heads, data_arity, rec_t, write_ty_head, FitsTyHead, ty_heads, ty_arity}
use Rattle.format.specs.Reading.{Read, ReadAs, Stuck}
use Rattle.format.specs.Nodes.{NodeRead, TellsData, TellsType, Stands}
use Rattle.format.specs.declared.node.DataNode.{DataNode}
use Rattle.format.specs.declared.node.DataNode.TheVariants as dn
use Rattle.format.specs.declared.node.TypeNode.{TypeNode}
use Rattle.format.specs.declared.node.TypeNode.TheVariants as tn
use Rattle.format.specs.Lists.{from, from_drop, split_at}
use Rattle.format.specs.Bytes.{length_le}
use Rattle.format.proofs.Pairs.{written_length}
use Rattle.format.specs.Codings.{name_way}
use Rattle.format.specs.Trees.{tree_way}
use Rattle.format.proofs.Spans.{one_read, one_stuck}
use Rattle.format.specs.DataLaws.{data_laws}
use Rattle.format.specs.TypeLaws.{ty_laws}
use Rattle.values.specs.Memory.{Holds}
use Rattle.values.specs.declared.value.Value.TheVariants as vs
use Rattle.loading.specs.Fronts.{PlainDatum, PartInside, Tells, NamesInside, TellsNames, NameInside, TellsName}
use Rattle.loading.specs.declared.loaded.Part.{Part}
use Rattle.loading.specs.declared.loaded.Part.TheVariants as pt
use Rattle.loading.specs.declared.loaded.Side.TheVariants as sd
use Rattle.loading.proofs.Spots.{At, at_stands, at_second, at_byte, at_spelled, at_same}

-- the head of a datum, and what follows it
unfoldable head_of : Data → DataHead
head_of unit = unit_h
head_of (num n) = num_h n
head_of (truth b) = truth_h b
head_of (text t) = text_h t
head_of (bag ds) = bag_h (how_many ds)
head_of (rec fs) = rec_h (names fs)
head_of (left d) = left_h
head_of (right d) = right_h

unfoldable tail_of : Data → List ℕ
tail_of unit = []
tail_of (num n) = []
tail_of (truth b) = []
tail_of (text t) = []
tail_of (bag ds) = write_datas ds
tail_of (rec fs) = write_values fs
tail_of (left d) = write_data d
tail_of (right d) = write_data d

head_written : (d : Data) (rest : List ℕ) → write_data d ++ rest ≡ write_data_head (head_of d) ++ (tail_of d ++ rest)
unfolding head_of tail_of write_data write_data_head
head_written unit rest = refl
head_written (num n) rest = refl
head_written (truth b) rest = refl
head_written (text t) rest = refl
head_written (bag ds) rest = ap (λ v. 5 ∷ v) (append_assoc (le 4 (how_many ds)) (write_datas ds) rest)
head_written (rec fs) rest = ap (λ v. 6 ∷ v) (append_assoc (write_names (names fs)) (write_values fs) rest)
head_written (left d) rest = refl
head_written (right d) rest = refl

head_fits : (d : Data) → FitsData d → FitsDataHead (head_of d)
unfolding head_of FitsData FitsDataHead
head_fits unit f = tt
head_fits (num n) f = f
head_fits (truth b) f = tt
head_fits (text t) f = f
head_fits (bag ds) f = f.0
head_fits (rec fs) f = f.0
head_fits (left d) f = tt
head_fits (right d) f = tt

-- the type of a datum without parts
unit_short : (t : Ty) → is_of unit t ≡ true → length (write_ty t) ≡ 1
unfolding is_of write_ty
unit_short t h = ap (λ x. length (write_ty x)) (same_ty_out t a_unit h)

num_short : (n : ℕ) (t : Ty) → is_of (num n) t ≡ true → length (write_ty t) ≡ 1
unfolding is_of write_ty
num_short n t h = ap (λ x. length (write_ty x)) (num_out t (and_l (as_num t) (ltb n word) h))

truth_short : (b : Bool) (t : Ty) → is_of (truth b) t ≡ true → length (write_ty t) ≡ 1
unfolding is_of write_ty
truth_short b t h = ap (λ x. length (write_ty x)) (same_ty_out t a_truth h)

text_short : (x : List ℕ) (t : Ty) → is_of (text x) t ≡ true → length (write_ty t) ≡ 1
unfolding is_of write_ty
text_short x t h = ap (λ x. length (write_ty x)) (same_ty_out t a_text (and_l (same_ty t a_text) (bytes x) h))

module _ (bs : List ℕ) (at : ℕ) where
  -- what a head tells of its datum
  abbrev Told : DataHead → Data → ℕ → Type 0
  Told unit_h d e = PlainDatum bs d vs.Nothing e
  Told (num_h n) d e = PlainDatum bs d (vs.Number n) e
  Told (truth_h b) d e = PlainDatum bs d (vs.Truth b) e
  Told (text_h t) d e = PlainDatum bs d (vs.Text record { start = at + 5; count = length t }) e
  Told (bag_h k) d e = Tells bs (pt.Bag k) d
  Told (rec_h ns) d e = Tells bs pt.Record d
  Told left_h d e = Tells bs (pt.Either sd.Left) d
  Told right_h d e = Tells bs (pt.Either sd.Right) d

  told : (d : Data) (e : ℕ) → At bs at (write_data d) → e ≡ length (write_data_head (head_of d)) → Told (head_of d) d e
  unfolding head_of write_data write_data_head Holds size_d
  told unit e a q = record { holds = λ m u. refl; long = q; typed = unit_short; some = omega arith }
  told (num n) e a q = record { holds = λ m u. refl; long = q; typed = num_short n; some = omega arith }
  told (truth b) e a q = record { holds = λ m u. refl; long = q; typed = truth_short b; some = omega arith }
  told (text t) e a q =
      let s : At bs (at + 5) t = at_same (at_second (4 ∷ le 4 (length t)) t a) (let z : at + suc (length (le 4 (length t))) ≡ at + 5 = omega (arith, length_le 4 (length t)) in z) refl in
      record { holds = λ m u. (record { start = at + 5; count = length t }, refl, at_spelled s); long = q; typed = text_short t; some = omega arith }
  told (bag ds) e a q = (ds, refl, refl)
  told (rec fs) e a q = (fs, refl)
  told (left d) e a q = (d, refl)
  told (right d) e a q = (d, refl)

  -- the part that a node is
  abbrev pub part_of : DataNode → ℕ → Part
  part_of dn.Nothing e = pt.Plain vs.Nothing e
  part_of (dn.Number n) e = pt.Plain (vs.Number n) e
  part_of (dn.Truth b) e = pt.Plain (vs.Truth b) e
  part_of (dn.Text n) e = pt.Plain (vs.Text record { start = at + 5; count = n }) e
  part_of (dn.Bag k) e = pt.Bag k
  part_of (dn.Record k) e = pt.Record
  part_of dn.Left e = pt.Either sd.Left
  part_of dn.Right e = pt.Either sd.Right

  module _ (node : DataNode) (k e : ℕ) (r : NodeRead data_heads data_arity TellsData (from at bs) node k e) where
    head_is : (d : Data) → Stands data_of bs at d → FitsData d → Told r.thing d e
    head_is d s f =
        let b = r.begins in
        let q : write_data_head r.thing ++ drop e (from at bs) ≡ write_data_head (head_of d) ++ (tail_of d ++ s.rest) = sym (split_at e (from at bs) (write_data_head r.thing) b.is) ∙ from_drop at bs ∙ s.is ∙ head_written d s.rest in
        let w = data_laws.one_way r.thing (head_of d) _ _ b.fits (head_fits d f) q in
        let l : e ≡ length (write_data_head (head_of d)) = sym (written_length data_heads (from at bs) e r.thing b) ∙ ap (λ h. length (write_data_head h)) w.0 in
        subst (λ h. Told h d e) (sym w.0) (told d e (at_stands s) l)

    -- what is told of a node, and what of its head
    agree : (node : DataNode) (h : DataHead) (d : Data) → TellsData node h → Told h d e → Tells bs (part_of node e) d
    agree dn.Nothing h d t x = subst (λ v. Told v d e) t x
    agree (dn.Number n) h d t x = subst (λ v. Told v d e) t x
    agree (dn.Truth b) h d t x = subst (λ v. Told v d e) t x
    agree (dn.Text n) h d t x = subst (λ v. PlainDatum bs d (vs.Text record { start = at + 5; count = v }) e) t.2 (subst (λ v. Told v d e) t.1 x)
    agree (dn.Bag n) h d t x = subst (λ v. Told v d e) t x
    agree (dn.Record n) h d t x = subst (λ v. Told v d e) t.1 x
    agree dn.Left h d t x = subst (λ v. Told v d e) t x
    agree dn.Right h d t x = subst (λ v. Told v d e) t x

    pub part_tells : (d : Data) → Stands data_of bs at d → FitsData d → Tells bs (part_of node e) d
    part_tells d s f = agree node r.thing d r.says.0 (head_is d s f)

    -- so many bytes at least
    least : DataHead → ℕ
    least unit_h = 1
    least (num_h n) = 1
    least (truth_h b) = 1
    least (text_h t) = 1
    least (bag_h n) = 5
    least (rec_h ns) = 1
    least left_h = 1
    least right_h = 1

    least_written : (h : DataHead) → least h ≤ length (write_data_head h)
    unfolding least write_data_head
    least_written unit_h = omega arith
    least_written (num_h n) = omega arith
    least_written (truth_h b) = omega arith
    least_written (text_h t) = omega arith
    least_written (bag_h n) = omega (arith, length_le 4 n)
    least_written (rec_h ns) = omega arith
    least_written left_h = omega arith
    least_written right_h = omega arith

    pub part_inside : at ≤ length bs → PartInside (length bs) at (part_of node e)
    unfolding least
    part_inside l = go node r.says.0
      where
        far : at + e ≤ length bs
        far = omega (arith, r.begins.within, ap length (from_drop at bs), length-drop at bs)

        long : least r.thing ≤ e
        long = omega (arith, written_length data_heads (from at bs) e r.thing r.begins, least_written r.thing)

        go : (node : DataNode) → TellsData node r.thing → PartInside (length bs) at (part_of node e)
        go dn.Nothing t = far
        go (dn.Number n) t = far
        go (dn.Truth b) t = far
        go (dn.Text n) t = far
        go (dn.Bag n) t = let z : 5 ≤ e = subst (λ h. least h ≤ e) t long in omega (arith, far)
        go (dn.Record n) t = let z : 1 ≤ e = subst (λ h. least h ≤ e) t.1 long in omega (arith, far)
        go dn.Left t = let z : 1 ≤ e = subst (λ h. least h ≤ e) t long in omega (arith, far)
        go dn.Right t = let z : 1 ≤ e = subst (λ h. least h ≤ e) t long in omega (arith, far)

  pub part_says : (other node : DataNode) (k e : ℕ) → other ≡ node → at ≤ length bs → NodeRead data_heads data_arity TellsData (from at bs) other k e
      → PartInside (length bs) at (part_of node e) × ((d : Data) → Stands data_of bs at d → FitsData d → Tells bs (part_of node e) d)
  part_says other node k e q l r =
      let s = subst (λ v. NodeRead data_heads data_arity TellsData (from at bs) v k e) q r in
      (part_inside node k e s l, part_tells node k e s)

  pub no_part : (p : ℕ) → Stuck data_heads (from at bs) p → (d : Data) → Stands data_of bs at d → FitsData d → ⊥
  no_part p t d s f = t.absent (head_of d) (tail_of d ++ s.rest) (head_fits d f) (from_drop at bs ∙ s.is ∙ head_written d s.rest)

-- a record is told by its tag
rec_tag : (d : Data) (rest : List ℕ) → get_or (write_data d ++ rest) 0 0 ≡ 6 → (fs : Fields) × (d ≡ rec fs)
unfolding write_data truth_tag
rec_tag unit rest e = absurd (omega (arith, e))
rec_tag (num n) rest e = absurd (omega (arith, e))
rec_tag (truth true) rest e = absurd (omega (arith, e))
rec_tag (truth false) rest e = absurd (omega (arith, e))
rec_tag (text t) rest e = absurd (omega (arith, e))
rec_tag (bag ds) rest e = absurd (omega (arith, e))
rec_tag (rec fs) rest e = (fs, refl)
rec_tag (left d) rest e = absurd (omega (arith, e))
rec_tag (right d) rest e = absurd (omega (arith, e))

pub record_there : (bs : List ℕ) (at : ℕ) → get_or bs at 0 ≡ 6 → (d : Data) → Stands data_of bs at d → (fs : Fields) × (d ≡ rec fs)
record_there bs at e d s = let a = at_stands s in rec_tag d a.rest (sym (at_byte a) ∙ e)

pub none_there : (bs : List ℕ) (at : ℕ) → length bs ≤ at → (d : Data) → Stands data_of bs at d → ⊥
unfolding write_data
none_there bs at l d s = go d s.is
  where
    z : length (drop at bs) ≡ 0
    z = length-drop at bs ∙ (let y : length bs - at ≡ 0 = omega arith in y)

    go : (d : Data) → drop at bs ≡ write_data d ++ s.rest → ⊥
    go unit e = omega (arith, z, ap length e)
    go (num n) e = omega (arith, z, ap length e)
    go (truth b) e = omega (arith, z, ap length e)
    go (text t) e = omega (arith, z, ap length e)
    go (bag ds) e = omega (arith, z, ap length e)
    go (rec fs) e = omega (arith, z, ap length e)
    go (left d) e = omega (arith, z, ap length e)
    go (right d) e = omega (arith, z, ap length e)

-- types
module _ (bs : List ℕ) (ty : ℕ) where
  type_long : (e : ℕ) → Read (many types 1) (from ty bs) e → (t : Ty) → Stands types bs ty t → FitsTy t → e ≡ length (write_ty t)
  type_long e r t s f =
      let o = one_read types (from ty bs) e r in
      let q : write_ty o.thing ++ drop e (from ty bs) ≡ write_ty t ++ s.rest = sym (split_at e (from ty bs) (write_ty o.thing) o.begins.is) ∙ from_drop ty bs ∙ s.is in
      let w = tree_way types ty_heads ty_arity ty_laws o.thing t _ _ o.begins.fits f q in
      sym (written_length types (from ty bs) e o.thing o.begins) ∙ ap (λ x. length (write_ty x)) w.0

  type_within : (e : ℕ) → ty ≤ length bs → Read (many types 1) (from ty bs) e → ty + e ≤ length bs
  type_within e l r = omega (arith, r.begins.within, ap length (from_drop ty bs), length-drop ty bs)

  no_type : (p : ℕ) → Stuck (many types 1) (from ty bs) p → (t : Ty) → Stands types bs ty t → FitsTy t → ⊥
  no_type p k t s f = (one_stuck types (from ty bs) p k).absent t s.rest f (from_drop ty bs ∙ s.is)

  pub type_said : (r : Result ℕ ℕ) → ty ≤ length bs → MatchResult r (λ e. Read (many types 1) (from ty bs) e) (λ p. Stuck (many types 1) (from ty bs) p)
      → (ty + result_unwrap_or r 0 ≤ length bs) × ((t : Ty) → Stands types bs ty t → FitsTy t → result_unwrap_or r 0 ≡ length (write_ty t))
  type_said (Ok e) l r = (type_within e l r, type_long e r)
  type_said (Err p) l k = (omega arith, λ t s f. absurd (no_type p k t s f))

  rec_written : (ts : Tys) (rest : List ℕ) → write_ty (a_rec ts) ++ rest ≡ write_ty_head (rec_t (names_ty ts)) ++ (write_tys ts ++ rest)
  unfolding write_ty write_ty_head
  rec_written ts rest = ap (λ v. 5 ∷ v) (append_assoc (write_names (names_ty ts)) (write_tys ts) rest)

  rec_fits : (ts : Tys) → FitsTy (a_rec ts) → FitsTyHead (rec_t (names_ty ts))
  unfolding FitsTy FitsTyHead
  rec_fits ts f = f.0

  pub no_names : (p : ℕ) → Stuck ty_heads (from ty bs) p → (ts : Tys) → Stands types bs ty (a_rec ts) → FitsTy (a_rec ts) → ⊥
  no_names p k ts s f = k.absent (rec_t (names_ty ts)) (write_tys ts ++ s.rest) (rec_fits ts f) (from_drop ty bs ∙ s.is ∙ rec_written ts s.rest)

  names_length : (ns : List Name) → 5 ≤ length (write_ty_head (rec_t ns))
  unfolding write_ty_head
  names_length ns = omega (arith, length-append (le 4 (length ns)) (writes name ns), length_le 4 (length ns))

  names_written : (ns : List Name) → length (write_ty_head (rec_t ns)) ≡ 1 + length (write_names ns)
  unfolding write_ty_head
  names_written ns = omega arith

  module _ (node : TypeNode) (k e : ℕ) (r : NodeRead ty_heads ty_arity TellsType (from ty bs) node k e) where
    head_ty : (ts : Tys) → Stands types bs ty (a_rec ts) → FitsTy (a_rec ts) → r.thing ≡ rec_t (names_ty ts)
    head_ty ts s f =
        let b = r.begins in
        let q : write_ty_head r.thing ++ drop e (from ty bs) ≡ write_ty_head (rec_t (names_ty ts)) ++ (write_tys ts ++ s.rest) = sym (split_at e (from ty bs) (write_ty_head r.thing) b.is) ∙ from_drop ty bs ∙ s.is ∙ rec_written ts s.rest in
        (ty_laws.one_way r.thing (rec_t (names_ty ts)) _ _ b.fits (rec_fits ts f) q).0

    length_is : length (write_ty_head r.thing) ≡ e
    length_is = written_length ty_heads (from ty bs) e r.thing r.begins

    pub names_tell : (n : ℕ) → node ≡ tn.Record n → (ts : Tys) → Stands types bs ty (a_rec ts) → FitsTy (a_rec ts) → TellsNames (Some record { count = n; length = e }) ts
    names_tell n q ts s f =
        let t : TellsType (tn.Record n) r.thing = subst (λ v. TellsType v r.thing) q r.says.0 in
        let h = head_ty ts s f in
        let z : rec_t t.0 ≡ rec_t (names_ty ts) = sym t.1 ∙ h in
        let y : t.0 ≡ names_ty ts = cc in
        (sym t.2 ∙ ap length y, sym length_is ∙ ap (λ v. length (write_ty_head v)) h ∙ names_written (names_ty ts))

    pub names_inside : (n : ℕ) → node ≡ tn.Record n → ty ≤ length bs → NamesInside (length bs) ty (Some record { count = n; length = e })
    names_inside n q l =
        let t : TellsType (tn.Record n) r.thing = subst (λ v. TellsType v r.thing) q r.says.0 in
        (omega (arith, names_length t.0, length_is, ap (λ v. length (write_ty_head v)) t.1), omega (arith, r.begins.within, ap length (from_drop ty bs), length-drop ty bs))

    pub other_type : ((n : ℕ) → node ≡ tn.Record n → ⊥) → (ts : Tys) → Stands types bs ty (a_rec ts) → FitsTy (a_rec ts) → ⊥
    other_type c ts s f = go node c r.says.0 (head_ty ts s f)
      where
        go : (node : TypeNode) → ((n : ℕ) → node ≡ tn.Record n → ⊥) → TellsType node r.thing → r.thing ≡ rec_t (names_ty ts) → ⊥
        go tn.Nothing c t h = let z : ◌≡◌ {A = ℕ} 0 1 = cc in omega arith
        go tn.Number c t h = let z : ◌≡◌ {A = ℕ} 0 1 = cc in omega arith
        go tn.Truth c t h = let z : ◌≡◌ {A = ℕ} 0 1 = cc in omega arith
        go tn.Text c t h = let z : ◌≡◌ {A = ℕ} 0 1 = cc in omega arith
        go tn.Bag c t h = let z : ◌≡◌ {A = ℕ} 0 1 = cc in omega arith
        go (tn.Record n) c t h = c n refl
        go tn.Either c t h = let z : ◌≡◌ {A = ℕ} 0 1 = cc in omega arith

-- names
module _ (bs : List ℕ) (at : ℕ) where
  name_tells : (n : ℕ) → ReadAs name (from at bs) (4 + n) (λ t. length t ≡ n) → (t : Name) → Stands name bs at t → name.Fits t → n ≡ length t
  name_tells n r t s f =
      let q : name.write r.thing ++ drop (4 + n) (from at bs) ≡ name.write t ++ s.rest = sym (split_at (4 + n) (from at bs) (name.write r.thing) r.begins.is) ∙ from_drop at bs ∙ s.is in
      sym r.says ∙ ap length (name_way r.thing t _ _ r.begins.fits f q).0

  name_within : (n : ℕ) → at ≤ length bs → ReadAs name (from at bs) (4 + n) (λ t. length t ≡ n) → at + (4 + n) ≤ length bs
  name_within n l r = omega (arith, r.begins.within, ap length (from_drop at bs), length-drop at bs)

  no_name : (p : ℕ) → Stuck name (from at bs) p → (t : Name) → Stands name bs at t → name.Fits t → ⊥
  no_name p k t s f = k.absent t s.rest f (from_drop at bs ∙ s.is)

  pub name_said : (r : Result ℕ ℕ) → at ≤ length bs → MatchResult r (λ n. ReadAs name (from at bs) (4 + n) (λ t. length t ≡ n)) (λ p. Stuck name (from at bs) p) → NameInside (length bs) at (result_ok r) × TellsName bs at (result_ok r)
  name_said (Ok n) l r = (name_within n l r, record { tells = name_tells n r })
  name_said (Err p) l k = (tt, record { tells = no_name p k })
