-- What the heads of a datum and of a type say of both.
use Rattle.std.proofs.Common.{◌≡◌, ℕ, suc, ◌+◌, ◌-◌, ◌≤◌, Bool, true, false, List, [], ◌∷◌, ◌++◌, length, take, drop, sym, refl, ap, ◌∙◌, subst, ap₂, arith, length-take}
use Rattle.std.proofs.lemmas.List.{append_assoc, drop-take}
use Rattle.query.specs.Data.{Data, unit, num, truth, text, bag, rec, left, right, Datas, Fields, how_many}
use Rattle.query.specs.Query.{Ty, a_unit, a_num, a_truth, a_text, a_rec, an_either, Tys}
use Rattle.query.specs.Types.{is_of}
use Rattle.format.specs.Wire.{names, names_ty, write_names, write_ty, FitsTy, write_data, FitsData}
use Rattle.format.specs.Heads.{DataHead, unit_h, num_h, truth_h, text_h, bag_h, rec_h, left_h, right_h, write_data_head, data_heads, data_arity, write_ty_head, ty_heads, ty_arity}
use Rattle.format.specs.Nodes.{NodeRead, TellsData, TellsType}
use Rattle.format.specs.declared.node.DataNode.{DataNode}
use Rattle.format.specs.declared.node.DataNode.TheVariants as dn
use Rattle.format.specs.declared.node.TypeNode.{TypeNode}
use Rattle.format.specs.Lists.{from}
use Rattle.format.specs.NameLaws.{names_way}
use Rattle.of_type.specs.declared.Kind.TheVariants as kinds
use Rattle.of_type.specs.Kinds.{kind_of_node, kind_of_type}
use Rattle.of_type.specs.Places.{NoParts, TwoRecords, TwoSides, Meeting}
use Rattle.of_type.proofs.Fronts.{head_of, tail_of, head_ty, tail_ty, data_front, ty_front}
use Rattle.of_type.proofs.SameKind.{kind, kind_ty, told_kind, told_kind_ty, at_kind, same_kind, unit_is, num_is, truth_is, text_is}
use Rattle.of_type.proofs.Fields.{names_of, rec_is}

pub or_false : (b : Bool) → (b ≡ true → ⊥) → b ≡ false
or_false true h = absurd (h refl)
or_false false h = refl

-- a datum by its head
OfHead : DataHead → Data → Type 0
OfHead unit_h d = d ≡ unit
OfHead (num_h n) d = d ≡ num n
OfHead (truth_h b) d = d ≡ truth b
OfHead (text_h t) d = d ≡ text t
OfHead (bag_h k) d = (ds : Datas) × (d ≡ bag ds) × (how_many ds ≡ k)
OfHead (rec_h ns) d = (fs : Fields) × (d ≡ rec fs) × (names fs ≡ ns)
OfHead left_h d = (x : Data) × (d ≡ left x)
OfHead right_h d = (x : Data) × (d ≡ right x)

of_head : (d : Data) → OfHead (head_of d) d
unfolding OfHead
of_head unit = refl
of_head (num n) = refl
of_head (truth b) = refl
of_head (text t) = refl
of_head (bag ds) = (ds, refl, refl)
of_head (rec fs) = (fs, refl, refl)
of_head (left d) = (d, refl)
of_head (right d) = (d, refl)

at_head : (h : DataHead) (d : Data) → head_of d ≡ h → OfHead h d
at_head h d e = subst (λ (v : DataHead). OfHead v d) e (of_head d)

module _ (d : Data) (t : Ty) (us vs rest rest' : List ℕ) (f : FitsData d) (a : us ≡ tail_of d ++ rest) (b : vs ≡ tail_ty t ++ rest') where
  no_parts : (x : Data) (u : Ty) → d ≡ x → t ≡ u → tail_of x ≡ [] → tail_ty u ≡ [] → (FitsData x → is_of x u ≡ true) → NoParts d t us vs rest rest'
  no_parts x u p q y z h =
      record {
        holds = ap₂ (λ (v : Data) (w : Ty). is_of v w) p q ∙ h (subst FitsData p f);
        after = a ∙ ap (λ (v : Data). tail_of v ++ rest) p ∙ ap (λ (v : List ℕ). v ++ rest) y;
        after_ty = b ∙ ap (λ (v : Ty). tail_ty v ++ rest') q ∙ ap (λ (v : List ℕ). v ++ rest') z;
      }

  two_sides : (side : Data → Data) (x : Data) (u v : Ty) → d ≡ side x → tail_of (side x) ≡ write_data x → t ≡ an_either u v → TwoSides side d t us vs rest rest'
  two_sides side x u v p y q =
      record {
        x = x;
        u = u;
        v = v;
        is = p;
        is_ty = q;
        after = a ∙ ap (λ (w : Data). tail_of w ++ rest) p ∙ ap (λ (w : List ℕ). w ++ rest) y;
        after_ty = b ∙ ap (λ (w : Ty). tail_ty w ++ rest') q ∙ append_assoc (write_ty u) (write_ty v) rest';
      }

  pub two_records : (k : ℕ) (fs : Fields) (ts : Tys) → d ≡ rec fs → t ≡ a_rec ts → names fs ≡ names_ty ts → length (names fs) ≡ k → TwoRecords k d t us vs rest rest'
  two_records k fs ts p q s m =
      record {
        fs = fs;
        ts = ts;
        is = p;
        is_ty = q;
        same_names = s;
        many = m;
        after = a ∙ ap (λ (w : Data). tail_of w ++ rest) p;
        after_ty = b ∙ ap (λ (w : Ty). tail_ty w ++ rest') q;
      }

  pub meets : (n : DataNode) → TellsData n (head_of d) → kind_of_node n ≡ kind_ty (head_ty t) → ((k : ℕ) → n ≡ dn.Record k → TwoRecords k d t us vs rest rest') → Meeting n d t us vs rest rest'
  unfolding OfHead
  meets dn.Nothing e k r = no_parts unit a_unit (at_head unit_h d e) (at_kind kinds.Nothing t (sym k)) refl refl (λ g. unit_is)
  meets (dn.Number n) e k r = no_parts (num n) a_num (at_head (num_h n) d e) (at_kind kinds.Number t (sym k)) refl refl (num_is n)
  meets (dn.Truth c) e k r = no_parts (truth c) a_truth (at_head (truth_h c) d e) (at_kind kinds.Truth t (sym k)) refl refl (λ g. truth_is c)
  meets (dn.Text n) e k r = no_parts (text e.0) a_text (at_head (text_h e.0) d e.1) (at_kind kinds.Text t (sym k)) refl refl (text_is e.0)
  meets (dn.Bag n) e k r =
      let p = at_head (bag_h n) d e in
      let q = at_kind kinds.Bag t (sym k) in
      record { ds = p.0; u = q.0; is = p.1; is_ty = q.1; many = p.2; after = a ∙ ap (λ (w : Data). tail_of w ++ rest) p.1; after_ty = b ∙ ap (λ (w : Ty). tail_ty w ++ rest') q.1 }
  meets (dn.Record n) e k r = r n refl
  meets dn.Left e k r = let p = at_head left_h d e in let q = at_kind kinds.Either t (sym k) in two_sides left p.0 q.0 q.1 p.1 refl q.2
  meets dn.Right e k r = let p = at_head right_h d e in let q = at_kind kinds.Either t (sym k) in two_sides right p.0 q.0 q.1 p.1 refl q.2

-- the bytes after a head's tag, as a callee is handed them
block : (xs : List ℕ) (e x : ℕ) (w : List ℕ) → take e xs ≡ x ∷ w → take (e - 1) (drop 1 xs) ≡ w
block xs e x w h =
    let l : length (take e xs) ≡ suc (length w) = ap length h in
    let g : length (take e xs) ≤ e = simp length-take (omega arith) in
    let n : 1 + (e - 1) ≡ e = omega arith in
    sym (drop-take 1 (e - 1) xs) ∙ ap (λ (i : ℕ). drop 1 (take i xs)) n ∙ ap (λ (v : List ℕ). drop 1 v) h

module _ (xs ys : List ℕ) (node : DataNode) (k e : ℕ) (tnode : TypeNode) (k' e' : ℕ) (nd : NodeRead data_heads data_arity TellsData xs node k e) (nt : NodeRead ty_heads ty_arity TellsType ys tnode k' e')
    (d : Data) (t : Ty) (rest rest' : List ℕ) (f : FitsData d) (g : FitsTy t) (p : xs ≡ write_data d ++ rest) (q : ys ≡ write_ty t ++ rest') where
  of_node : kind_of_node node ≡ kind (head_of d)
  of_node = told_kind node nd.thing nd.says.0 ∙ ap kind (data_front xs d rest f p e nd.thing nd.begins).0

  of_type : kind_of_type tnode ≡ kind_ty (head_ty t)
  of_type = told_kind_ty tnode nt.thing nt.says.0 ∙ ap kind_ty (ty_front ys t rest' g q e' nt.thing nt.begins).0

  -- of two kinds
  pub kinds_differ : (kind_of_node node ≡ kind_of_type tnode → ⊥) → is_of d t ≡ false
  kinds_differ h = or_false (is_of d t) (λ o. h (of_node ∙ same_kind d t o ∙ sym of_type))

  names_block : (fs : Fields) → d ≡ rec fs → take (e - 1) (drop 1 xs) ≡ write_names (names fs)
  unfolding write_data_head
  names_block fs r =
      block xs e 6 (write_names (names fs)) (nd.begins.is ∙ ap write_data_head ((data_front xs d rest f p e nd.thing nd.begins).0 ∙ ap head_of r))

  names_block_ty : (ts : Tys) → t ≡ a_rec ts → take (e' - 1) (drop 1 ys) ≡ write_names (names_ty ts)
  unfolding write_ty_head
  names_block_ty ts r =
      block ys e' 5 (write_names (names_ty ts)) (nt.begins.is ∙ ap write_ty_head ((ty_front ys t rest' g q e' nt.thing nt.begins).0 ∙ ap head_ty r))

  told : TellsData node (head_of d)
  told = subst (λ (h : DataHead). TellsData node h) (data_front xs d rest f p e nd.thing nd.begins).0 nd.says.0

  -- of one kind, and no record
  pub kinds_meet : kind_of_node node ≡ kind_of_type tnode → ((n : ℕ) → node ≡ dn.Record n → ⊥) → Meeting node d t (from e xs) (from e' ys) rest rest'
  kinds_meet h r =
      meets d t (from e xs) (from e' ys) rest rest' f (data_front xs d rest f p e nd.thing nd.begins).1 (ty_front ys t rest' g q e' nt.thing nt.begins).1 node told (h ∙ of_type) (λ n s. absurd (r n s))

  module _ (n : ℕ) (r : node ≡ dn.Record n) (h : kind_of_node node ≡ kind_of_type tnode) where
    told_record : TellsData (dn.Record n) (head_of d)
    told_record = subst (λ (v : DataNode). TellsData v (head_of d)) r told

    as_rec : (fs : Fields) × (d ≡ rec fs) × (names fs ≡ told_record.0)
    unfolding OfHead
    as_rec = at_head (rec_h told_record.0) d told_record.1

    as_rec_ty : (ts : Tys) × (t ≡ a_rec ts)
    as_rec_ty = at_kind kinds.Record t (sym of_type ∙ sym h ∙ ap kind_of_node r)

    -- with other names
    pub names_differ : (take (e - 1) (drop 1 xs) ≡ take (e' - 1) (drop 1 ys) → ⊥) → is_of d t ≡ false
    names_differ z =
        let fs = as_rec.0 in
        let ts = as_rec_ty.0 in
        or_false (is_of d t) (λ o.
        z (names_block fs as_rec.1
        ∙ ap write_names (names_of fs ts (sym (rec_is fs ts) ∙ ap₂ (λ (v : Data) (w : Ty). is_of v w) (sym as_rec.1) (sym as_rec_ty.1) ∙ o))
        ∙ sym (names_block_ty ts as_rec_ty.1)))

    -- with the same
    pub names_meet : take (e - 1) (drop 1 xs) ≡ take (e' - 1) (drop 1 ys) → Meeting node d t (from e xs) (from e' ys) rest rest'
    unfolding FitsData FitsTy
    names_meet z =
        let fs = as_rec.0 in
        let ts = as_rec_ty.0 in
        let w : write_names (names fs) ≡ write_names (names_ty ts) = sym (names_block fs as_rec.1) ∙ z ∙ names_block_ty ts as_rec_ty.1 in
        let ff = subst FitsData as_rec.1 f in
        let gg = subst FitsTy as_rec_ty.1 g in
        let s = (names_way (names fs) (names_ty ts) [] [] ff.0 gg.0 (ap (λ (v : List ℕ). v ++ []) w)).0 in
        subst (λ (v : DataNode). Meeting v d t (from e xs) (from e' ys) rest rest') (sym r)
        (two_records d t (from e xs) (from e' ys) rest rest' f (data_front xs d rest f p e nd.thing nd.begins).1 (ty_front ys t rest' g q e' nt.thing nt.begins).1 n fs ts as_rec.1 as_rec_ty.1 s (ap length as_rec.2 ∙ told_record.2))
