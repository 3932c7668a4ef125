-- Whether types are sound, from their heads and the types after them.
use Rattle.std.proofs.Common.{◌≡◌, ℕ, ◌≤◌, Bool, true, false, ◌&&◌, List, [], ◌∷◌, ◌++◌, length, get_or, drop, Some, None, Option, sym, refl, ap, ◌∙◌, subst, ap₂, arith}
use Rattle.std.proofs.lemmas.List.{append-nil}
use Rattle.std.specs.Option.{is_some}
use Rattle.query.specs.Data.{Name}
use Rattle.query.specs.Query.{Ty}
use Rattle.query.specs.Types.{Schema, sound, sounds, first_after}
use Rattle.query.specs.Size.{size_t, size_s, all_sound}
use Rattle.format.specs.Coding.{writes, many}
use Rattle.format.specs.Wire.{write_names, write_ty, types}
use Rattle.format.specs.Heads.{as_tys, first_ty_of, second_ty_of, TyHead, unit_t, num_t, truth_t, text_t, bag_t, rec_t, either_t, write_ty_head, FitsTyHead, ty_heads, ty_arity, build_ty}
use Rattle.format.specs.Nodes.{NodeRead, TellsType}
use Rattle.format.specs.declared.node.TypeNode.{TypeNode}
use Rattle.format.specs.declared.node.TypeNode.TheVariants as tn
use Rattle.format.specs.Lists.{from}
use Rattle.parts.specs.declared.counted.Counted.{Counted}
use Rattle.parts.specs.Counts.{total, all_hold, Measures}
use Rattle.parts.specs.Heads.{own_t}
use Rattle.parts.specs.Orders.{before_first, rising, head_sound, NamesTold, HeadTold, SchemaTold, ToldInFront}
use Rattle.parts.proofs.Owns.{tail_of}
use Rattle.parts.proofs.TypeParts.{ty_sizing}
use Rattle.parts.proofs.Aparts.{ty_parted}
use Rattle.parts.proofs.Fronts.{Weights, after_tag}

-- a record's types
cross : (a b c d : Bool) → (a && b) && (c && d) ≡ (b && c) && (a && d)
cross true true true d = refl
cross true true false d = refl
cross true false c d = refl
cross false true true d = refl
cross false true false d = refl
cross false false c d = refl

first_is : (n : Name) (ns : List Name) (ts : List Ty) → length ts ≡ length ns → first_after n (as_tys ns ts) ≡ before_first n ns
unfolding first_after as_tys
first_is n [] ts e = refl
first_is n (m ∷ ns) [] e = absurd (omega (arith, e))
first_is n (m ∷ ns) (t ∷ ts) e = refl

fields_sound : (ns : List Name) (ts : List Ty) → length ts ≡ length ns → sounds (as_tys ns ts) ≡ rising ns && all_hold sound ts
unfolding sounds as_tys
fields_sound [] [] e = refl
fields_sound [] (t ∷ ts) e = absurd (omega (arith, e))
fields_sound (n ∷ ns) [] e = absurd (omega (arith, e))
fields_sound (n ∷ ns) (t ∷ ts) e =
    let l : length ts ≡ length ns = omega (arith, e) in
    ap₂ (λ (a : Bool) (b : Bool). (sound t && a) && b) (first_is n ns ts l) (fields_sound ns ts l) ∙ cross (sound t) (before_first n ns) (rising ns) (all_hold sound ts)

none_sound : (ts : List Ty) → length ts ≡ 0 → true ≡ all_hold sound ts
none_sound [] e = refl
none_sound (t ∷ ts) e = absurd (omega (arith, e))

and_end : (a : Bool) → a ≡ a && true
and_end true = refl
and_end false = refl

one_sound : (ts : List Ty) → length ts ≡ 1 → sound (first_ty_of ts) ≡ all_hold sound ts
unfolding first_ty_of
one_sound [] e = absurd (omega (arith, e))
one_sound (t ∷ ts) e = and_end (sound t) ∙ ap (λ (b : Bool). sound t && b) (none_sound ts (omega (arith, e)))

two_sound : (ts : List Ty) → length ts ≡ 2 → sound (first_ty_of ts) && sound (second_ty_of ts) ≡ all_hold sound ts
unfolding first_ty_of second_ty_of
two_sound [] e = absurd (omega (arith, e))
two_sound (t ∷ ts) e = ap (λ (b : Bool). sound t && b) (one_sound ts (omega (arith, e)))

pub ty_sounding : (h : TyHead) (ts : List Ty) → length ts ≡ ty_arity h → sound (build_ty h ts) ≡ head_sound h && all_hold sound ts
unfolding sound head_sound build_ty ty_arity
ty_sounding unit_t ts e = none_sound ts e
ty_sounding num_t ts e = none_sound ts e
ty_sounding truth_t ts e = none_sound ts e
ty_sounding text_t ts e = none_sound ts e
ty_sounding bag_t ts e = one_sound ts e
ty_sounding (rec_t ns) ts e = fields_sound ns ts e
ty_sounding either_t ts e = two_sound ts e

abbrev pub sound_weights : Weights
sound_weights = record { S = types; H = ty_heads; arity = ty_arity; build = build_ty; parted = ty_parted; size = size_t; own = own_t; holds = sound; good = head_sound; sizing = ty_sizing; holding = ty_sounding }

-- heads
pub head_names : (xs : List ℕ) (node : TypeNode) (k : ℕ) (r : Bool) → node ≡ tn.Record k → NamesTold xs r → HeadTold xs node r
unfolding head_sound FitsTyHead write_ty_head
head_names xs node k r e n h t rest f s q =
    let s' = subst (λ (v : TypeNode). TellsType v h) e s in
    let ns = s'.0 in
    let p : t ∷ xs ≡ 5 ∷ (write_names ns ++ rest) = subst (λ (v : TyHead). t ∷ xs ≡ write_ty_head v ++ rest) s'.1 q in
    n ns rest (subst FitsTyHead s'.1 f) (tail_of t 5 xs (write_names ns ++ rest) p) ∙ sym (ap head_sound s'.1)

head_plain_is : (node : TypeNode) (h : TyHead) → ((k : ℕ) → node ≡ tn.Record k → ⊥) → TellsType node h → true ≡ head_sound h
unfolding head_sound
head_plain_is tn.Nothing h q t = sym (ap head_sound t)
head_plain_is tn.Number h q t = sym (ap head_sound t)
head_plain_is tn.Truth h q t = sym (ap head_sound t)
head_plain_is tn.Text h q t = sym (ap head_sound t)
head_plain_is tn.Bag h q t = sym (ap head_sound t)
head_plain_is (tn.Record k) h q t = absurd (q k refl)
head_plain_is tn.Either h q t = sym (ap head_sound t)

pub head_plain : (xs : List ℕ) (node : TypeNode) → ((k : ℕ) → node ≡ tn.Record k → ⊥) → HeadTold xs node true
head_plain xs node q h t rest f s e = head_plain_is node h q s

module _ (limit : ℕ) (xs : List ℕ) (node : TypeNode) (k e : ℕ) (n : NodeRead ty_heads ty_arity TellsType xs node k e) where
  pub head_is : (r : Bool) → HeadTold (from 1 xs) node r → r ≡ head_sound n.thing
  head_is r w = w n.thing (get_or xs 0 0) (drop e xs) n.begins.fits n.says.0 (after_tag sound_weights TellsType limit xs node k e n)

-- what was measured is told
schema_sound : (ts : Schema) → all_hold sound ts ≡ all_sound ts
unfolding all_sound
schema_sound [] = refl
schema_sound (t ∷ ts) = ap (λ (b : Bool). sound t && b) (schema_sound ts)

-- a schema has more parts than its types
types_in : (ss : Schema) → total size_t ss ≤ size_s ss
unfolding size_s
types_in [] = omega arith
types_in (t ∷ ts) = omega (arith, types_in ts)

module _ (count limit : ℕ) (xs : List ℕ) where
  pub types_fail : Measures (many types count) (total size_t) (all_hold sound) limit xs None → ToldInFront (many types count) (total size_t) all_sound limit xs None
  types_fail m = record { finds = λ ss rest f q l. sym (schema_sound ss) ∙ m.measured ss rest f q l; within = tt }

  pub types_found : (c : Counted) → Measures (many types count) (total size_t) (all_hold sound) limit xs (Some c) → ToldInFront (many types count) (total size_t) all_sound limit xs (Some c.length)
  types_found c m = record { finds = λ ss rest f q l. let t = m.measured ss rest f q in (sym (schema_sound ss) ∙ t.0, t.3); within = m.bounded.1 }

  pub schema_by_types : (r : Option ℕ) → ToldInFront (many types count) (total size_t) all_sound limit xs r → SchemaTold count limit xs (is_some r)
  schema_by_types None c ss rest f q l = sym (c.finds ss rest f q (omega (arith, types_in ss)))
  schema_by_types (Some n) c ss rest f q l = sym (c.finds ss rest f q (omega (arith, types_in ss))).0

  pub schema_told : (r : Option Counted) → Measures (many types count) (total size_t) (all_hold sound) limit xs r → SchemaTold count limit xs (is_some r)
  schema_told None m = schema_by_types None (types_fail m)
  schema_told (Some c) m = schema_by_types (Some c.length) (types_found c m)

-- one type is a row of one
module _ (limit : ℕ) (xs : List ℕ) where
  one_written : (u : Ty) (rest : List ℕ) → xs ≡ write_ty u ++ rest → xs ≡ writes types (u ∷ []) ++ rest
  one_written u rest q = q ∙ ap (λ (v : List ℕ). v ++ rest) (sym (append-nil (write_ty u)))

  one_sounds : (u : Ty) → sound u ≡ all_sound (u ∷ [])
  one_sounds u = and_end (sound u) ∙ schema_sound (u ∷ [])

  pub type_told : (r : Option ℕ) → ToldInFront (many types 1) (total size_t) all_sound limit xs r → ToldInFront types size_t sound limit xs r
  type_told None c = record { finds = λ u rest f q l. one_sounds u ∙ c.finds (u ∷ []) rest (refl, (f, tt)) (one_written u rest q) (omega arith); within = tt }
  type_told (Some n) c =
      record {
        finds = λ u rest f q l. let t = c.finds (u ∷ []) rest (refl, (f, tt)) (one_written u rest q) (omega arith) in (one_sounds u ∙ t.0, t.1 ∙ ap length (append-nil (write_ty u)));
        within = c.within;
      }

  -- so of what was measured
  pub type_fails : Measures (many types 1) (total size_t) (all_hold sound) limit xs None → ToldInFront types size_t sound limit xs None
  type_fails m = type_told None (types_fail 1 limit xs m)

  pub type_found : (c : Counted) → Measures (many types 1) (total size_t) (all_hold sound) limit xs (Some c) → ToldInFront types size_t sound limit xs (Some c.length)
  type_found c m = type_told (Some c.length) (types_found 1 limit xs c m)
