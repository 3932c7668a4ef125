-- A request's query: its names gathered, its schema's types read, its type told.
use Rattle.std.proofs.Common.{◌≡◌, ℕ, zero, suc, ◌+◌, ◌*◌, ◌<◌, ◌≤◌, true, List, [], ◌∷◌, ◌++◌, length, get_or, drop, Some, None, vec_items, vec_len, Option, sym, ap, ◌∙◌, subst, arith}
use mathlib.Core.Bool.{false≢true}
use Rattle.std.proofs.lemmas.List.{append_assoc, append-nil, drop_more, drop_all}
use Rattle.query.specs.Data.{Name}
use Rattle.query.specs.Query.{Ty, a_unit, Query}
use Rattle.query.specs.Types.{Schema, type_of, type_asked}
use Rattle.query.specs.Size.{size_s, size_q, all_sound}
use Rattle.checks.specs.Checks.{SchemaAt, QueryAt}
use Rattle.guide.specs.Guide.{Guided}
use Rattle.guide.proofs.Sizes.{nesting_parts}
use Rattle.ranks.specs.Ranks.{names_of}
use Rattle.ranks.specs.Known.{Knows, KnowsAll, Gathered}
use Rattle.ranks.specs.declared.names.Names.{Names}
use Rattle.ranks.proofs.Listings.{names_length}
use Rattle.types.specs.Shapes.{s_unit, shapes, built, meaning, type_at, Below}
use Rattle.types.specs.Tables.{Sound, Lies}
use Rattle.types.specs.Operators.{types_of}
use Rattle.types.specs.Outcomes.{look, size, spread, Room, told, Grew}
use Rattle.types.specs.declared.table.Table.{Table}
use Rattle.types.specs.declared.entry.Entry.{Entry}
use Rattle.types.specs.declared.entry.Entry.TheVariants.{Unit as Unit'}
use Rattle.types.specs.declared.entry.Field.{Field}
use Rattle.types.proofs.Meanings.{size_grows, kept_at}
use Rattle.typing.specs.Costs.{wide}
use Rattle.typing.specs.Loads.{LoadTold, Loaded}
use Rattle.typing.specs.declared.work.Work.{Work}
use Rattle.typing.proofs.Bounds.{Enough, enough, schema_few}
use Rattle.typed.specs.Walks.{setting, Asked, Walked}

-- a table with the type of nothing alone
unit_sound : (w : ℕ) → Sound w (Unit' ∷ []) []
unfolding shapes Below
unit_sound w = record { lies = lie; good = record { parts = part; once = λ i j h l e. omega arith } }
  where
    lie : (i : ℕ) → i < 1 → Lies 0 (get_or (Unit' ∷ []) i Unit')
    lie zero h = tt
    lie (suc i) h = absurd (omega arith)

    part : (i : ℕ) → i < 1 → Below w i (get_or (s_unit ∷ []) i s_unit)
    part zero h = tt
    part (suc i) h = absurd (omega arith)

pub begun_sound : (w : ℕ) (es : List Entry) (fs : List Field) → es ≡ Unit' ∷ [] → fs ≡ [] → Sound w es fs
begun_sound w es fs e f = subst (λ (z : List Field). Sound w es z) (sym f) (subst (λ (z : List Entry). Sound w z []) (sym e) (unit_sound w))

begun_unit : (ns : List Name) (t : Table) → vec_items t.entries ≡ Unit' ∷ [] → type_at ns (look t) 0 ≡ a_unit
unfolding shapes built meaning
begun_unit ns t e = ap (λ (z : List Entry). type_at ns (shapes (vec_items t.fields) z) 0) e

-- as many names as places
pub counted : (xs : List ℕ) (v : Names) (k n : ℕ) → k ≡ n → n ≡ vec_len v.places → k ≡ length (names_of xs v)
counted xs v k n e f = let l = names_length xs (vec_items v.places) in omega arith

-- copying
pub copied_on : (xs ys zs : List ℕ) (i : ℕ) → i < length xs → ys ++ drop i xs ≡ xs → zs ≡ ys ++ (get_or xs i 0 ∷ []) → zs ++ drop (i + 1) xs ≡ xs
copied_on xs ys zs i h e f =
    ap (λ (z : List ℕ). z ++ drop (i + 1) xs) f ∙ (append_assoc ys (get_or xs i 0 ∷ []) (drop (i + 1) xs) ∙ (ap (λ (z : List ℕ). ys ++ z) (sym (drop_more xs i 0 h)) ∙ e))

pub copied_end : (xs ys : List ℕ) (i : ℕ) → length xs ≤ i → ys ++ drop i xs ≡ xs → ys ≡ xs
copied_end xs ys i h e = sym (ap (λ (z : List ℕ). ys ++ z) (drop_all i xs h) ∙ append-nil ys) ∙ e

module _ (xs g : List ℕ) (v : Names) (t u : Table) (w : Work) (at count to : ℕ) (n : Gathered xs v at count to) (te : vec_items t.entries ≡ Unit' ∷ []) (tf : vec_items t.fields ≡ []) (tn : t.names ≡ length (names_of xs v)) where
  module _ (ss : Schema) (q : Query) (s : SchemaAt xs at count ss) (k : QueryAt xs to q) (l : size_s ss + size_q q ≤ 8192) where
    room_for : Enough ss q (length (names_of xs v))
    room_for = enough ss q _ l (n.few ss q s.stands.rest k.stands.rest s.fits.1 s.fits.0 s.stands.within s.stands.is k.fits k.stands.within k.stands.is)

    known : KnowsAll (names_of xs v) ss × Knows (names_of xs v) q
    known = n.known ss q s.stands.rest k.stands.rest s.fits.1 s.fits.0 s.stands.within s.stands.is k.fits k.stands.within k.stands.is room_for.names

    read : (r : Option (Unit {0})) → Loaded xs v t u w at count r → LoadTold (names_of xs v) t u w ss r
    read r d =
        let a = ap (λ (z : List Entry). length z) te in
        let b = ap (λ (z : List Field). length z) tf in
        let e = room_for in
        let f = schema_few ss in
        d.told ss s.stands.rest s.fits.1 s.fits.0 s.stands.is known.0 (omega (arith, f.1)) record { entries = omega (arith, e.entries); fields = omega (arith, e.fields) }

  pub schema_unsound : Loaded xs v t u w at count None → (ss : Schema) (q : Query) → SchemaAt xs at count ss → QueryAt xs to q → size_s ss + size_q q ≤ 8192 → all_sound ss ≡ true → ⊥
  schema_unsound d ss q s k l o = false≢true (sym (read ss q s k l None d).says ∙ o)

  pub query_told : (sch : List ℕ) (z : Table) (r : Option ℕ) → Loaded xs v t u w at count (Some tt) → sch ≡ w.stack → Walked (setting xs v sch g to) u z 0 0 0 4096 r
      → (ss : Schema) (q : Query) → SchemaAt xs at count ss → QueryAt xs to q → Guided g 0 q → size_s ss + size_q q ≤ 8192 → type_asked ss q ≡ told (names_of xs v) (look z) r
  query_told sch z r d c m ss q s k gd l =
      let ns = names_of xs v in
      let e = room_for ss q s k l in
      let f = read ss q s k l (Some tt) d in
      let p : to + 0 ≡ to = omega arith in
      let i = ap (λ (y : List Entry). length y) te in
      let j = ap (λ (y : List Field). length y) tf in
      let un : u.names ≡ length ns = d.grew.names ∙ tn in
      let a : Asked (setting xs v sch g to) 0 4096 q = record {
        rest = k.stands.rest;
        fits = k.fits;
        within = let h = k.stands.within in omega arith;
        stands = ap (λ (y : ℕ). drop y xs) p ∙ k.stands.is;
        guided = gd;
        knows = (known ss q s k l).1;
        deep = omega (arith, nesting_parts q);
        few = omega arith;
      } in
      let rm : Room u (2 * size_q q) (wide u.names q) = record {
        entries = omega (arith, e.entries, f.few);
        fields = subst (λ (y : ℕ). spread u + wide y q ≤ 16793600) (sym un) (omega (arith, e.fields, f.slim));
      } in
      let unit : type_at ns (look u) 0 ≡ a_unit = kept_at d.grew 0 (omega arith) ns ∙ begun_unit ns t te in
      let sc : types_of ns (look u) sch ≡ ss = ap (λ (y : List ℕ). types_of ns (look u) y) c ∙ f.says.1 in
      sym (ap (λ (y : Schema). type_of y q (type_at ns (look u) 0) (type_at ns (look u) 0)) sc ∙ ap (λ (y : Ty). type_of ss q y y) unit) ∙ (m.tells q a).means rm

  pub some_there : {r : Option ℕ} → Grew t u r → 0 < size u
  some_there d = let i = ap (λ (y : List Entry). length y) te in omega (arith, size_grows t u d.grown)
