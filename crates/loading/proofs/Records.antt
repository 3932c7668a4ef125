-- A record, loaded field by field: what holds on the way.
use Rattle.std.proofs.Common.{◌≡◌, ℕ, ◌+◌, ◌-◌, ◌*◌, ◌<◌, ◌≤◌, true, List, length, Some, None, Option, sym, refl, ap, ◌∙◌, subst, arith}
use Rattle.query.specs.Data.{rec, Fields, no_field, field}
use Rattle.query.specs.Query.{a_rec, Tys, no_ty, ty}
use Rattle.query.specs.Types.{is_of, fields_are}
use Rattle.query.specs.Size.{size_d, size_fs}
use Rattle.query.proofs.OfType.{field_out, no_field_out}
use Rattle.format.specs.Coding.{name, writes, AllFit}
use Rattle.format.specs.Wire.{names_ty, write_data, write_values, write_ty, write_tys, FitsTy, FitsTys, FitsData, FitsValues, data_of, types}
use Rattle.format.specs.Nodes.{Stands}
use Rattle.values.specs.Memory.{Kept, StoredField, Spelled, Holds, HoldsFields}
use Rattle.values.specs.Height.{height_tys}
use Rattle.values.specs.declared.value.Value.TheVariants.{Record}
use Rattle.values.proofs.Frame.{kept_refl, kept_trans}
use Rattle.loading.specs.declared.loaded.Names.{Names}
use Rattle.loading.specs.declared.loaded.Part.TheVariants as pt
use Rattle.loading.specs.Fronts.{Tells, TellsNames, TellsName}
use Rattle.loading.specs.Loads.{Laid, Ready, Comes, Loads, LoadsPart, LiesInside}
use Rattle.loading.proofs.Spots.{At, at_stands, stands_at, at_same, at_spelled}
use Rattle.loading.proofs.Fields.{joined, joined_none, joined_one, Filling, fill_none, fill_under, fill_all, fill_more}
use Rattle.loading.proofs.Typed.{RecordOf, record_of, FirstField, first_field, no_fields}

-- each field counts
many_fields : (fs : Fields) (ts : Tys) → fields_are fs ts ≡ true → length (names_ty ts) ≤ size_fs fs
unfolding names_ty size_fs
many_fields fs no_ty e = omega arith
many_fields no_field (ty m t ts) e = absurd (no_field_out m t ts e)
many_fields (field n d fs) (ty m t ts) e = omega (arith, many_fields fs ts (field_out n d fs m t ts e).2)

values_none : (next at k : ℕ) (fs : Fields) → fs ≡ no_field → next + length (write_values fs) ≡ at + k → next - at ≡ k
unfolding write_values
values_none next at k fs z h = let l : length (write_values fs) ≡ 0 = ap (λ x. length (write_values x)) z in omega (arith, h, l)

types_none : (next at k : ℕ) (ts : Tys) → ts ≡ no_ty → next + length (write_tys ts) ≡ at + k → next - at ≡ k
unfolding write_tys
types_none next at k ts z h = let l : length (write_tys ts) ≡ 0 = ap (λ x. length (write_tys x)) z in omega (arith, h, l)

-- a record stands there
abbrev pub There : {bs : List ℕ} {at kind depth top : ℕ} → Ready bs at kind depth top → Type 0
There {bs} g = Tells bs pt.Record g.datum

pub facts : {bs : List ℕ} {at kind depth top : ℕ} (g : Ready bs at kind depth top) (b : There g) → RecordOf bs at kind depth b.0 g.type
facts {bs} {at} {kind} {depth} {top} g b =
    record_of bs at kind depth b.0 g.type (subst (λ d. At bs at (write_data d)) b.1 (at_stands g.stands)) (at_stands g.stands_type) (subst FitsData b.1 g.fits) g.fits_type
    (subst (λ d. is_of d g.type ≡ true) b.1 g.is) g.shallow

-- what comes of the record comes of the datum
on_datum : {bs : List ℕ} {at kind depth top : ℕ} (g : Ready bs at kind depth top) (b : There g) (m : List ℕ) (r : Option Laid) → Comes bs (rec b.0) g.type g.used top m r → Comes bs g.datum g.type g.used top m r
on_datum {bs} {at} {kind} {depth} {top} g b m r h = subst (λ d. Comes bs d g.type g.used top m r) (sym b.1) h

-- what is told of the record's type
told : {bs : List ℕ} {at kind depth top : ℕ} (r : Option Names) → ((ts : Tys) → Stands types bs kind (a_rec ts) → FitsTy (a_rec ts) → TellsNames r ts) → (g : Ready bs at kind depth top) (b : There g) → TellsNames r (facts g b).types
told {bs} {at} {kind} r f g b =
    let x = facts g b in
    f x.types (subst (λ t. Stands types bs kind t) x.is g.stands_type) (subst FitsTy x.is g.fits_type)

pub no_names : (bs : List ℕ) (at kind depth top : ℕ) (m : List ℕ) → ((ts : Tys) → Stands types bs kind (a_rec ts) → FitsTy (a_rec ts) → TellsNames None ts) → LoadsPart pt.Record bs at kind depth top m None
no_names bs at kind depth top m f = record { means = λ g b. absurd (told None f g b) }

module _ (bs : List ℕ) (at kind depth top : ℕ) (h : Names) (f : (ts : Tys) → Stands types bs kind (a_rec ts) → FitsTy (a_rec ts) → TellsNames (Some h) ts) where
  pub too_short : (m : List ℕ) → length bs < at + h.length → LoadsPart pt.Record bs at kind depth top m None
  too_short m l = record { means = λ g b. let x = facts g b in absurd (omega (arith, x.stand.within, (told (Some h) f g b).1)) }

  pub no_room : (m : List ℕ) → length m < top + 5 * h.count → LoadsPart pt.Record bs at kind depth top m None
  unfolding size_d
  no_room m l = record { means = λ g b. let x = facts g b in on_datum g b m None (omega (arith, (told (Some h) f g b).0, many_fields b.0 x.types x.are)) }

pub record Going {bs : List ℕ} {at kind depth top : ℕ} (count : ℕ) (g : Ready bs at kind depth top) (b : There g) (n : List ℕ) (i high spot next type : ℕ) : Type 0 where
  pub done : Fields
  pub to_come : Fields
  pub types_left : Tys
  pub is : b.0 ≡ joined done to_come
  pub many : length (names_ty types_left) + i ≡ count
  pub are : fields_are to_come types_left ≡ true
  pub stand : At bs next (write_values to_come)
  pub stand_types : At bs type (write_tys types_left)
  pub stand_names : At bs spot (writes name (names_ty types_left))
  pub fit : FitsValues to_come
  pub fit_types : FitsTys types_left
  pub fit_names : AllFit name (names_ty types_left)
  pub shallow : height_tys types_left < depth - 1
  pub long : next + length (write_values to_come) ≡ at + length (write_data (rec b.0))
  pub long_type : type + length (write_tys types_left) ≡ kind + length (write_ty g.type)
  pub filling : Filling bs g.used top count n i high done
  pub thrifty : high + 5 * size_fs to_come + 8 * i ≤ top + 5 * count + 5 * size_fs b.0

-- `i` fields were loaded: free memory begins at `high`; the next name stands at `spot`, the next value at `next`, the next type at `type`
pub record Turn (bs : List ℕ) (at kind depth top count : ℕ) (m n : List ℕ) (i high spot next type : ℕ) : Type 0 where
  pub kept : Kept top m n
  pub above : top + 5 * count ≤ high
  pub within : high ≤ length n
  pub after : at ≤ next
  pub before : next ≤ length bs
  pub after_type : kind ≤ type
  pub before_type : type ≤ length bs
  pub named : spot ≤ length bs
  pub going : (g : Ready bs at kind depth top) (b : There g) → Going count g b n i high spot next type

begun : (bs : List ℕ) (at kind depth top : ℕ) (h : Names) → ((ts : Tys) → Stands types bs kind (a_rec ts) → FitsTy (a_rec ts) → TellsNames (Some h) ts) → (m : List ℕ) → 5 ≤ h.length → kind + h.length ≤ length bs → at + h.length ≤ length bs
    → top + 5 * h.count ≤ length m → Turn bs at kind depth top h.count m m 0 (top + 5 * h.count) (kind + 5) (at + h.length) (kind + h.length)
unfolding joined
begun bs at kind depth top h f m five l k room = record {
  kept = kept_refl;
  above = omega arith;
  within = room;
  after = omega arith;
  before = k;
  after_type = omega arith;
  before_type = l;
  named = omega arith;
  going = λ g b.
      let x = facts g b in
      let t = told (Some h) f g b in
      record {
        done = no_field;
        to_come = b.0;
        types_left = x.types;
        is = refl;
        many = omega (arith, t.0);
        are = x.are;
        stand = at_same x.stand (ap (λ y. at + y) (sym t.1)) refl;
        stand_types = at_same x.stand_types (ap (λ y. kind + y) (sym t.1)) refl;
        stand_names = x.stand_names;
        fit = x.fit;
        fit_types = x.fit_types;
        fit_names = x.fit_names;
        shallow = x.shallow;
        long = omega (arith, x.long, t.1);
        long_type = omega (arith, x.long_type, t.1);
        filling = fill_none bs g.used top h.count m;
        thrifty = omega arith;
      };
}

pub begin : (bs : List ℕ) (at kind depth top : ℕ) (h : Names) → ((ts : Tys) → Stands types bs kind (a_rec ts) → FitsTy (a_rec ts) → TellsNames (Some h) ts) → (m n : List ℕ) (high : ℕ) → n ≡ m → high ≡ top + 5 * h.count → 5 ≤ h.length
    → kind + h.length ≤ length bs → at + h.length ≤ length bs → high ≤ length n → Turn bs at kind depth top h.count m n 0 high (kind + 5) (at + h.length) (kind + h.length)
begin bs at kind depth top h f m n high e q five l k room =
    subst (λ x. Turn bs at kind depth top h.count m n 0 x (kind + 5) (at + h.length) (kind + h.length)) (sym q)
    (subst (λ y. Turn bs at kind depth top h.count m y 0 (top + 5 * h.count) (kind + 5) (at + h.length) (kind + h.length)) (sym e) (begun bs at kind depth top h f m five l k (omega (arith, q, ap length e))))

module _ (bs : List ℕ) (at kind depth top count : ℕ) (m n : List ℕ) (i high spot next type : ℕ) (t : Turn bs at kind depth top count m n i high spot next type) where
  pub finished : i ≡ count → LoadsPart pt.Record bs at kind depth top n (Some record { value = Record (record { start = top; count = count }); top = high; length = next - at; typed = type - kind })
  unfolding Holds size_d
  finished e = record {
    means = λ g b.
        let w = t.going g b in
        let z = no_fields w.to_come w.types_left (omega (arith, w.many)) w.are in
        let y : b.0 ≡ w.done = w.is ∙ ap (λ x. joined w.done x) z.0 ∙ joined_none w.done in
        let a = fill_all bs g.used top count n i high w.done g.low t.above w.filling e in
        on_datum g b n (Some record { value = Record (record { start = top; count = count }); top = high; length = next - at; typed = type - kind }) (record {
          now_used = a.now_used;
          grown = a.grown;
          holds = (record { start = top; count = count }, refl, a.run, subst (λ x. HoldsFields bs n a.now_used x top count) (sym y) a.lie);
          thrifty = omega (arith, w.thrifty, e);
          long = values_none next at (length (write_data (rec b.0))) w.to_come z.0 w.long;
          long_type = types_none type kind (length (write_ty g.type)) w.types_left z.1 w.long_type;
        });
  }

  module _ (lt : i < count) where
    pub nexts : (g : Ready bs at kind depth top) (b : There g) → FirstField bs spot next type (t.going g b).to_come (t.going g b).types_left
    nexts g b =
        let w = t.going g b in
        first_field bs spot next type w.to_come w.types_left (omega (arith, w.many)) w.are w.stand w.stand_types w.stand_names w.fit w.fit_types w.fit_names

    pub name_none : (n' : List ℕ) → TellsName bs spot None → LoadsPart pt.Record bs at kind depth top n' None
    name_none n' f = record { means = λ g b. let x = nexts g b in absurd (f.tells x.nm (stands_at name bs spot x.nm x.stand_name) x.fit_name) }

    abbrev pub item_ready : (g : Ready bs at kind depth top) (b : There g) → Ready bs next type (depth - 1) high
    item_ready g b =
        let w = t.going g b in
        let x = nexts g b in
        record {
          datum = x.item;
          type = x.own;
          used = w.filling.now_used;
          stands = stands_at data_of bs next x.item x.stand;
          stands_type = stands_at types bs type x.own x.stand_type;
          fits = x.fit;
          fits_type = x.fit_type;
          is = x.of;
          shallow = omega (arith, x.low, w.shallow);
          low = fill_under bs g.used top count n i high w.done g.low t.above w.filling;
        }

    pub item_none : (n' : List ℕ) → Loads bs next type (depth - 1) high n' None → LoadsPart pt.Record bs at kind depth top n' None
    unfolding size_d
    item_none n' f = record {
      means = λ g b.
          let w = t.going g b in
          let x = nexts g b in
          on_datum g b n' None (omega (arith, f.means (item_ready g b), w.thrifty, w.many, x.many, x.size, many_fields x.others x.types x.are));
    }

    module _ (k : ℕ) (said : TellsName bs spot (Some k)) (inside-name : spot + (4 + k) ≤ length bs) (l : Laid) (n' n'' : List ℕ) (kept : Kept high n n') (inside : LiesInside bs next type high n' l)
        (f : Loads bs next type (depth - 1) high n' (Some l)) (st : StoredField (top + 5 * i) (record { name = record { start = spot + 4; count = k }; value = l.value }) n' n'') where
      stored_kept : Kept top n' n''
      stored_kept = record { long = st.long; same = λ j lj. st.before j (omega arith) }

      pub turned : Turn bs at kind depth top count m n'' (i + 1) l.top (spot + (4 + k)) (next + l.length) (type + l.typed)
      turned = record {
        kept = kept_trans (kept_trans t.kept kept (omega (arith, t.above))) stored_kept (omega arith);
        above = omega (arith, t.above, inside.above);
        within = omega (arith, inside.within, st.long);
        after = omega (arith, t.after);
        before = inside.datum;
        after_type = omega (arith, t.after_type);
        before_type = inside.type;
        named = inside-name;
        going = λ g b.
            let w = t.going g b in
            let x = nexts g b in
            let c = f.means (item_ready g b) in
            let q : k ≡ length x.nm = said.tells x.nm (stands_at name bs spot x.nm x.stand_name) x.fit_name in
            record {
              done = joined w.done (field x.nm x.item no_field);
              to_come = x.others;
              types_left = x.types;
              is = w.is ∙ ap (λ y. joined w.done y) x.is ∙ sym (joined_one w.done x.nm x.item x.others);
              many = omega (arith, w.many, x.many);
              are = x.are;
              stand = at_same x.stand_others (ap (λ y. next + y) (sym c.long)) refl;
              stand_types = at_same x.stand_types (ap (λ y. type + y) (sym c.long_type)) refl;
              stand_names = at_same x.stand_names (ap (λ y. spot + (4 + y)) (sym q)) refl;
              fit = x.fit_others;
              fit_types = x.fit_types;
              fit_names = x.fit_names;
              shallow = omega (arith, w.shallow, x.low_others);
              long = omega (arith, w.long, x.long, c.long);
              long_type = omega (arith, w.long_type, x.long_types, c.long_type);
              filling = fill_more bs g.used top count n i high w.done g.low t.above w.filling x.nm x.item (record { name = record { start = spot + 4; count = k }; value = l.value }) n' n'' c.now_used l.top lt kept c.grown inside.above
                  (subst (λ y. Spelled bs x.nm (spot + 4) y) (sym q) (at_spelled x.stand_letters)) c.holds st;
              thrifty = omega (arith, w.thrifty, x.size, c.thrifty);
            };
      }
