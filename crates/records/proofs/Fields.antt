-- Fields of a record, one by one.
use Rattle.std.proofs.Common.{◌≡◌, ℕ, zero, suc, ◌+◌, ◌*◌, ◌<◌, ◌≤◌, List, length, get_or, sym, refl, ap, ◌∙◌, subst, add-one, arith}
use Rattle.query.specs.Data.{Name, Data, rec, Fields, no_field, field}
use Rattle.values.specs.Memory.{Used, Spelled, Holds, HoldsFields, loaded, loaded_field, Kept, Agree}
use Rattle.values.specs.Making.{MadeAs, RecordLies}
use Rattle.values.proofs.Frame.{kept_agree, fields_kept}
use Rattle.values.specs.declared.value.Place.{Place}
use Rattle.values.specs.declared.value.Value.TheVariants.{Record}
use Rattle.records.specs.Parts.{how_many_fields, rest_fields, then_fields}
use Rattle.records.specs.Records.{FieldsBelow, Next}
use Rattle.values.proofs.Ranged.{ranged, ranged_old, grown_ranged, run_ranged}

-- the fields of a record that lies there can be read
pub record_below : {bs m : List ℕ} {p : Place} {fs : Fields} {u : Used} {top : ℕ} → RecordLies bs m p fs u top → FieldsBelow p top
record_below {bs} {m} {p} {fs} {u} {top} b =
    record { spots = λ i lt. let k : p.start + 5 * i + 4 < top = b.low.low _ (b.run.used (p.start + 5 * i + 4) (omega arith) (omega arith)) in omega arith }

pub below_more : {p : Place} {a b : ℕ} → FieldsBelow p a → a ≤ b → FieldsBelow p b
below_more r h = record { spots = λ i lt. omega (arith, r.spots i lt) }

-- a record stays where memory is written above it
pub record_kept : {bs m n : List ℕ} {p : Place} {fs : Fields} {u : Used} {top : ℕ} → Kept top m n → RecordLies bs m p fs u top → RecordLies bs n p fs u top
record_kept {bs} {m} {n} {p} {fs} {u} {top} k b =
    let a : Agree u m n = kept_agree b.low k in
    record {
      run = b.run;
      lie = fields_kept bs u fs p.start p.count a (λ i t. t) (λ i x y. a.same i (b.run.used i x y)) b.lie;
      low = b.low;
      room = omega (arith, b.room, k.long);
    }

pub as_many : (bs m : List ℕ) (u : Used) (fs : Fields) (at k : ℕ) → HoldsFields bs m u fs at k → how_many_fields fs ≡ k
unfolding HoldsFields how_many_fields
as_many bs m u no_field at k h = sym h
as_many bs m u (field a d fs) at k h = ap suc (as_many bs m u fs (at + 5) h.0 h.4) ∙ sym h.1

pub then_many : (fs gs : Fields) → how_many_fields (then_fields fs gs) ≡ how_many_fields fs + how_many_fields gs
unfolding then_fields how_many_fields
then_many no_field gs = omega arith
then_many (field a d fs) gs = omega (arith, then_many fs gs)

pub then_none : (fs : Fields) → then_fields fs no_field ≡ fs
unfolding then_fields
then_none no_field = refl
then_none (field a d fs) = ap (λ x. field a d x) (then_none fs)

pub then_moves : (fs gs : Fields) (a : Name) (d : Data) → then_fields fs (field a d gs) ≡ then_fields (then_fields fs (field a d no_field)) gs
unfolding then_fields
then_moves no_field gs a d = refl
then_moves (field b e fs) gs a d = ap (λ x. field b e x) (then_moves fs gs a d)

pub rest_all : (bs m : List ℕ) (u : Used) (fs : Fields) (at k : ℕ) → HoldsFields bs m u fs at k → rest_fields k fs ≡ no_field
unfolding HoldsFields rest_fields
rest_all bs m u no_field at k h = rw h
rest_all bs m u (field a d fs) at k h = ap (λ x. rest_fields x (field a d fs)) h.1 ∙ rest_all bs m u fs (at + 5) h.0 h.4

at_suc : (bs m : List ℕ) (u : Used) (fs : Fields) (at k i : ℕ) → HoldsFields bs m u fs at k → i < k → Next bs m u (rest_fields i fs) (rest_fields (suc i) fs) (loaded_field m (at + 5 * i))
unfolding HoldsFields rest_fields loaded_field
at_suc bs m u no_field at k i h lt = absurd (let z : ⊥ = omega (arith, h) in z)
at_suc bs m u (field a d fs) at k zero h lt =
    let e : at ≡ at + 5 * 0 = omega arith in
    record {
      called = a;
      datum = d;
      is = refl;
      spelled = subst (λ x. Spelled bs a (get_or m x 0) (get_or m (x + 1) 0)) e h.2;
      holds = subst (λ x. Holds bs m u d (loaded m (x + 2))) e h.3;
    }
at_suc bs m u (field a d fs) at k (suc i) h lt =
    let e : at + 5 + 5 * i ≡ at + 5 * suc i = omega arith in
    subst (λ x. Next bs m u (rest_fields i fs) (rest_fields (suc i) fs) (loaded_field m x)) e (at_suc bs m u fs (at + 5) h.0 i h.4 (omega (arith, h.1)))

-- the field at a place, and those after it
pub field_at : (bs m : List ℕ) (u : Used) (fs : Fields) (at k i : ℕ) → HoldsFields bs m u fs at k → i < k → Next bs m u (rest_fields i fs) (rest_fields (i + 1) fs) (loaded_field m (at + 5 * i))
field_at bs m u fs at k i h lt = subst (λ x. Next bs m u (rest_fields i fs) (rest_fields x fs) (loaded_field m (at + 5 * i))) (sym (add-one i)) (at_suc bs m u fs at k i h lt)

-- one more field after those that lie there
pub fields_push : (bs m : List ℕ) (u : Used) (fs : Fields) (at k : ℕ) (a : Name) (d : Data) → HoldsFields bs m u fs at k → Spelled bs a (get_or m (at + 5 * k) 0) (get_or m (at + 5 * k + 1) 0) → Holds bs m u d (loaded m (at + 5 * k + 2)) →
    HoldsFields bs m u (then_fields fs (field a d no_field)) at (k + 1)
unfolding HoldsFields then_fields
fields_push bs m u no_field at k a d h s v =
    let e : at + 5 * k ≡ at = omega (arith, h) in
    (0, omega (arith, h), subst (λ x. Spelled bs a (get_or m x 0) (get_or m (x + 1) 0)) e s, subst (λ x. Holds bs m u d (loaded m (x + 2))) e v, refl)
fields_push bs m u (field b c fs) at k a d h s v =
    let e : at + 5 * k ≡ at + 5 + 5 * h.0 = omega (arith, h.1) in (
      h.0 + 1,
      omega (arith, h.1),
      h.2,
      h.3,
      fields_push bs m u fs (at + 5) h.0 a d h.4 (subst (λ x. Spelled bs a (get_or m x 0) (get_or m (x + 1) 0)) e s) (subst (λ x. Holds bs m u d (loaded m (x + 2))) e v),
    )

-- fields that lie above a top are a record
pub record_made : (bs n : List ℕ) (fs : Fields) (u : Used) (top k need : ℕ) → HoldsFields bs n u fs top k → top + 5 * k ≤ length n → 5 * k ≤ need →
    MadeAs bs (rec fs) u top need n (record { value = Record (record { start = top; count = k }); top = top + 5 * k })
unfolding Holds
record_made bs n fs u top k need h c e =
    let w : Used = ranged u top (top + 5 * k) in
    record {
      now_used = w;
      grown = grown_ranged u top (top + 5 * k);
      holds = (
        record { start = top; count = k },
        refl,
        run_ranged u top (top + 5 * k) top (5 * k) (omega arith) (omega arith),
        fields_kept bs w fs top k (record { same = λ i t. refl }) (λ i t. ranged_old u top (top + 5 * k) i t) (λ i p q. refl) h,
      );
      above = omega arith;
      within = c;
      thrifty = omega arith;
    }
