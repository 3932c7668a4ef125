-- Records built field by field.
use Rattle.std.proofs.Common.{◌≡◌, ℕ, ◌+◌, ◌*◌, ◌≤◌, List, length, get_or, Some, None, sym, refl, ap, ◌∙◌, subst, arith, length-append}
use Rattle.query.specs.Data.{rec, Fields, no_field, field}
use Rattle.values.specs.Memory.{Used, Under, Spelled, Holds, HoldsFields, loaded, loaded_field, Kept, StoredField, Agree}
use Rattle.values.specs.Making.{MadeAs}
use Rattle.values.proofs.Frame.{kept_refl, kept_agree, holds_kept, fields_kept}
use Rattle.values.specs.Lent.{all, Pushed, Crowded}
use Rattle.values.specs.declared.lent.Memory.{Memory}
use Rattle.values.specs.declared.value.Place.{Place}
use Rattle.values.specs.declared.value.Field.{Field}
use Rattle.values.specs.declared.value.Value.{Value}
use Rattle.values.specs.declared.value.Value.TheVariants.{Record}
use Rattle.records.specs.Parts.{how_many_fields, then_fields}
use Rattle.records.specs.Records.{MakesField, Next}
use Rattle.records.proofs.Fields.{as_many, then_many, then_none, then_moves, fields_push, record_made}

pub stored_field_kept : {at top : ℕ} {f : Field} {m n : List ℕ} → StoredField at f m n → top ≤ at → Kept top m n
stored_field_kept s h = record { long = s.long; same = λ k lt. s.before k (omega arith) }

-- some of the fields lie from a top on, and others are to come
pub record Built (bs n : List ℕ) (top count : ℕ) (u : Used) (all to_come : Fields) : Type 0 where
  pub done : Fields
  pub is : all ≡ then_fields done to_come
  pub lie : HoldsFields bs n u done top count

pub built_none : (bs n : List ℕ) (top : ℕ) (u : Used) (all : Fields) → Built bs n top 0 u all all
unfolding HoldsFields then_fields
built_none bs n top u all = record { done = no_field; is = refl; lie = refl }

-- what is to come told in another way
pub built_as : {bs n : List ℕ} {top count : ℕ} {u : Used} {all : Fields} (x y : Fields) → x ≡ y → Built bs n top count u all x → Built bs n top count u all y
built_as {bs} {n} {top} {count} {u} {all} x y e b = subst (λ z. Built bs n top count u all z) e b

pub built_push : (bs n o : List ℕ) (top count : ℕ) (u : Used) (all x to_come : Fields) (f : Field) → Under u top → Built bs n top count u all x → Next bs n u x to_come f → StoredField (top + 5 * count) f n o →
    Built bs o top (count + 1) u all to_come
unfolding loaded_field
built_push bs n o top count u all x to_come f low b t s =
    let a : Agree u n o = kept_agree low (stored_field_kept {top = top} s (omega arith)) in
    let old : HoldsFields bs o u b.done top count = fields_kept bs u b.done top count a (λ i y. y) (λ i p q. s.before i q) b.lie in
    let at = top + 5 * count in
    let n1 : get_or o at 0 ≡ f.name.start = ap (λ (g : Field). g.name.start) s.there in
    let n2 : get_or o (at + 1) 0 ≡ f.name.count = ap (λ (g : Field). g.name.count) s.there in
    let v : loaded o (at + 2) ≡ f.value = ap (λ (g : Field). g.value) s.there in
    record {
      done = then_fields b.done (field t.called t.datum no_field);
      is = b.is ∙ ap (then_fields b.done) t.is ∙ then_moves b.done to_come t.called t.datum;
      lie = fields_push bs o u b.done top count t.called t.datum old
          (subst (λ y. Spelled bs t.called y (get_or o (at + 1) 0)) (sym n1) (subst (λ y. Spelled bs t.called f.name.start y) (sym n2) t.spelled))
          (subst (λ y. Holds bs o u t.datum y) (sym v) (holds_kept bs u t.datum f.value a (λ i y. y) t.holds));
    }

-- there is at least one more than what was built
pub built_short : (bs n : List ℕ) (top count : ℕ) (u : Used) (all x to_come : Fields) (f : Field) → Built bs n top count u all x → Next bs n u x to_come f → count + 1 ≤ how_many_fields all
unfolding how_many_fields
built_short bs n top count u all x to_come f b t =
    let e : how_many_fields all ≡ how_many_fields (then_fields b.done (field t.called t.datum to_come)) = ap how_many_fields (b.is ∙ ap (then_fields b.done) t.is) in
    omega (arith, e, then_many b.done (field t.called t.datum to_come), as_many bs n u b.done top count b.lie)

-- all were built
pub built_made : (bs n : List ℕ) (top count : ℕ) (u : Used) (all : Fields) → Built bs n top count u all no_field → top + 5 * count ≤ length n →
    MadeAs bs (rec all) u top (5 * how_many_fields all) n (record { value = Record (record { start = top; count = count }); top = top + 5 * count })
built_made bs n top count u all b room =
    let e : all ≡ b.done = b.is ∙ then_none b.done in
    let lie : HoldsFields bs n u all top count = subst (λ x. HoldsFields bs n u x top count) (sym e) b.lie in
    record_made bs n all u top count (5 * how_many_fields all) lie room (omega (arith, as_many bs n u all top count lie))

-- a record of one field was made, or there was no room for it
pub one_made : {p : Place} {v : Value} {m n : Memory} {start : ℕ} → Pushed 5 loaded_field (record { name = p; value = v }) m n start →
    MakesField p v (all m) m.top (all n) (Some (record { value = Record (record { start = start; count = 1 }); top = n.top }))
unfolding how_many_fields
one_made {p} {v} {m} {n} {start} s =
    let f : Field = record { name = p; value = v } in
    let z : m.top + 5 * 0 ≡ m.top = omega arith in
    let end : n.top ≡ m.top + 5 * 1 = s.moved.top in
    record {
      kept = stored_field_kept s.put (omega arith);
      means = λ bs u a d sp h low.
          let b : Built bs (all n) m.top 1 u (field a d no_field) no_field =
          built_push bs (all m) (all n) m.top 0 u (field a d no_field) (field a d no_field) no_field f low (built_none bs (all m) m.top u (field a d no_field)) (record { called = a; datum = d; is = refl; spelled = sp; holds = h }) (subst (λ x. StoredField x f (all m) (all n)) (sym z) s.put) in
          rw (s.begins, end) (built_made bs (all n) m.top 1 u (field a d no_field) b (omega (arith, n.within, length-append n.kept.now n.made.now, end)));
    }

pub one_no_room : {p : Place} {v : Value} {m n : Memory} → Crowded m n 5 → MakesField p v (all m) m.top (all n) None
one_no_room {m = m} c = record { kept = subst (λ x. Kept m.top (all m) x) (sym c.words) kept_refl; means = λ bs u a d sp k low. omega (arith, ap length c.words, c.short) }
