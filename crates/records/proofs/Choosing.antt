-- Some fields of a record: a record without a field, and the fields with certain names.
use Rattle.std.proofs.Common.{◌≡◌, ℕ, ◌+◌, ◌*◌, ◌<◌, ◌≤◌, Bool, true, false, nat_le, List, length, Some, None, Option, sym, refl, ap, ◌∙◌, subst, arith, length-append}
use Rattle.std.proofs.lemmas.Bool.{le-leb, lt-leb, leb-true, leb-false}
use Rattle.query.specs.Data.{pick, same_text, Name, Data, Fields, no_field, field, left_out, one_of, only}
use Rattle.values.specs.Memory.{Used, Spelled, Holds, loaded_field, Kept, StoredField, Agree}
use Rattle.values.specs.Lent.{all, PushedThere, Crowded}
use Rattle.values.specs.Making.{RecordLies}
use Rattle.values.proofs.Frame.{kept_refl, kept_trans, kept_agree, slot_same, holds_kept}
use Rattle.values.specs.declared.lent.Memory.{Memory}
use Rattle.values.specs.declared.value.Place.{Place}
use Rattle.values.specs.declared.value.Field.{Field}
use Rattle.values.specs.Made.{Made}
use Rattle.values.specs.declared.value.Value.TheVariants.{Record}
use Rattle.records.specs.Parts.{rest_fields}
use Rattle.records.specs.Records.{FieldsBelow, IsNamed, FindsIndex, Next, ToCome, Keeps, LeavesOut, IsOneOf, TakesOnly}
use Rattle.records.proofs.Fields.{field_at, rest_all}
use Rattle.records.proofs.Building.{Built, built_none, built_as, built_push, built_short, built_made, stored_field_kept}

field_same : (m n : List ℕ) (at top : ℕ) → Kept top m n → at + 5 ≤ top → loaded_field n at ≡ loaded_field m at
unfolding loaded_field
field_same m n at top k h = rw (k.same at (omega arith), k.same (at + 1) (omega arith), slot_same m n (at + 2) (λ i l t. k.same i (omega arith))) refl

-- so many fields were gone through, and so many of them kept
pub record Keeping (told : ℕ → Place → Bool → Type 0) (p : Place) (m n : Memory) (i count : ℕ) : Type 0 where
  pub frozen : n.kept.now ≡ m.kept.now
  pub same : n.made.ghost_name ≡ m.made.ghost_name
  pub top : n.top ≡ m.top + 5 * count
  pub kept : Kept m.top (all m) (all n)
  pub so_far : (bs : List ℕ) (u : Used) (fs : Fields) (to_come : ℕ → Fields) → RecordLies bs (all m) p fs u m.top → ToCome told bs (all m) p u fs to_come → Built bs (all n) m.top count u (to_come 0) (to_come i)

pub keep_begins : (told : ℕ → Place → Bool → Type 0) (p : Place) (m : Memory) → Keeping told p m m 0 0
keep_begins told p m = record { frozen = refl; same = refl; top = omega arith; kept = kept_refl; so_far = λ bs u fs c r s. built_none bs (all m) m.top u (c 0) }

module _ (told : ℕ → Place → Bool → Type 0) (p : Place) (m n : Memory) (i count : ℕ) (g : Keeping told p m n i count) where
  module _ (below : FieldsBelow p m.top) (f : Field) (lt : i < p.count) (e : f ≡ loaded_field (all n) (p.start + 5 * i)) where
    at_first : f ≡ loaded_field (all m) (p.start + 5 * i)
    at_first = e ∙ field_same (all m) (all n) (p.start + 5 * i) m.top g.kept (below.spots i lt)

    told_first : (b : Bool) → told i f.name b → told i (loaded_field (all m) (p.start + 5 * i)).name b
    told_first b t = subst (λ (h : Field). told i h.name b) at_first t

    pub keep_not : told i f.name false → Keeping told p m n (i + 1) count
    unfolding pick
    keep_not t =
        record {
          frozen = g.frozen;
          same = g.same;
          top = g.top;
          kept = g.kept;
          so_far = λ bs u fs c r s.
              built_as (c i) (c (i + 1)) (s.step i false lt (told_first false t) (field_at bs (all m) u fs p.start p.count i r.lie lt)) (g.so_far bs u fs c r s);
        }

    goes : told i f.name true → (bs : List ℕ) (u : Used) (fs : Fields) (c : ℕ → Fields) → RecordLies bs (all m) p fs u m.top → ToCome told bs (all m) p u fs c → Next bs (all n) u (c i) (c (i + 1)) f
    unfolding pick
    goes t bs u fs c r s =
        let x = field_at bs (all m) u fs p.start p.count i r.lie lt in
        let a : Agree u (all m) (all n) = kept_agree r.low g.kept in
        record {
          called = x.called;
          datum = x.datum;
          is = s.step i true lt (told_first true t) x;
          spelled = subst (λ (h : Field). Spelled bs x.called h.name.start h.name.count) (sym at_first) x.spelled;
          holds = holds_kept bs u x.datum f.value a (λ k y. y) (subst (λ (h : Field). Holds bs (all m) u x.datum h.value) (sym at_first) x.holds);
        }

    pub keep_push : {o : Memory} {start : ℕ} → told i f.name true → PushedThere 5 loaded_field f n o start → Keeping told p m o (i + 1) (count + 1)
    keep_push {o} t s =
        record {
          frozen = s.moved.frozen ∙ g.frozen;
          same = s.moved.same ∙ g.same;
          top = omega (arith, g.top, s.moved.top);
          kept = kept_trans g.kept (stored_field_kept {top = m.top} s.put (omega (arith, g.top))) (omega arith);
          so_far = λ bs u fs c r x.
              built_push bs (all n) (all o) m.top count u (c 0) (c i) (c (i + 1)) f r.low (g.so_far bs u fs c r x) (goes t bs u fs c r x) (subst (λ k. StoredField k f (all n) (all o)) g.top s.put);
        }

    pub keep_no_room : {o : Memory} → told i f.name true → Crowded n o 5 → Keeps told p (all m) m.top (all o) None
    keep_no_room {o} t s =
        record {
          kept = subst (λ z. Kept m.top (all m) z) (sym s.words) g.kept;
          means = λ bs u fs c r x.
              let k = built_short bs (all n) m.top count u (c 0) (c i) (c (i + 1)) f (g.so_far bs u fs c r x) (goes t bs u fs c r x) in
              omega (arith, ap length s.words, s.short, g.top);
        }

  pub keep_ends : i ≡ p.count → Keeps told p (all m) m.top (all n) (Some (record { value = Record (record { start = m.top; count = count }); top = n.top }))
  keep_ends e =
      record {
        kept = g.kept;
        means = λ bs u fs c r x.
            rw g.top (built_made bs (all n) m.top count u (c 0) (built_as (c i) no_field (ap c e ∙ x.ends) (g.so_far bs u fs c r x)) (omega (arith, n.within, length-append n.kept.now n.made.now, g.top)));
      }

-- fields whose names are among some
take_step : (ns : List Name) (a : Name) (d : Data) (fs : Fields) (b : Bool) → b ≡ one_of a ns → only ns (field a d fs) ≡ pick b (field a d (only ns fs)) (only ns fs)
unfolding only pick
take_step ns a d fs b h = rw h refl

take_none : (ns : List Name) → only ns no_field ≡ no_field
unfolding only
take_none ns = refl

pub takes_only : (bs : List ℕ) (at k : ℕ) (told : ℕ → Place → Bool → Type 0) (p : Place) (m : List ℕ) (top : ℕ) (n : List ℕ) (r : Option Made) → ((i : ℕ) (q : Place) (b : Bool) → told i q b → IsOneOf bs at k q b) → Keeps told p m top n r → TakesOnly bs at k p m top n r
unfolding rest_fields
takes_only bs at k told p m top n r h s =
    record {
      kept = s.kept;
      means = λ ns u fs st l.
          s.means bs u fs (λ i. only ns (rest_fields i fs)) l (record {
            step = λ i b lt t x. ap (only ns) x.is ∙ take_step ns x.called x.datum (rest_fields (i + 1) fs) b ((h i _ b t).means x.called ns x.spelled st);
            ends = ap (only ns) (rest_all bs m u fs p.start p.count l.lie) ∙ take_none ns;
          });
    }

-- A record without the first field with a name: up to that field what is to come is without the name, and after it all of it is.
unfoldable to_leave : Option ℕ → Name → Fields → ℕ → Fields
to_leave None a fs i = left_out a (rest_fields i fs)
to_leave (Some g) a fs i = pick (nat_le i g) (left_out a (rest_fields i fs)) (rest_fields i fs)

leave_this : (a b : Name) (d : Data) (fs : Fields) → true ≡ same_text a b → left_out a (field b d fs) ≡ fs
unfolding left_out pick
leave_this a b d fs h = rw (sym h)

leave_other : (a b : Name) (d : Data) (fs : Fields) → false ≡ same_text a b → left_out a (field b d fs) ≡ field b d (left_out a fs)
unfolding left_out pick
leave_other a b d fs h = rw (sym h)

leave_none : (a : Name) → left_out a no_field ≡ no_field
unfolding left_out
leave_none a = refl

leave_first : (gone : Option ℕ) (a : Name) (fs : Fields) → to_leave gone a fs 0 ≡ left_out a fs
unfolding to_leave rest_fields pick
leave_first None a fs = refl
leave_first (Some g) a fs = rw (le-leb 0 g (omega arith)) refl

module _ (bs : List ℕ) (q p : Place) (told : ℕ → Place → Bool → Type 0) (m : List ℕ) (a : Name) (u : Used) (fs : Fields) (sp : Spelled bs a q.start q.count) where
  leave_step : (gone : Option ℕ) → FindsIndex bs q p m gone → (i : ℕ) (b : Bool) → i < p.count → (b ≡ true → gone ≡ Some i → ⊥) → (b ≡ false → gone ≡ Some i) →
      (t : Next bs m u (rest_fields i fs) (rest_fields (i + 1) fs) (loaded_field m (p.start + 5 * i))) → to_leave gone a fs i ≡ pick b (field t.called t.datum (to_leave gone a fs (i + 1))) (to_leave gone a fs (i + 1))
  unfolding to_leave pick
  leave_step None f i true lt ne eq t = ap (left_out a) t.is ∙ leave_other a t.called t.datum (rest_fields (i + 1) fs) ((f i lt).is a t.called sp t.spelled)
  leave_step None f i false lt ne eq t = absurd (let z : None ≡ Some i = eq refl in let y : ⊥ = cc in y)
  leave_step (Some g) f i b lt ne eq t = by b refl (nat_le i g) refl (nat_le (i + 1) g) refl
    where
      next : Fields
      next = rest_fields (i + 1) fs

      To : Bool → Bool → Bool → Type 0
      To b x y = pick x (left_out a (rest_fields i fs)) (rest_fields i fs) ≡ pick b (field t.called t.datum (pick y (left_out a next) next)) (pick y (left_out a next) next)

      by : (c : Bool) → b ≡ c → (x : Bool) → nat_le i g ≡ x → (y : Bool) → nat_le (i + 1) g ≡ y → To c x y
      by true h true hx true hy = ap (left_out a) t.is ∙ leave_other a t.called t.datum next ((f.2 i (omega (arith, leb-true (i + 1) g hy))).is a t.called sp t.spelled)
      by true h true hx false hy = absurd (ne h (ap Some (omega (arith, leb-true i g hx, leb-false (i + 1) g hy))))
      by true h false hx true hy = absurd (let z : ⊥ = omega (arith, leb-false i g hx, leb-true (i + 1) g hy) in z)
      by true h false hx false hy = t.is
      by false h true hx true hy = absurd (let z : Some g ≡ Some i = eq h in let y : g ≡ i = cc in let w : ⊥ = omega (arith, leb-true (i + 1) g hy) in w)
      by false h true hx false hy = ap (left_out a) t.is ∙ leave_this a t.called t.datum next ((subst (λ k. IsNamed bs q p m k true) (let w : g ≡ i = omega (arith, leb-true i g hx, leb-false (i + 1) g hy) in w) f.1).is a t.called sp t.spelled)
      by false h false hx true hy = absurd (let z : ⊥ = omega (arith, leb-false i g hx, leb-true (i + 1) g hy) in z)
      by false h false hx false hy = absurd (let z : Some g ≡ Some i = eq h in let y : g ≡ i = cc in let w : ⊥ = omega (arith, leb-false i g hx) in w)

  leave_ends : (gone : Option ℕ) → FindsIndex bs q p m gone → rest_fields p.count fs ≡ no_field → to_leave gone a fs p.count ≡ no_field
  unfolding to_leave pick
  leave_ends None f e = ap (left_out a) e ∙ leave_none a
  leave_ends (Some g) f e = rw (lt-leb p.count g f.0) e

pub leaves_out : (bs : List ℕ) (q p : Place) (told : ℕ → Place → Bool → Type 0) (m : List ℕ) (top : ℕ) (n : List ℕ) (r : Option Made) (gone : Option ℕ) → FindsIndex bs q p m gone →
    ((i : ℕ) (q : Place) (b : Bool) → told i q b → (b ≡ true → gone ≡ Some i → ⊥) × (b ≡ false → gone ≡ Some i)) → Keeps told p m top n r → LeavesOut bs q p m top n r
leaves_out bs q p told m top n r gone f h s =
    record {
      kept = s.kept;
      means = λ a u fs sp l.
          rw (← leave_first gone a fs) (s.means bs u fs (to_leave gone a fs) l (record {
            step = λ i b lt t x. leave_step bs q p told m a u fs sp gone f i b lt (h i _ b t).0 (h i _ b t).1 x;
            ends = leave_ends bs q p told m a u fs sp gone f (rest_all bs m u fs p.start p.count l.lie);
          }));
    }
