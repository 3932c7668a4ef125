-- Names of different lengths, and a field by its name.
use Rattle.std.proofs.Common.{◌≡◌, ℕ, zero, suc, ◌+◌, ◌*◌, ◌<◌, ◌≤◌, Bool, true, false, List, [], ◌∷◌, length, drop, Some, None, sym, refl, ap, ◌∙◌, subst, add-one, arith, length-drop, length-take-le}
use Rattle.query.specs.Data.{pick, same_text, Name, Data, Fields, field, get}
use Rattle.query.proofs.Texts.{same_text_true}
use Rattle.values.specs.Memory.{Used, Spelled, Holds, loaded_field}
use Rattle.values.specs.Making.{RecordLies}
use Rattle.values.specs.declared.value.Place.{Place}
use Rattle.values.specs.declared.value.Field.{Field}
use Rattle.compare.specs.Compare.{MatchesTexts}
use Rattle.records.specs.Parts.{rest_fields}
use Rattle.records.specs.Records.{IsNamed, FindsIndex, Finds}
use Rattle.records.proofs.Fields.{field_at, rest_all}

spelled_long : {bs t : List ℕ} {start count : ℕ} → Spelled bs t start count → length t ≡ count
spelled_long {bs} {t} {start} {count} s = ap length s.is ∙ length-take-le count (drop start bs) (omega (arith, length-drop start bs, s.within))

pub differ : (bs : List ℕ) (a b : Place) → (a.count ≡ b.count → ⊥) → MatchesTexts bs a b false
differ bs a b h = record { is = λ s t p q. by s t (spelled_long p) (spelled_long q) (same_text s t) refl }
  where
    by : (s t : List ℕ) → length s ≡ a.count → length t ≡ b.count → (r : Bool) → same_text s t ≡ r → false ≡ r
    by s t p q true e = absurd (h (sym p ∙ ap length (same_text_true s t e) ∙ q))
    by s t p q false e = refl

get_other : (a b : Name) (d : Data) (fs : Fields) → false ≡ same_text a b → get a (field b d fs) ≡ get a fs
unfolding get pick
get_other a b d fs h = rw (sym h)

get_this : (a b : Name) (d : Data) (fs : Fields) → true ≡ same_text a b → get a (field b d fs) ≡ d ∷ []
unfolding get pick
get_this a b d fs h = rw (sym h)

module _ (bs : List ℕ) (q p : Place) (m : List ℕ) where
  -- the first fields have other names
  get_past : (i : ℕ) → i ≤ p.count → ((k : ℕ) → k < i → IsNamed bs q p m k false) → (a : Name) (u : Used) (fs : Fields) (top : ℕ) → Spelled bs a q.start q.count → RecordLies bs m p fs u top → get a fs ≡ get a (rest_fields i fs)
  unfolding rest_fields
  get_past zero le h a u fs top sp r = refl
  get_past (suc i) le h a u fs top sp r =
      let t = field_at bs m u fs p.start p.count i r.lie (omega arith) in
      get_past i (omega arith) (λ k lt. h k (omega arith)) a u fs top sp r
      ∙ ap (get a) t.is
      ∙ get_other a t.called t.datum (rest_fields (i + 1) fs) ((h i (omega arith)).is a t.called sp t.spelled)
      ∙ ap (λ k. get a (rest_fields k fs)) (add-one i)

  pub this_one : (i : ℕ) (f : Field) → FindsIndex bs q p m (Some i) → f ≡ loaded_field m (p.start + 5 * i) → Finds bs q p m (Some f.value)
  this_one i f (lt, h, others) e =
      record {
        means = λ a u fs top sp r.
            let t = field_at bs m u fs p.start p.count i r.lie lt in (
              t.datum,
              get_past i (omega arith) others a u fs top sp r ∙ ap (get a) t.is ∙ get_this a t.called t.datum (rest_fields (i + 1) fs) (h.is a t.called sp t.spelled),
              subst (λ (g : Field). Holds bs m u t.datum g.value) (sym e) t.holds,
            );
      }

  pub not_there : FindsIndex bs q p m None → Finds bs q p m None
  unfolding get
  not_there h =
      record {
        means = λ a u fs top sp r. get_past p.count (omega arith) h a u fs top sp r ∙ ap (get a) (rest_all bs m u fs p.start p.count r.lie);
      }
