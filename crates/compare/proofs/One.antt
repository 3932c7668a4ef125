-- One value holds one datum only.
use Rattle.std.proofs.Common.{◌≡◌, ℕ, ◌+◌, ◌*◌, List, sym, refl, ap, ◌∙◌, subst, arith}
use Rattle.query.specs.Data.{Data, unit, num, truth, text, bag, rec, left, right, Datas, none, more, Fields, no_field, field}
use Rattle.values.specs.Memory.{Used, Run, Spelled, Holds, HoldsAll, HoldsFields, loaded}
use Rattle.values.specs.declared.value.Value.{Value}
use Rattle.values.specs.declared.value.Value.TheVariants.{Nothing, Number, Truth, Text, Bag, Record, Left, Right}

-- what a value says of the datum that it stands for
abbrev pub Shape : List ℕ → List ℕ → Used → Data → Value → Type 0
Shape bs m u d Nothing = d ≡ unit
Shape bs m u d (Number n) = d ≡ num n
Shape bs m u d (Truth b) = d ≡ truth b
Shape bs m u d (Text p) = (t : List ℕ) × (d ≡ text t) × Spelled bs t p.start p.count
Shape bs m u d (Bag p) = (ds : Datas) × (d ≡ bag ds) × Run u p.start (3 * p.count) × HoldsAll bs m u ds p.start p.count
Shape bs m u d (Record p) = (fs : Fields) × (d ≡ rec fs) × Run u p.start (5 * p.count) × HoldsFields bs m u fs p.start p.count
Shape bs m u d (Left k) = (x : Data) × (d ≡ left x) × Run u k 3 × Holds bs m u x (loaded m k)
Shape bs m u d (Right k) = (x : Data) × (d ≡ right x) × Run u k 3 × Holds bs m u x (loaded m k)

pub shape : (bs m : List ℕ) (u : Used) (d : Data) (v : Value) → Holds bs m u d v → Shape bs m u d v
unfolding Holds
shape bs m u unit v h = subst (λ x. Shape bs m u unit x) (sym h) refl
shape bs m u (num n) v h = subst (λ x. Shape bs m u (num n) x) (sym h) refl
shape bs m u (truth b) v h = subst (λ x. Shape bs m u (truth b) x) (sym h) refl
shape bs m u (text t) v h = subst (λ x. Shape bs m u (text t) x) (sym h.1) (t, refl, h.2)
shape bs m u (bag ds) v h = subst (λ x. Shape bs m u (bag ds) x) (sym h.1) (ds, refl, h.2, h.3)
shape bs m u (rec fs) v h = subst (λ x. Shape bs m u (rec fs) x) (sym h.1) (fs, refl, h.2, h.3)
shape bs m u (left d) v h = subst (λ x. Shape bs m u (left d) x) (sym h.1) (d, refl, h.2, h.3)
shape bs m u (right d) v h = subst (λ x. Shape bs m u (right d) x) (sym h.1) (d, refl, h.2, h.3)

-- bytes at one place spell one text
pub spelled_one : {bs s t : List ℕ} {i n : ℕ} → Spelled bs s i n → Spelled bs t i n → s ≡ t
spelled_one h k = h.is ∙ sym k.is

-- the datum of a value, as seen through another that is the same value
seen : (bs m : List ℕ) (w : Used) (e : Data) (v x : Value) → v ≡ x → Holds bs m w e v → Shape bs m w e x
seen bs m w e v x p k = shape bs m w e x (subst (λ y. Holds bs m w e y) p k)

mutual
  unfolding Holds HoldsAll HoldsFields

  pub holds_one : (bs m : List ℕ) (u w : Used) (d e : Data) (v : Value) → Holds bs m u d v → Holds bs m w e v → d ≡ e
  holds_one bs m u w unit e v h k = sym (seen bs m w e v Nothing h k)
  holds_one bs m u w (num n) e v h k = sym (seen bs m w e v (Number n) h k)
  holds_one bs m u w (truth b) e v h k = sym (seen bs m w e v (Truth b) h k)
  holds_one bs m u w (text t) e v h k = let s = seen bs m w e v (Text h.0) h.1 k in ap text (spelled_one h.2 s.2) ∙ sym s.1
  holds_one bs m u w (bag ds) e v h k =
      let s = seen bs m w e v (Bag h.0) h.1 k in ap bag (all_one bs m u w ds s.0 h.0.start h.0.count h.3 s.3) ∙ sym s.1
  holds_one bs m u w (rec fs) e v h k =
      let s = seen bs m w e v (Record h.0) h.1 k in ap rec (fields_one bs m u w fs s.0 h.0.start h.0.count h.3 s.3) ∙ sym s.1
  holds_one bs m u w (left d) e v h k =
      let s = seen bs m w e v (Left h.0) h.1 k in ap left (holds_one bs m u w d s.0 (loaded m h.0) h.3 s.3) ∙ sym s.1
  holds_one bs m u w (right d) e v h k =
      let s = seen bs m w e v (Right h.0) h.1 k in ap right (holds_one bs m u w d s.0 (loaded m h.0) h.3 s.3) ∙ sym s.1

  pub all_one : (bs m : List ℕ) (u w : Used) (ds es : Datas) (at n : ℕ) → HoldsAll bs m u ds at n → HoldsAll bs m w es at n → ds ≡ es
  all_one bs m u w none none at n h k = refl
  all_one bs m u w none (more e es) at n h k = absurd (let z : ⊥ = omega (arith, h, k.1) in z)
  all_one bs m u w (more d ds) none at n h k = absurd (let z : ⊥ = omega (arith, k, h.1) in z)
  all_one bs m u w (more d ds) (more e es) at n h k =
      let j : k.0 ≡ h.0 = omega (arith, h.1, k.1) in
      let p : d ≡ e = holds_one bs m u w d e (loaded m at) h.2 k.2 in
      let q : ds ≡ es = all_one bs m u w ds es (at + 3) h.0 h.3 (subst (λ i. HoldsAll bs m w es (at + 3) i) j k.3) in
      cc

  pub fields_one : (bs m : List ℕ) (u w : Used) (fs gs : Fields) (at n : ℕ) → HoldsFields bs m u fs at n → HoldsFields bs m w gs at n → fs ≡ gs
  fields_one bs m u w no_field no_field at n h k = refl
  fields_one bs m u w no_field (field t e gs) at n h k = absurd (let z : ⊥ = omega (arith, h, k.1) in z)
  fields_one bs m u w (field s d fs) no_field at n h k = absurd (let z : ⊥ = omega (arith, k, h.1) in z)
  fields_one bs m u w (field s d fs) (field t e gs) at n h k =
      let j : k.0 ≡ h.0 = omega (arith, h.1, k.1) in
      let r : s ≡ t = spelled_one h.2 k.2 in
      let p : d ≡ e = holds_one bs m u w d e (loaded m (at + 2)) h.3 k.3 in
      let q : fs ≡ gs = fields_one bs m u w fs gs (at + 5) h.0 h.4 (subst (λ i. HoldsFields bs m w gs (at + 5) i) j k.4) in
      cc
