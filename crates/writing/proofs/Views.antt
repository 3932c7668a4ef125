-- What a value stands for, by its kind.
use Rattle.std.proofs.Common.{◌≡◌, ℕ, suc, ◌+◌, ◌-◌, ◌*◌, ◌<◌, List, [], ◌++◌, length, get_or, sym, refl, ap, ◌∙◌, subst, arith}
use Rattle.query.specs.Data.{Name, Data, unit, num, truth, text, bag, rec, left, right, Datas, none, more, Fields, no_field, field, how_many}
use Rattle.format.specs.Coding.{name, writes}
use Rattle.format.specs.Wire.{names, write_data, write_datas, write_values}
use Rattle.values.specs.Memory.{Used, Under, Run, Spelled, Holds, HoldsAll, HoldsFields, loaded, loaded_field}
use Rattle.values.specs.declared.value.Field.{Field}
use Rattle.values.specs.declared.value.Value.{Value}
use Rattle.values.specs.declared.value.Value.TheVariants.{Nothing, Number, Truth, Text, Bag, Record, Left, Right}

-- what is in use goes no further than memory
pub past : (u : Used) (start count long : ℕ) → 0 < count → long < start + count → Run u start count → Under u long → ⊥
past u start count long z l r b = let k : start + (count - 1) < long = b.low (start + (count - 1)) (r.used (start + (count - 1)) (omega arith) (omega arith)) in omega arith

module _ (bs m : List ℕ) (u : Used) where
  abbrev pub Held : Value → Data → Type 0
  Held Nothing d = d ≡ unit
  Held (Number n) d = d ≡ num n
  Held (Truth b) d = d ≡ truth b
  Held (Text p) d = (t : List ℕ) × (d ≡ text t) × Spelled bs t p.start p.count
  Held (Bag p) d = (ds : Datas) × (d ≡ bag ds) × Run u p.start (3 * p.count) × HoldsAll bs m u ds p.start p.count
  Held (Record p) d = (fs : Fields) × (d ≡ rec fs) × Run u p.start (5 * p.count) × HoldsFields bs m u fs p.start p.count
  Held (Left k) d = (e : Data) × (d ≡ left e) × Run u k 3 × Holds bs m u e (loaded m k)
  Held (Right k) d = (e : Data) × (d ≡ right e) × Run u k 3 × Holds bs m u e (loaded m k)

  pub held : (d : Data) (v : Value) → Holds bs m u d v → Held v d
  unfolding Holds
  held unit v h = subst (λ v. Held v unit) (sym h) refl
  held (num n) v h = subst (λ v. Held v (num n)) (sym h) refl
  held (truth b) v h = subst (λ v. Held v (truth b)) (sym h) refl
  held (text t) v h = subst (λ v. Held v (text t)) (sym h.1) (t, refl, h.2)
  held (bag ds) v h = subst (λ v. Held v (bag ds)) (sym h.1) (ds, refl, h.2, h.3)
  held (rec fs) v h = subst (λ v. Held v (rec fs)) (sym h.1) (fs, refl, h.2, h.3)
  held (left d) v h = subst (λ v. Held v (left d)) (sym h.1) (d, refl, h.2, h.3)
  held (right d) v h = subst (λ v. Held v (right d)) (sym h.1) (d, refl, h.2, h.3)

  -- how many things or fields lie there
  pub many_things : (ds : Datas) (at k : ℕ) → HoldsAll bs m u ds at k → how_many ds ≡ k
  unfolding HoldsAll how_many
  many_things none at k h = sym h
  many_things (more d ds) at k h = ap suc (many_things ds (at + 3) h.0 h.3) ∙ sym h.1

  pub many_fields : (fs : Fields) (at k : ℕ) → HoldsFields bs m u fs at k → length (names fs) ≡ k
  unfolding HoldsFields names
  many_fields no_field at k h = sym h
  many_fields (field n d fs) at k h = ap suc (many_fields fs (at + 5) h.0 h.4) ∙ sym h.1

  -- places by another name
  pub moved_things : (ds : Datas) (at bt k l : ℕ) → at ≡ bt → k ≡ l → HoldsAll bs m u ds at k → HoldsAll bs m u ds bt l
  moved_things ds at bt k l p q h = subst (λ x. HoldsAll bs m u ds bt x) q (subst (λ x. HoldsAll bs m u ds x k) p h)

  pub moved_fields : (fs : Fields) (at bt k l : ℕ) → at ≡ bt → k ≡ l → HoldsFields bs m u fs at k → HoldsFields bs m u fs bt l
  moved_fields fs at bt k l p q h = subst (λ x. HoldsFields bs m u fs bt x) q (subst (λ x. HoldsFields bs m u fs x k) p h)

  -- the first of those that are to come
  pub record First (ds : Datas) (at k : ℕ) : Type 0 where
    pub item : Data
    pub others : Datas
    pub holds : Holds bs m u item (loaded m at)
    pub lie : HoldsAll bs m u others (at + 3) (k - 1)
    pub written : write_datas ds ≡ write_data item ++ write_datas others

  pub first : (ds : Datas) (at k : ℕ) → 0 < k → HoldsAll bs m u ds at k → First ds at k
  unfolding HoldsAll write_datas
  first none at k l h = absurd (let z : ⊥ = omega (arith, h) in z)
  first (more d ds) at k l h =
      let e : h.0 ≡ k - 1 = omega (arith, h.1) in
      record { item = d; others = ds; holds = h.2; lie = subst (λ x. HoldsAll bs m u ds (at + 3) x) e h.3; written = refl }

  pub nothing_left : (ds : Datas) (at k : ℕ) → k ≡ 0 → HoldsAll bs m u ds at k → write_datas ds ≡ []
  unfolding HoldsAll write_datas
  nothing_left none at k z h = refl
  nothing_left (more d ds) at k z h = absurd (let y : ⊥ = omega (arith, h.1) in y)

  -- and of fields
  pub record FirstField (fs : Fields) (f : Field) (at k : ℕ) : Type 0 where
    pub nm : Name
    pub item : Data
    pub others : Fields
    pub spelled : Spelled bs nm f.name.start f.name.count
    pub holds : Holds bs m u item f.value
    pub lie : HoldsFields bs m u others (at + 5) (k - 1)
    pub written : write_values fs ≡ write_data item ++ write_values others
    pub named : writes name (names fs) ≡ name.write nm ++ writes name (names others)

  pub first_field : (fs : Fields) (f : Field) (at k : ℕ) → 0 < k → f ≡ loaded_field m at → HoldsFields bs m u fs at k → FirstField fs f at k
  unfolding HoldsFields write_values names loaded_field
  first_field no_field f at k l q h = absurd (let z : ⊥ = omega (arith, h) in z)
  first_field (field n d fs) f at k l q h =
      let e : h.0 ≡ k - 1 = omega (arith, h.1) in
      let a : get_or m at 0 ≡ f.name.start = ap (λ (y : Field). y.name.start) (sym q) in
      let b : get_or m (at + 1) 0 ≡ f.name.count = ap (λ (y : Field). y.name.count) (sym q) in
      let c : loaded m (at + 2) ≡ f.value = ap (λ (y : Field). y.value) (sym q) in
      record {
        nm = n;
        item = d;
        others = fs;
        spelled = subst (λ y. Spelled bs n y f.name.count) a (subst (λ y. Spelled bs n (get_or m at 0) y) b h.2);
        holds = subst (λ y. Holds bs m u d y) c h.3;
        lie = subst (λ x. HoldsFields bs m u fs (at + 5) x) e h.4;
        written = refl;
        named = refl;
      }

  pub no_fields_left : (fs : Fields) (at k : ℕ) → k ≡ 0 → HoldsFields bs m u fs at k → (write_values fs ≡ []) × (writes name (names fs) ≡ [])
  unfolding HoldsFields write_values names
  no_fields_left no_field at k z h = (refl, refl)
  no_fields_left (field n d fs) at k z h = absurd (let y : ⊥ = omega (arith, h.1) in y)
