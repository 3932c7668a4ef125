-- Values of a kind: what a value is tells what its datum is, and what can't be done comes to nothing.
use Rattle.std.proofs.Common.{◌≡◌, ℕ, ◌*◌, Bool, List, [], Ok, Err, Result, sym, refl, ap, ◌∙◌, subst, arith}
use Rattle.query.specs.Data.{Data, unit, num, truth, text, bag, rec, left, right, Datas, Fields}
use Rattle.query.specs.Query.{Got, on_num, on_truth, on_bag, on_rec}
use Rattle.values.specs.Memory.{Used, Run, Holds, HoldsAll, HoldsFields}
use Rattle.values.specs.declared.value.Place.{Place}
use Rattle.values.specs.declared.value.Value.{Value}
use Rattle.operators.specs.Kinds.{as_number, as_truth, as_bag, as_record}
use Rattle.operators.specs.declared.came.Stop.{Stop}
use Rattle.operators.specs.declared.came.Stop.TheVariants.{Wrong}

err_ok : {A : Type 0} (s : Stop) (x : A) → ◌≡◌ {A = Result A Stop} (Err s) (Ok x) → ⊥
err_ok s x e = let z : ◌≡◌ {A = ℕ} 0 1 = cc in omega arith

-- that a kind was wrong is why it stopped
pub wrong_by : {A : Type 0} (s : Stop) → ◌≡◌ {A = Result A Stop} (Err Wrong) (Err s) → Wrong ≡ s
wrong_by s e = cc

-- number
pub is_number : (bs m : List ℕ) (u : Used) (d : Data) (v : Value) (x : ℕ) → Holds bs m u d v → as_number v ≡ Ok x → d ≡ num x
unfolding Holds
is_number bs m u unit v x h e = absurd (err_ok Wrong x (sym (ap as_number h) ∙ e))
is_number bs m u (num n) v x h e = let z : n ≡ x = (let y : ◌≡◌ {A = Result ℕ Stop} (Ok n) (Ok x) = sym (ap as_number h) ∙ e in cc) in ap num z
is_number bs m u (truth b) v x h e = absurd (err_ok Wrong x (sym (ap as_number h) ∙ e))
is_number bs m u (text t) v x h e = absurd (err_ok Wrong x (sym (ap as_number h.1) ∙ e))
is_number bs m u (bag ds) v x h e = absurd (err_ok Wrong x (sym (ap as_number h.1) ∙ e))
is_number bs m u (rec fs) v x h e = absurd (err_ok Wrong x (sym (ap as_number h.1) ∙ e))
is_number bs m u (left d) v x h e = absurd (err_ok Wrong x (sym (ap as_number h.1) ∙ e))
is_number bs m u (right d) v x h e = absurd (err_ok Wrong x (sym (ap as_number h.1) ∙ e))

pub no_number : (bs m : List ℕ) (u : Used) (d : Data) (v : Value) (f : ℕ → Got) (s : Stop) → Holds bs m u d v → as_number v ≡ Err s → (Wrong ≡ s) × ((on_num d f).is ≡ [])
unfolding Holds on_num
no_number bs m u unit v f s h e = (wrong_by s (sym (ap as_number h) ∙ e), refl)
no_number bs m u (num n) v f s h e = absurd (err_ok s _ (sym e ∙ ap as_number h))
no_number bs m u (truth b) v f s h e = (wrong_by s (sym (ap as_number h) ∙ e), refl)
no_number bs m u (text t) v f s h e = (wrong_by s (sym (ap as_number h.1) ∙ e), refl)
no_number bs m u (bag ds) v f s h e = (wrong_by s (sym (ap as_number h.1) ∙ e), refl)
no_number bs m u (rec fs) v f s h e = (wrong_by s (sym (ap as_number h.1) ∙ e), refl)
no_number bs m u (left d) v f s h e = (wrong_by s (sym (ap as_number h.1) ∙ e), refl)
no_number bs m u (right d) v f s h e = (wrong_by s (sym (ap as_number h.1) ∙ e), refl)

-- truth
pub is_truth : (bs m : List ℕ) (u : Used) (d : Data) (v : Value) (x : Bool) → Holds bs m u d v → as_truth v ≡ Ok x → d ≡ truth x
unfolding Holds
is_truth bs m u unit v x h e = absurd (err_ok Wrong x (sym (ap as_truth h) ∙ e))
is_truth bs m u (num n) v x h e = absurd (err_ok Wrong x (sym (ap as_truth h) ∙ e))
is_truth bs m u (truth b) v x h e = let z : b ≡ x = (let y : ◌≡◌ {A = Result Bool Stop} (Ok b) (Ok x) = sym (ap as_truth h) ∙ e in cc) in ap truth z
is_truth bs m u (text t) v x h e = absurd (err_ok Wrong x (sym (ap as_truth h.1) ∙ e))
is_truth bs m u (bag ds) v x h e = absurd (err_ok Wrong x (sym (ap as_truth h.1) ∙ e))
is_truth bs m u (rec fs) v x h e = absurd (err_ok Wrong x (sym (ap as_truth h.1) ∙ e))
is_truth bs m u (left d) v x h e = absurd (err_ok Wrong x (sym (ap as_truth h.1) ∙ e))
is_truth bs m u (right d) v x h e = absurd (err_ok Wrong x (sym (ap as_truth h.1) ∙ e))

pub no_truth : (bs m : List ℕ) (u : Used) (d : Data) (v : Value) (f : Bool → Got) (s : Stop) → Holds bs m u d v → as_truth v ≡ Err s → (Wrong ≡ s) × ((on_truth d f).is ≡ [])
unfolding Holds on_truth
no_truth bs m u unit v f s h e = (wrong_by s (sym (ap as_truth h) ∙ e), refl)
no_truth bs m u (num n) v f s h e = (wrong_by s (sym (ap as_truth h) ∙ e), refl)
no_truth bs m u (truth b) v f s h e = absurd (err_ok s _ (sym e ∙ ap as_truth h))
no_truth bs m u (text t) v f s h e = (wrong_by s (sym (ap as_truth h.1) ∙ e), refl)
no_truth bs m u (bag ds) v f s h e = (wrong_by s (sym (ap as_truth h.1) ∙ e), refl)
no_truth bs m u (rec fs) v f s h e = (wrong_by s (sym (ap as_truth h.1) ∙ e), refl)
no_truth bs m u (left d) v f s h e = (wrong_by s (sym (ap as_truth h.1) ∙ e), refl)
no_truth bs m u (right d) v f s h e = (wrong_by s (sym (ap as_truth h.1) ∙ e), refl)

-- bag
pub is_bag : (bs m : List ℕ) (u : Used) (d : Data) (v : Value) (x : Place) → Holds bs m u d v → as_bag v ≡ Ok x → (ds : Datas) × (d ≡ bag ds) × Run u x.start (3 * x.count) × HoldsAll bs m u ds x.start x.count
unfolding Holds
is_bag bs m u unit v x h e = absurd (err_ok Wrong x (sym (ap as_bag h) ∙ e))
is_bag bs m u (num n) v x h e = absurd (err_ok Wrong x (sym (ap as_bag h) ∙ e))
is_bag bs m u (truth b) v x h e = absurd (err_ok Wrong x (sym (ap as_bag h) ∙ e))
is_bag bs m u (text t) v x h e = absurd (err_ok Wrong x (sym (ap as_bag h.1) ∙ e))
is_bag bs m u (bag ds) v x h e = let z : h.0 ≡ x = (let y : ◌≡◌ {A = Result Place Stop} (Ok h.0) (Ok x) = sym (ap as_bag h.1) ∙ e in cc) in (ds, refl, subst (λ (q : Place). Run u q.start (3 * q.count)) z h.2, subst (λ (q : Place). HoldsAll bs m u ds q.start q.count) z h.3)
is_bag bs m u (rec fs) v x h e = absurd (err_ok Wrong x (sym (ap as_bag h.1) ∙ e))
is_bag bs m u (left d) v x h e = absurd (err_ok Wrong x (sym (ap as_bag h.1) ∙ e))
is_bag bs m u (right d) v x h e = absurd (err_ok Wrong x (sym (ap as_bag h.1) ∙ e))

pub no_bag : (bs m : List ℕ) (u : Used) (d : Data) (v : Value) (f : Datas → Got) (s : Stop) → Holds bs m u d v → as_bag v ≡ Err s → (Wrong ≡ s) × ((on_bag d f).is ≡ [])
unfolding Holds on_bag
no_bag bs m u unit v f s h e = (wrong_by s (sym (ap as_bag h) ∙ e), refl)
no_bag bs m u (num n) v f s h e = (wrong_by s (sym (ap as_bag h) ∙ e), refl)
no_bag bs m u (truth b) v f s h e = (wrong_by s (sym (ap as_bag h) ∙ e), refl)
no_bag bs m u (text t) v f s h e = (wrong_by s (sym (ap as_bag h.1) ∙ e), refl)
no_bag bs m u (bag ds) v f s h e = absurd (err_ok s _ (sym e ∙ ap as_bag h.1))
no_bag bs m u (rec fs) v f s h e = (wrong_by s (sym (ap as_bag h.1) ∙ e), refl)
no_bag bs m u (left d) v f s h e = (wrong_by s (sym (ap as_bag h.1) ∙ e), refl)
no_bag bs m u (right d) v f s h e = (wrong_by s (sym (ap as_bag h.1) ∙ e), refl)

-- record
pub is_record : (bs m : List ℕ) (u : Used) (d : Data) (v : Value) (x : Place) → Holds bs m u d v → as_record v ≡ Ok x → (fs : Fields) × (d ≡ rec fs) × Run u x.start (5 * x.count) × HoldsFields bs m u fs x.start x.count
unfolding Holds
is_record bs m u unit v x h e = absurd (err_ok Wrong x (sym (ap as_record h) ∙ e))
is_record bs m u (num n) v x h e = absurd (err_ok Wrong x (sym (ap as_record h) ∙ e))
is_record bs m u (truth b) v x h e = absurd (err_ok Wrong x (sym (ap as_record h) ∙ e))
is_record bs m u (text t) v x h e = absurd (err_ok Wrong x (sym (ap as_record h.1) ∙ e))
is_record bs m u (bag ds) v x h e = absurd (err_ok Wrong x (sym (ap as_record h.1) ∙ e))
is_record bs m u (rec fs) v x h e = let z : h.0 ≡ x = (let y : ◌≡◌ {A = Result Place Stop} (Ok h.0) (Ok x) = sym (ap as_record h.1) ∙ e in cc) in (fs, refl, subst (λ (q : Place). Run u q.start (5 * q.count)) z h.2, subst (λ (q : Place). HoldsFields bs m u fs q.start q.count) z h.3)
is_record bs m u (left d) v x h e = absurd (err_ok Wrong x (sym (ap as_record h.1) ∙ e))
is_record bs m u (right d) v x h e = absurd (err_ok Wrong x (sym (ap as_record h.1) ∙ e))

pub no_record : (bs m : List ℕ) (u : Used) (d : Data) (v : Value) (f : Fields → Got) (s : Stop) → Holds bs m u d v → as_record v ≡ Err s → (Wrong ≡ s) × ((on_rec d f).is ≡ [])
unfolding Holds on_rec
no_record bs m u unit v f s h e = (wrong_by s (sym (ap as_record h) ∙ e), refl)
no_record bs m u (num n) v f s h e = (wrong_by s (sym (ap as_record h) ∙ e), refl)
no_record bs m u (truth b) v f s h e = (wrong_by s (sym (ap as_record h) ∙ e), refl)
no_record bs m u (text t) v f s h e = (wrong_by s (sym (ap as_record h.1) ∙ e), refl)
no_record bs m u (bag ds) v f s h e = (wrong_by s (sym (ap as_record h.1) ∙ e), refl)
no_record bs m u (rec fs) v f s h e = absurd (err_ok s _ (sym e ∙ ap as_record h.1))
no_record bs m u (left d) v f s h e = (wrong_by s (sym (ap as_record h.1) ∙ e), refl)
no_record bs m u (right d) v f s h e = (wrong_by s (sym (ap as_record h.1) ∙ e), refl)
