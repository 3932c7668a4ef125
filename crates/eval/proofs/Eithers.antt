-- One part or the other, by the side of what is looked at.
use Rattle.std.proofs.Common.{◌≡◌, ℕ, ◌+◌, ◌-◌, ◌<◌, ◌≤◌, true, ◌⊎◌, List, length, get_or, Err, Result, sym, refl, ap, ◌∙◌, subst, inl, inr, arith}
use Rattle.query.specs.Data.{Data, left, right}
use Rattle.query.specs.Query.{Ty, an_either, Query, either, Tables, Got, adding, on_either, eval}
use Rattle.query.specs.Types.{is_of}
use Rattle.query.proofs.OfType.{of_either}
use Rattle.format.specs.Lists.{from}
use Rattle.values.specs.Memory.{Used, Under, Run, Holds, loaded}
use Rattle.values.specs.declared.value.Value.{Value}
use Rattle.values.specs.declared.value.Value.TheVariants.{Left, Right}
use Rattle.guide.specs.Guide.{first_part, last_part}
use Rattle.operators.specs.Means.{Means}
use Rattle.operators.specs.Came.{Came}
use Rattle.operators.specs.declared.came.Stop.{Stop}
use Rattle.operators.specs.declared.came.Stop.TheVariants.{Tired}
use Rattle.operators.proofs.Steps.{means_paid}
use Rattle.eval.specs.Shaped.{Shaped, side_in}
use Rattle.eval.specs.Ready.{Setting, Stands, Typed, Ready, Answers}
use Rattle.eval.specs.declared.shape.Shape.TheVariants as sh
use Rattle.eval.specs.declared.shape.Side.{Side}
use Rattle.eval.proofs.Parts.{TwoParts, either_parts, last_told, last_some, last_within, first_within, last_short, first_short, last_stand, first_stand}
use Rattle.eval.proofs.Typing.{either_typed}
use Rattle.eval.proofs.Seen.{Seen}
use Rattle.query.specs.Types.{Sides}

eval_either : (ts : Tables) (p q : Query) (x y : Data) → eval ts (either p q) x y ≡ adding 1 (on_either y (λ z. eval ts p x z) (λ z. eval ts q x z))
unfolding eval
eval_either ts p q x y = refl

-- what is on a side lies in a slot
slot_left : (bs m : List ℕ) (u : Used) (d : Data) (v : Value) → Holds bs m u (left d) v → (k : ℕ) × (v ≡ Left k) × Run u k 3 × Holds bs m u d (loaded m k)
unfolding Holds
slot_left bs m u d v h = h

slot_right : (bs m : List ℕ) (u : Used) (d : Data) (v : Value) → Holds bs m u (right d) v → (k : ℕ) × (v ≡ Right k) × Run u k 3 × Holds bs m u d (loaded m k)
unfolding Holds
slot_right bs m u d v h = h

at_left : (bs : List ℕ) (rate : ℕ) (d y : Data) (f h : Data → Got) (b : ℕ) (u : Used) (top : ℕ) (n : List ℕ) (r : Result Came Stop) → d ≡ left y → Means bs rate (f y) b u top n r → Means bs rate (on_either d f h) b u top n r
unfolding on_either
at_left bs rate d y f h b u top n r e t = subst (λ x. Means bs rate (on_either x f h) b u top n r) (sym e) t

at_right : (bs : List ℕ) (rate : ℕ) (d y : Data) (f h : Data → Got) (b : ℕ) (u : Used) (top : ℕ) (n : List ℕ) (r : Result Came Stop) → d ≡ right y → Means bs rate (h y) b u top n r → Means bs rate (on_either d f h) b u top n r
unfolding on_either
at_right bs rate d y f h b u top n r e t = subst (λ x. Means bs rate (on_either x f h) b u top n r) (sym e) t

run_spot : (u : Used) (top a : ℕ) → Under u top → Run u a 3 → a + 3 ≤ top
run_spot u top a low r = let h : a + 2 < top = low.low (a + 2) (r.used (a + 2) (omega arith) (omega arith)) in omega arith

module _ {S : Setting} {qs : List ℕ} {at : ℕ} {e i : Value} {m : List ℕ} {top : ℕ} (b last first : ℕ) (l : last ≡ get_or S.guide at 0) (k : Seen S qs at sh.Either first) where
  pub e_told : (g : Ready S qs at e i m top) → Shaped sh.Either g.query
  e_told g = (k g.world.literals g.query g.stands).0

  pub e_stands : (g : Ready S qs at e i m top) → Stands S g.world.literals qs at (either (e_told g).0 (e_told g).1)
  e_stands g = subst (λ x. Stands S g.world.literals qs at x) (e_told g).2 g.stands

  e_typed : (g : Ready S qs at e i m top) → Typed g.world S.scene.deep (either (e_told g).0 (e_told g).1) g.te g.ti g.tu
  e_typed g = subst (λ x. Typed g.world S.scene.deep x g.te g.ti g.tu) (e_told g).2 g.typed

  pub e_parts : (g : Ready S qs at e i m top) → TwoParts (either (e_told g).0 (e_told g).1) (e_told g).0 (e_told g).1
  e_parts g = either_parts (e_told g).0 (e_told g).1

  pub e_type : (g : Ready S qs at e i m top) → (s : Sides) × (a : Ty) × (b : Ty) × (g.ti ≡ an_either s.l s.r) × Typed g.world S.scene.deep (e_told g).0 g.te s.l a × Typed g.world S.scene.deep (e_told g).1 g.te s.r b
  e_type g = either_typed g.world S.scene.deep g.te g.ti g.tu (e_told g).0 (e_told g).1 (e_typed g)

  pub e_last : (g : Ready S qs at e i m top) → last ≡ last_part (either (e_told g).0 (e_told g).1)
  e_last g = l ∙ last_told S g.world.literals qs at _ _ _ (e_parts g) (e_stands g)

  pub e_first : (g : Ready S qs at e i m top) → first ≡ first_part (either (e_told g).0 (e_told g).1)
  e_first g = (k g.world.literals g.query g.stands).1 ∙ ap first_part (e_told g).2

  abbrev OnLeft : Ready S qs at e i m top → Type 0
  OnLeft g = (y : Data) × (g.looked ≡ left y) × (is_of y (e_type g).0.l ≡ true)

  abbrev OnRight : Ready S qs at e i m top → Type 0
  OnRight g = (y : Data) × (g.looked ≡ right y) × (is_of y (e_type g).0.r ≡ true)

  e_side : (g : Ready S qs at e i m top) → OnLeft g ⊎ OnRight g
  e_side g = of_either g.looked (e_type g).0.l (e_type g).0.r (subst (λ z. is_of g.looked z ≡ true) (e_type g).3 g.is_looked)

  on_slot_left : (g : Ready S qs at e i m top) (w : OnLeft g) → (k : ℕ) × (i ≡ Left k) × Run g.used k 3 × Holds S.bytes m g.used w.0 (loaded m k)
  on_slot_left g w = slot_left S.bytes m g.used w.0 i (subst (λ z. Holds S.bytes m g.used z i) w.1 g.looks)

  on_slot_right : (g : Ready S qs at e i m top) (w : OnRight g) → (k : ℕ) × (i ≡ Right k) × Run g.used k 3 × Holds S.bytes m g.used w.0 (loaded m k)
  on_slot_right g w = slot_right S.bytes m g.used w.0 i (subst (λ z. Holds S.bytes m g.used z i) w.1 g.looks)

  e_from : (n : List ℕ) (r : Result Came Stop) (g : Ready S qs at e i m top) →
      Means S.bytes g.world.rate (adding 1 (on_either g.looked (λ z. eval g.world.tables (e_told g).0 g.along z) (λ z. eval g.world.tables (e_told g).1 g.along z))) b g.used top n r →
      Means S.bytes g.world.rate (eval g.world.tables g.query g.along g.looked) b g.used top n r
  e_from n r g h =
      subst (λ x. Means S.bytes g.world.rate x b g.used top n r)
      (sym (ap (λ x. eval g.world.tables x g.along g.looked) (e_told g).2 ∙ eval_either g.world.tables (e_told g).0 (e_told g).1 g.along g.looked)) h

  pub e_tired : b ≡ 0 → Answers S qs at e i m top b m (Err Tired)
  e_tired z = record { means = λ g. e_from m (Err Tired) g (λ c. omega arith) }

  module _ (sd : Side) (z : sd ≡ side_in i first last) where
    part_left : (g : Ready S qs at e i m top) (w : OnLeft g) → (sd.part ≡ first) × (sd.slot ≡ (on_slot_left g w).0)
    part_left g w =
        let y : sd ≡ record { part = first; slot = (on_slot_left g w).0 } = z ∙ ap (λ v. side_in v first last) (on_slot_left g w).1 in
        (ap (λ (x : Side). x.part) y, ap (λ (x : Side). x.slot) y)

    part_right : (g : Ready S qs at e i m top) (w : OnRight g) → (sd.part ≡ last) × (sd.slot ≡ (on_slot_right g w).0)
    part_right g w =
        let y : sd ≡ record { part = last; slot = (on_slot_right g w).0 } = z ∙ ap (λ v. side_in v first last) (on_slot_right g w).1 in
        (ap (λ (x : Side). x.part) y, ap (λ (x : Side). x.slot) y)

    pub e_spot : Ready S qs at e i m top → sd.slot + 3 ≤ top
    e_spot g = by (e_side g)
      where
        by : OnLeft g ⊎ OnRight g → sd.slot + 3 ≤ top
        by (inl w) = omega (arith, (part_left g w).1, run_spot g.used top (on_slot_left g w).0 g.held.low (on_slot_left g w).2)
        by (inr w) = omega (arith, (part_right g w).1, run_spot g.used top (on_slot_right g w).0 g.held.low (on_slot_right g w).2)

    pub e_within : Ready S qs at e i m top → (1 ≤ sd.part) × (sd.part ≤ length qs) × (at + sd.part ≤ length S.guide)
    e_within g = by (e_side g)
      where
        by : OnLeft g ⊎ OnRight g → (1 ≤ sd.part) × (sd.part ≤ length qs) × (at + sd.part ≤ length S.guide)
        by (inl w) =
            let y : sd.part ≡ first_part (either (e_told g).0 (e_told g).1) = (part_left g w).0 ∙ e_first g in
            (omega (arith, (e_parts g).some), omega (arith, first_within S g.world.literals qs at _ _ _ (e_parts g) (e_stands g)), omega (arith, first_short S g.world.literals qs at _ _ _ (e_parts g) (e_stands g)))
        by (inr w) =
            let y : sd.part ≡ last_part (either (e_told g).0 (e_told g).1) = (part_right g w).0 ∙ e_last g in
            (omega (arith, last_some S g.world.literals qs at _ _ _ (e_parts g) (e_stands g)), omega (arith, last_within S g.world.literals qs at _ _ _ (e_parts g) (e_stands g)), omega (arith, last_short S g.world.literals qs at _ _ _ (e_parts g) (e_stands g)))

    module _ (x : Value) (y : x ≡ loaded m sd.slot) where
      abbrev left_ready : (g : Ready S qs at e i m top) → OnLeft g → Ready S (from sd.part qs) (at + sd.part) e x m top
      left_ready g w =
          record {
            world = g.world;
            query = (e_told g).0;
            stands = subst (λ j. Stands S g.world.literals (from j qs) (at + j) (e_told g).0) (sym ((part_left g w).0 ∙ e_first g)) (first_stand S g.world.literals qs at _ _ _ (e_parts g) (e_stands g));
            te = g.te;
            ti = (e_type g).0.l;
            tu = (e_type g).1;
            typed = (e_type g).4;
            along = g.along;
            looked = w.0;
            is_along = g.is_along;
            is_looked = w.2;
            used = g.used;
            held = g.held;
            looks = subst (λ v. Holds S.bytes m g.used w.0 v) (sym (y ∙ ap (loaded m) (part_left g w).1)) (on_slot_left g w).3;
          }

      abbrev right_ready : (g : Ready S qs at e i m top) → OnRight g → Ready S (from sd.part qs) (at + sd.part) e x m top
      right_ready g w =
          record {
            world = g.world;
            query = (e_told g).1;
            stands = subst (λ j. Stands S g.world.literals (from j qs) (at + j) (e_told g).1) (sym ((part_right g w).0 ∙ e_last g)) (last_stand S g.world.literals qs at _ _ _ (e_parts g) (e_stands g));
            te = g.te;
            ti = (e_type g).0.r;
            tu = (e_type g).2;
            typed = (e_type g).5;
            along = g.along;
            looked = w.0;
            is_along = g.is_along;
            is_looked = w.2;
            used = g.used;
            held = g.held;
            looks = subst (λ v. Holds S.bytes m g.used w.0 v) (sym (y ∙ ap (loaded m) (part_right g w).1)) (on_slot_right g w).3;
          }

      pub e_ready : Ready S qs at e i m top → Ready S (from sd.part qs) (at + sd.part) e x m top
      e_ready g = by (e_side g)
        where
          by : OnLeft g ⊎ OnRight g → Ready S (from sd.part qs) (at + sd.part) e x m top
          by (inl w) = left_ready g w
          by (inr w) = right_ready g w

      pub e_comes : (b ≡ 0 → ⊥) → (n : List ℕ) (r : Result Came Stop) → Answers S (from sd.part qs) (at + sd.part) e x m top (b - 1) n r → Answers S qs at e i m top b n r
      e_comes h n r f = record { means = λ g. e_from n r g (means_paid S.bytes g.world.rate 1 b _ g.used top n r (omega arith) (by g (e_side g))) }
        where
          by : (g : Ready S qs at e i m top) → OnLeft g ⊎ OnRight g → Means S.bytes g.world.rate (on_either g.looked (λ z. eval g.world.tables (e_told g).0 g.along z) (λ z. eval g.world.tables (e_told g).1 g.along z)) (b - 1) g.used top n r
          by g (inl w) = at_left S.bytes g.world.rate g.looked w.0 _ _ (b - 1) g.used top n r w.1 (f.means (left_ready g w))
          by g (inr w) = at_right S.bytes g.world.rate g.looked w.0 _ _ (b - 1) g.used top n r w.1 (f.means (right_ready g w))
