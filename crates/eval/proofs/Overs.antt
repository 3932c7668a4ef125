-- The first part asked of what the second comes to.
use Rattle.std.proofs.Common.{◌≡◌, ℕ, ◌+◌, ◌≤◌, true, List, length, get_or, Ok, Err, Result, sym, refl, ap, ◌∙◌, subst, arith}
use Rattle.query.specs.Data.{Data, bag, Datas}
use Rattle.query.specs.Query.{Ty, Query, Tables, Got, came, after, on_bag, each_of, keep_of, eval}
use Rattle.query.specs.Types.{is_of, all_of}
use Rattle.query.proofs.OfType.{of_bag}
use Rattle.format.specs.Lists.{from}
use Rattle.values.specs.Memory.{Kept, Used, Holds}
use Rattle.values.specs.declared.value.Place.{Place}
use Rattle.values.specs.declared.value.Value.{Value}
use Rattle.values.proofs.Frame.{kept_agree, holds_kept}
use Rattle.guide.specs.Guide.{first_part, last_part}
use Rattle.operators.specs.Means.{CameTo, Means}
use Rattle.operators.specs.Came.{Came}
use Rattle.operators.specs.declared.came.Stop.{Stop}
use Rattle.operators.proofs.Steps.{means_stop, means_then}
use Rattle.eval.specs.Shaped.{Shaped, over_query, place_in}
use Rattle.eval.specs.Ready.{Setting, Stands, Typed, Row, Held, Ready, Answers, EachReady, EachAnswers, KeepAnswers}
use Rattle.eval.specs.declared.shape.Over.{Over}
use Rattle.eval.specs.declared.shape.Over.TheVariants as ov
use Rattle.eval.specs.declared.shape.Shape.TheVariants as sh
use Rattle.eval.proofs.Parts.{TwoParts, over_parts, last_told, last_some, last_within, first_within, last_short, first_short, last_stand, first_stand}
use Rattle.eval.proofs.Typing.{result_of, ThenTyped, over_typed}
use Rattle.eval.proofs.Frames.{held_later}
use Rattle.eval.proofs.Seen.{Seen}

abbrev over_got : Over → Tables → Query → Data → Data → Data → Got
over_got ov.Each ts p x y a = on_bag a (λ xs. each_of (λ z. eval ts p x z) xs (λ ys. came 0 (bag ys)))
over_got ov.Keep ts p x y a = on_bag a (λ xs. keep_of (λ z. eval ts p x z) xs (λ ys. came 0 (bag ys)))
over_got ov.Then ts p x y a = eval ts p x a
over_got ov.WithEnv ts p x y a = eval ts p a y

eval_over : (ts : Tables) (o : Over) (p q : Query) (x y : Data) → eval ts (over_query o p q) x y ≡ after (eval ts q x y) (λ a. over_got o ts p x y a)
unfolding eval
eval_over ts ov.Each p q x y = refl
eval_over ts ov.Keep p q x y = refl
eval_over ts ov.Then p q x y = refl
eval_over ts ov.WithEnv p q x y = refl

-- a bag's things lie where its value says
pub bag_row : (bs m : List ℕ) (u : Used) (ds : Datas) (v : Value) → Holds bs m u (bag ds) v → Row bs m u ds (place_in v).start (place_in v).count
unfolding Holds
bag_row bs m u ds v h = subst (λ x. Row bs m u ds (place_in x).start (place_in x).count) (sym h.1) (record { run = h.2; lie = h.3 })

module _ {S : Setting} {qs : List ℕ} {at : ℕ} {e i : Value} {m : List ℕ} {top : ℕ} (b last first : ℕ) (o : Over) (l : last ≡ get_or S.guide at 0) (k : Seen S qs at (sh.Over o) first) where
  pub o_told : (g : Ready S qs at e i m top) → Shaped (sh.Over o) g.query
  o_told g = (k g.world.literals g.query g.stands).0

  pub o_stands : (g : Ready S qs at e i m top) → Stands S g.world.literals qs at (over_query o (o_told g).0 (o_told g).1)
  o_stands g = subst (λ x. Stands S g.world.literals qs at x) (o_told g).2 g.stands

  o_typed : (g : Ready S qs at e i m top) → Typed g.world S.scene.deep (over_query o (o_told g).0 (o_told g).1) g.te g.ti g.tu
  o_typed g = subst (λ x. Typed g.world S.scene.deep x g.te g.ti g.tu) (o_told g).2 g.typed

  pub o_parts : (g : Ready S qs at e i m top) → TwoParts (over_query o (o_told g).0 (o_told g).1) (o_told g).0 (o_told g).1
  o_parts g = over_parts o (o_told g).0 (o_told g).1

  pub o_type : (g : Ready S qs at e i m top) → (a : Ty) × Typed g.world S.scene.deep (o_told g).1 g.te g.ti a × ThenTyped g.world S.scene.deep g.te g.ti g.tu o (o_told g).0 a
  o_type g = over_typed g.world S.scene.deep g.te g.ti g.tu o (o_told g).0 (o_told g).1 (o_typed g)

  pub o_last : (g : Ready S qs at e i m top) → last ≡ last_part (over_query o (o_told g).0 (o_told g).1)
  o_last g = l ∙ last_told S g.world.literals qs at _ _ _ (o_parts g) (o_stands g)

  pub o_first : (g : Ready S qs at e i m top) → first ≡ first_part (over_query o (o_told g).0 (o_told g).1)
  o_first g = (k g.world.literals g.query g.stands).1 ∙ ap first_part (o_told g).2

  pub o_within : Ready S qs at e i m top → (1 ≤ last) × (last ≤ length qs) × (at + last ≤ length S.guide) × (1 ≤ first) × (first ≤ length qs) × (at + first ≤ length S.guide)
  o_within g =
      let x = over_query o (o_told g).0 (o_told g).1 in
      let z : last ≡ last_part x = o_last g in
      let y : first ≡ first_part x = o_first g in
      let w = g.world.literals in (
        omega (arith, last_some S w qs at _ _ _ (o_parts g) (o_stands g)),
        omega (arith, last_within S w qs at _ _ _ (o_parts g) (o_stands g)),
        omega (arith, last_short S w qs at _ _ _ (o_parts g) (o_stands g)),
        omega (arith, (o_parts g).some),
        omega (arith, first_within S w qs at _ _ _ (o_parts g) (o_stands g)),
        omega (arith, first_short S w qs at _ _ _ (o_parts g) (o_stands g)),
      )

  abbrev pub o_ready : Ready S qs at e i m top → Ready S (from last qs) (at + last) e i m top
  o_ready g =
      record {
        world = g.world;
        query = (o_told g).1;
        stands = subst (λ j. Stands S g.world.literals (from j qs) (at + j) (o_told g).1) (sym (o_last g)) (last_stand S g.world.literals qs at _ _ _ (o_parts g) (o_stands g));
        te = g.te;
        ti = g.ti;
        tu = (o_type g).0;
        typed = (o_type g).1;
        along = g.along;
        looked = g.looked;
        is_along = g.is_along;
        is_looked = g.is_looked;
        used = g.used;
        held = g.held;
        looks = g.looks;
      }

  pub first_stands : (g : Ready S qs at e i m top) → Stands S g.world.literals (from first qs) (at + first) (o_told g).0
  first_stands g = subst (λ j. Stands S g.world.literals (from j qs) (at + j) (o_told g).0) (sym (o_first g)) (first_stand S g.world.literals qs at _ _ _ (o_parts g) (o_stands g))

  o_from : (n : List ℕ) (r : Result Came Stop) (g : Ready S qs at e i m top) →
      Means S.bytes g.world.rate (after (eval g.world.tables (o_told g).1 g.along g.looked) (λ a. over_got o g.world.tables (o_told g).0 g.along g.looked a)) b g.used top n r →
      Means S.bytes g.world.rate (eval g.world.tables g.query g.along g.looked) b g.used top n r
  o_from n r g h =
      subst (λ x. Means S.bytes g.world.rate x b g.used top n r)
      (sym (ap (λ x. eval g.world.tables x g.along g.looked) (o_told g).2 ∙ eval_over g.world.tables o (o_told g).0 (o_told g).1 g.along g.looked)) h

  pub o_stops : (n : List ℕ) (s : Stop) → Answers S (from last qs) (at + last) e i m top b n (Err s) → Answers S qs at e i m top b n (Err s)
  o_stops n s f = record { means = λ g. o_from n (Err s) g (means_stop S.bytes g.world.rate _ _ b top (length n) s (f.means (o_ready g))) }

  module _ (n : List ℕ) (c : Came) (kept : Kept top m n) (f : Answers S (from last qs) (at + last) e i m top b n (Ok c)) where
    pub o_came : (g : Ready S qs at e i m top) → CameTo S.bytes g.world.rate (eval g.world.tables (o_told g).1 g.along g.looked) b g.used top n c
    o_came g = f.means (o_ready g)

    pub o_is : (g : Ready S qs at e i m top) → is_of (o_came g).datum (o_type g).0 ≡ true
    o_is g = result_of (o_type g).1 g.along g.looked (o_came g).datum g.is_along g.is_looked (o_came g).is

    pub o_held : (g : Ready S qs at e i m top) → Held S g.world g.along e n (o_came g).now_used c.top
    o_held g = held_later g.held kept (o_came g).grown (o_came g).above (o_came g).within

    pub o_after : (n' : List ℕ) (r : Result Came Stop) (g : Ready S qs at e i m top) →
        Means S.bytes g.world.rate (over_got o g.world.tables (o_told g).0 g.along g.looked (o_came g).datum) c.left (o_came g).now_used c.top n' r →
        Means S.bytes g.world.rate (eval g.world.tables g.query g.along g.looked) b g.used top n' r
    o_after n' r g t = o_from n' r g (means_then S.bytes g.world.rate (eval g.world.tables (o_told g).1 g.along g.looked) (λ a. over_got o g.world.tables (o_told g).0 g.along g.looked a) b g.used top n c n' r (o_came g) t)

module _ {S : Setting} {qs : List ℕ} {at : ℕ} {e i : Value} {m : List ℕ} {top : ℕ} (b last first : ℕ) (l : last ≡ get_or S.guide at 0) (k : Seen S qs at (sh.Over ov.Then) first)
    (n : List ℕ) (c : Came) (kept : Kept top m n) (f : Answers S (from last qs) (at + last) e i m top b n (Ok c)) where
  abbrev pub then_ready : Ready S qs at e i m top → Ready S (from first qs) (at + first) e c.value n c.top
  then_ready g =
      record {
        world = g.world;
        query = (o_told b last first ov.Then l k g).0;
        stands = first_stands b last first ov.Then l k g;
        te = g.te;
        ti = (o_type b last first ov.Then l k g).0;
        tu = g.tu;
        typed = (o_type b last first ov.Then l k g).2;
        along = g.along;
        looked = (o_came b last first ov.Then l k n c kept f g).datum;
        is_along = g.is_along;
        is_looked = o_is b last first ov.Then l k n c kept f g;
        used = (o_came b last first ov.Then l k n c kept f g).now_used;
        held = o_held b last first ov.Then l k n c kept f g;
        looks = (o_came b last first ov.Then l k n c kept f g).holds;
      }

  pub then_comes : (n' : List ℕ) (r : Result Came Stop) → Answers S (from first qs) (at + first) e c.value n c.top c.left n' r → Answers S qs at e i m top b n' r
  then_comes n' r f' = record { means = λ g. o_after b last first ov.Then l k n c kept f n' r g (f'.means (then_ready g)) }

module _ {S : Setting} {qs : List ℕ} {at : ℕ} {e i : Value} {m : List ℕ} {top : ℕ} (b last first : ℕ) (l : last ≡ get_or S.guide at 0) (k : Seen S qs at (sh.Over ov.WithEnv) first)
    (n : List ℕ) (c : Came) (kept : Kept top m n) (f : Answers S (from last qs) (at + last) e i m top b n (Ok c)) where
  abbrev pub env_ready : Ready S qs at e i m top → Ready S (from first qs) (at + first) c.value i n c.top
  env_ready g =
      let t = o_came b last first ov.WithEnv l k n c kept f g in
      let h = o_held b last first ov.WithEnv l k n c kept f g in
      record {
        world = g.world;
        query = (o_told b last first ov.WithEnv l k g).0;
        stands = first_stands b last first ov.WithEnv l k g;
        te = (o_type b last first ov.WithEnv l k g).0;
        ti = g.ti;
        tu = g.tu;
        typed = (o_type b last first ov.WithEnv l k g).2;
        along = t.datum;
        looked = g.looked;
        is_along = o_is b last first ov.WithEnv l k n c kept f g;
        is_looked = g.is_looked;
        used = t.now_used;
        held = record { tables = h.tables; literals = h.literals; goes = t.holds; low = h.low; room = h.room };
        looks = holds_kept S.bytes t.now_used g.looked i (kept_agree g.held.low kept) t.grown.wider g.looks;
      }

  pub env_comes : (n' : List ℕ) (r : Result Came Stop) → Answers S (from first qs) (at + first) c.value i n c.top c.left n' r → Answers S qs at e i m top b n' r
  env_comes n' r f' = record { means = λ g. o_after b last first ov.WithEnv l k n c kept f n' r g (f'.means (env_ready g)) }

module _ {S : Setting} {qs : List ℕ} {at : ℕ} {e i : Value} {m : List ℕ} {top : ℕ} (b last first : ℕ) (l : last ≡ get_or S.guide at 0) (k : Seen S qs at (sh.Over ov.Each) first)
    (n : List ℕ) (c : Came) (kept : Kept top m n) (f : Answers S (from last qs) (at + last) e i m top b n (Ok c)) where
  pub each_bag : (g : Ready S qs at e i m top) → (ds : Datas) × ((o_came b last first ov.Each l k n c kept f g).datum ≡ bag ds) × (all_of ds (o_type b last first ov.Each l k g).2.0 ≡ true)
  each_bag g =
      let t = o_type b last first ov.Each l k g in
      of_bag (o_came b last first ov.Each l k n c kept f g).datum t.2.0 (subst (λ z. is_of (o_came b last first ov.Each l k n c kept f g).datum z ≡ true) t.2.2 (o_is b last first ov.Each l k n c kept f g))

  abbrev pub each_ready : (pl : Place) → pl ≡ place_in c.value → Ready S qs at e i m top → EachReady S (from first qs) (at + first) e pl n c.top
  each_ready pl pz g =
      let t = o_came b last first ov.Each l k n c kept f g in
      record {
        world = g.world;
        query = (o_told b last first ov.Each l k g).0;
        stands = first_stands b last first ov.Each l k g;
        te = g.te;
        ti = (o_type b last first ov.Each l k g).2.0;
        tu = (o_type b last first ov.Each l k g).2.1;
        typed = (o_type b last first ov.Each l k g).2.3;
        along = g.along;
        items = (each_bag g).0;
        is_along = g.is_along;
        are_items = (each_bag g).2;
        used = t.now_used;
        held = o_held b last first ov.Each l k n c kept f g;
        row = subst (λ (q : Place). Row S.bytes n t.now_used (each_bag g).0 q.start q.count) (sym pz) (bag_row S.bytes n t.now_used (each_bag g).0 c.value (subst (λ d. Holds S.bytes n t.now_used d c.value) (each_bag g).1 t.holds));
      }

  pub each_comes : (pl : Place) → pl ≡ place_in c.value → (n' : List ℕ) (r : Result Came Stop) → EachAnswers S (from first qs) (at + first) e pl n c.top c.left n' r → Answers S qs at e i m top b n' r
  unfolding on_bag
  each_comes pl pz n' r f' = record {
    means = λ g.
        o_after b last first ov.Each l k n c kept f n' r g
        (subst (λ x. Means S.bytes g.world.rate (over_got ov.Each g.world.tables (o_told b last first ov.Each l k g).0 g.along g.looked x) c.left (o_came b last first ov.Each l k n c kept f g).now_used c.top n' r)
        (sym (each_bag g).1) (f'.means (each_ready pl pz g)));
  }

module _ {S : Setting} {qs : List ℕ} {at : ℕ} {e i : Value} {m : List ℕ} {top : ℕ} (b last first : ℕ) (l : last ≡ get_or S.guide at 0) (k : Seen S qs at (sh.Over ov.Keep) first)
    (n : List ℕ) (c : Came) (kept : Kept top m n) (f : Answers S (from last qs) (at + last) e i m top b n (Ok c)) where
  pub keep_bag : (g : Ready S qs at e i m top) → (ds : Datas) × ((o_came b last first ov.Keep l k n c kept f g).datum ≡ bag ds) × (all_of ds (o_type b last first ov.Keep l k g).2.0 ≡ true)
  keep_bag g =
      let t = o_type b last first ov.Keep l k g in
      of_bag (o_came b last first ov.Keep l k n c kept f g).datum t.2.0 (subst (λ z. is_of (o_came b last first ov.Keep l k n c kept f g).datum z ≡ true) t.2.2 (o_is b last first ov.Keep l k n c kept f g))

  abbrev pub keep_ready : (pl : Place) → pl ≡ place_in c.value → Ready S qs at e i m top → EachReady S (from first qs) (at + first) e pl n c.top
  keep_ready pl pz g =
      let t = o_came b last first ov.Keep l k n c kept f g in
      record {
        world = g.world;
        query = (o_told b last first ov.Keep l k g).0;
        stands = first_stands b last first ov.Keep l k g;
        te = g.te;
        ti = (o_type b last first ov.Keep l k g).2.0;
        tu = (o_type b last first ov.Keep l k g).2.1;
        typed = (o_type b last first ov.Keep l k g).2.3;
        along = g.along;
        items = (keep_bag g).0;
        is_along = g.is_along;
        are_items = (keep_bag g).2;
        used = t.now_used;
        held = o_held b last first ov.Keep l k n c kept f g;
        row = subst (λ (q : Place). Row S.bytes n t.now_used (keep_bag g).0 q.start q.count) (sym pz) (bag_row S.bytes n t.now_used (keep_bag g).0 c.value (subst (λ d. Holds S.bytes n t.now_used d c.value) (keep_bag g).1 t.holds));
      }

  pub keep_comes : (pl : Place) → pl ≡ place_in c.value → (n' : List ℕ) (r : Result Came Stop) → KeepAnswers S (from first qs) (at + first) e pl n c.top c.left n' r → Answers S qs at e i m top b n' r
  unfolding on_bag
  keep_comes pl pz n' r f' = record {
    means = λ g.
        o_after b last first ov.Keep l k n c kept f n' r g
        (subst (λ x. Means S.bytes g.world.rate (over_got ov.Keep g.world.tables (o_told b last first ov.Keep l k g).0 g.along g.looked x) c.left (o_came b last first ov.Keep l k n c kept f g).now_used c.top n' r)
        (sym (keep_bag g).1) (f'.means (keep_ready pl pz g)));
  }
