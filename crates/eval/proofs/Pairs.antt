-- An operator on what two parts come to, worked out from left to right.
use Rattle.std.proofs.Common.{◌≡◌, ℕ, ◌+◌, ◌-◌, ◌<◌, ◌≤◌, true, List, [], ◌∷◌, length, get_or, Ok, Err, Result, sym, refl, ap, ◌∙◌, subst, arith}
use Rattle.query.specs.Data.{Data, bag, Datas}
use Rattle.query.specs.Query.{Ty, a_bag, Query, Tables, Got, adding, after, on_bag, eval}
use Rattle.query.specs.Types.{is_of}
use Rattle.query.proofs.OfType.{of_bag}
use Rattle.format.specs.Lists.{from}
use Rattle.values.specs.Memory.{Kept}
use Rattle.values.specs.declared.value.Value.{Value}
use Rattle.values.proofs.Frame.{kept_agree, holds_kept}
use Rattle.guide.specs.Guide.{first_part, last_part}
use Rattle.operators.specs.Applied.{Made2, op2, all, where_same, two_query, two_got, two_type, IsJoint, price_of}
use Rattle.operators.specs.Means.{CameTo, Means}
use Rattle.operators.specs.Ready.{TwoReady, Twos}
use Rattle.operators.specs.Came.{Came}
use Rattle.operators.specs.declared.came.Stop.{Stop}
use Rattle.operators.specs.declared.came.Stop.TheVariants.{Tired}
use Rattle.operators.specs.declared.op.Joint.{Joint}
use Rattle.operators.specs.declared.op.Joint.TheVariants as jt
use Rattle.operators.proofs.Grows.{under_grown}
use Rattle.operators.proofs.Steps.{after_came}
use Rattle.operators.proofs.Dues.{adding_zero, due_stop, due_then}
use Rattle.eval.specs.Shaped.{Shaped}
use Rattle.eval.specs.Ready.{Setting, Stands, Typed, Ready, Answers}
use Rattle.eval.specs.declared.shape.Shape.TheVariants as sh
use Rattle.eval.proofs.Parts.{TwoParts, two_parts, last_told, last_some, last_within, first_within, last_short, first_short, last_stand, first_stand}
use Rattle.eval.proofs.Typing.{fine_result, result_of, BothTyped, two_typed}
use Rattle.eval.proofs.Frames.{held_later}
use Rattle.eval.proofs.Seen.{Seen}
use Rattle.query.specs.Query.{a_rec}
use Rattle.query.specs.Types.{fields_in}
use Rattle.query.proofs.TypeParts.{on_ty_out, fields_in_out}
use Rattle.query.proofs.Steps.{Is}
use Rattle.query.proofs.Comes.{comes}

-- what is due by another name
pub same_due : {S : Setting} {qs : List ℕ} {at : ℕ} {e i : Value} {m : List ℕ} {top : ℕ} {n : List ℕ} {r : Result Came Stop} (b due p : ℕ) → due ≡ p → Answers S qs at e i m top (b - due) n r → Answers S qs at e i m top (b - p) n r
same_due {S} {qs} {at} {e} {i} {m} {top} {n} {r} b due p z f = subst (λ d. Answers S qs at e i m top (b - d) n r) z f

abbrev sum_of : Tables → Made2 → Query → Query → Data → Data → Got
sum_of ts k p q x y = after (eval ts p x y) (λ a. after (eval ts q x y) (λ b. two_got k a b))

-- a product looks whether the first is a bag before it works out the second; that its type is a bag's says that it is
bags_first : (g h : Got) (f : Datas → Data → Got) (ds : Datas) → g.is ≡ bag ds ∷ [] → after g (λ a. on_bag a (λ xs. after h (λ b. f xs b))) ≡ after g (λ a. after h (λ b. on_bag a (λ xs. f xs b)))
unfolding on_bag
bags_first g h f ds e =
    after_came [] 0 g (λ a. on_bag a (λ xs. after h (λ b. f xs b))) (bag ds) e ∙ sym (after_came [] 0 g (λ a. after h (λ b. on_bag a (λ xs. f xs b))) (bag ds) e)

abbrev two_price : Made2 → ℕ
two_price (op2 o) = 1
two_price all = 0
two_price (where_same m n) = 0

joint_price : (j : Joint) (k : Made2) → IsJoint j k → price_of j ≡ two_price k
joint_price (jt.Op b) k e = sym (ap two_price e)
joint_price jt.Product k e = sym (ap two_price e)
joint_price (jt.Matched i j) k e = sym (ap two_price e.2)

abbrev BagComes : Tables → Made2 → Query → Data → Data → Type 0
BagComes ts (op2 o) p x y = Unit {0}
BagComes ts all p x y = (ds : Datas) × ((eval ts p x y).is ≡ bag ds ∷ [])
BagComes ts (where_same m n) p x y = (ds : Datas) × ((eval ts p x y).is ≡ bag ds ∷ [])

is_a_bag : (g : Got) (a u : Ty) → a ≡ a_bag u → Is g a → (ds : Datas) × (g.is ≡ bag ds ∷ [])
is_a_bag g a u e h =
    let d = of_bag h.0 u (subst (λ t. is_of h.0 t ≡ true) e h.2) in
    (d.0, h.1 ∙ ap (λ x. x ∷ []) d.1)

bag_comes : (ts : Tables) (k : Made2) (p : Query) (x y : Data) (a b tu : Ty) → two_type k a b ≡ tu ∷ [] → Is (eval ts p x y) a → BagComes ts k p x y
bag_comes ts (op2 o) p x y a b tu t h = tt
bag_comes ts all p x y a b tu t h = let c = on_ty_out (fields_in a) _ tu [] t in is_a_bag (eval ts p x y) a (a_rec c.0) (fields_in_out a c.0 c.1 c.2) h
bag_comes ts (where_same m n) p x y a b tu t h = let c = on_ty_out (fields_in a) _ tu [] t in is_a_bag (eval ts p x y) a (a_rec c.0) (fields_in_out a c.0 c.1 c.2) h

eval_two : (ts : Tables) (k : Made2) (p q : Query) (x y : Data) → BagComes ts k p x y → eval ts (two_query k p q) x y ≡ adding (two_price k) (sum_of ts k p q x y)
unfolding eval
eval_two ts (op2 o) p q x y c = refl
eval_two ts all p q x y c = bags_first (eval ts p x y) (eval ts q x y) _ c.0 c.1 ∙ adding_zero (sum_of ts all p q x y)
eval_two ts (where_same m n) p q x y c = bags_first (eval ts p x y) (eval ts q x y) _ c.0 c.1 ∙ adding_zero (sum_of ts (where_same m n) p q x y)

module _ {S : Setting} {qs : List ℕ} {at : ℕ} {e i : Value} {m : List ℕ} {top : ℕ} (b last first : ℕ) (op : Joint) (l : last ≡ get_or S.guide at 0) (k : Seen S qs at (sh.Pair op) first) where
  pub p_told : (g : Ready S qs at e i m top) → Shaped (sh.Pair op) g.query
  p_told g = (k g.world.literals g.query g.stands).0

  pub p_stands : (g : Ready S qs at e i m top) → Stands S g.world.literals qs at (two_query (p_told g).0 (p_told g).1 (p_told g).2)
  p_stands g = subst (λ x. Stands S g.world.literals qs at x) (p_told g).3 g.stands

  p_typed : (g : Ready S qs at e i m top) → Typed g.world S.scene.deep (two_query (p_told g).0 (p_told g).1 (p_told g).2) g.te g.ti g.tu
  p_typed g = subst (λ x. Typed g.world S.scene.deep x g.te g.ti g.tu) (p_told g).3 g.typed

  pub p_parts : (g : Ready S qs at e i m top) → TwoParts (two_query (p_told g).0 (p_told g).1 (p_told g).2) (p_told g).1 (p_told g).2
  p_parts g = two_parts (p_told g).0 (p_told g).1 (p_told g).2

  pub p_type : (g : Ready S qs at e i m top) → (a : Ty) × (b : Ty) × BothTyped g.world S.scene.deep g.te g.ti (p_told g).1 (p_told g).2 a b × (two_type (p_told g).0 a b ≡ g.tu ∷ [])
  p_type g = two_typed g.world S.scene.deep g.te g.ti g.tu (p_told g).0 (p_told g).1 (p_told g).2 (p_typed g)

  pub p_last : (g : Ready S qs at e i m top) → last ≡ last_part (two_query (p_told g).0 (p_told g).1 (p_told g).2)
  p_last g = l ∙ last_told S g.world.literals qs at _ _ _ (p_parts g) (p_stands g)

  pub p_first : (g : Ready S qs at e i m top) → first ≡ first_part (two_query (p_told g).0 (p_told g).1 (p_told g).2)
  p_first g = (k g.world.literals g.query g.stands).1 ∙ ap first_part (p_told g).3

  pub p_within : Ready S qs at e i m top → (1 ≤ last) × (last ≤ length qs) × (at + last ≤ length S.guide) × (1 ≤ first) × (first ≤ length qs) × (at + first ≤ length S.guide)
  p_within g =
      let x = two_query (p_told g).0 (p_told g).1 (p_told g).2 in
      let z : last ≡ last_part x = p_last g in
      let y : first ≡ first_part x = p_first g in
      let w = g.world.literals in (
        omega (arith, last_some S w qs at _ _ _ (p_parts g) (p_stands g)),
        omega (arith, last_within S w qs at _ _ _ (p_parts g) (p_stands g)),
        omega (arith, last_short S w qs at _ _ _ (p_parts g) (p_stands g)),
        omega (arith, (p_parts g).some),
        omega (arith, first_within S w qs at _ _ _ (p_parts g) (p_stands g)),
        omega (arith, first_short S w qs at _ _ _ (p_parts g) (p_stands g)),
      )

  abbrev pub p_ready : Ready S qs at e i m top → Ready S (from first qs) (at + first) e i m top
  p_ready g =
      record {
        world = g.world;
        query = (p_told g).1;
        stands = subst (λ j. Stands S g.world.literals (from j qs) (at + j) (p_told g).1) (sym (p_first g)) (first_stand S g.world.literals qs at _ _ _ (p_parts g) (p_stands g));
        te = g.te;
        ti = g.ti;
        tu = (p_type g).0;
        typed = (p_type g).2.first;
        along = g.along;
        looked = g.looked;
        is_along = g.is_along;
        is_looked = g.is_looked;
        used = g.used;
        held = g.held;
        looks = g.looks;
      }

  p_from : (n : List ℕ) (r : Result Came Stop) (g : Ready S qs at e i m top) →
      Means S.bytes g.world.rate (adding (price_of op) (sum_of g.world.tables (p_told g).0 (p_told g).1 (p_told g).2 g.along g.looked)) b g.used top n r →
      Means S.bytes g.world.rate (eval g.world.tables g.query g.along g.looked) b g.used top n r
  p_from n r g h =
      let t = p_told g in
      let w = g.world in
      let c = comes w.schema w.tables w.are t.1 g.te g.ti (p_type g).0 [] g.along g.looked g.is_along g.is_looked (p_type g).2.first.type in
      let ev = eval_two w.tables t.0 t.1 t.2 g.along g.looked (bag_comes w.tables t.0 t.1 g.along g.looked (p_type g).0 (p_type g).1 g.tu (p_type g).3 c) in
      subst (λ x. Means S.bytes w.rate x b g.used top n r)
      (sym (ap (λ x. eval w.tables x g.along g.looked) t.3 ∙ ev ∙ ap (λ z. adding z (sum_of w.tables t.0 t.1 t.2 g.along g.looked)) (sym (joint_price op t.0 t.4)))) h

  pub p_tired : b < price_of op → Answers S qs at e i m top b m (Err Tired)
  p_tired z = record { means = λ g. p_from m (Err Tired) g (λ c. omega arith) }

  module _ (h : price_of op ≤ b) (n : List ℕ) where
    pub p_first_stops : (s : Stop) → Answers S (from first qs) (at + first) e i m top (b - price_of op) n (Err s) → Answers S qs at e i m top b n (Err s)
    p_first_stops s f = record { means = λ g. p_from n (Err s) g (due_stop S.bytes g.world.rate (price_of op) b (b - price_of op) _ _ g.used top n s (omega arith) (f.means (p_ready g))) }

    module _ (c : Came) (kept : Kept top m n) (f : Answers S (from first qs) (at + first) e i m top (b - price_of op) n (Ok c)) where
      pub p_came : (g : Ready S qs at e i m top) → CameTo S.bytes g.world.rate (eval g.world.tables (p_told g).1 g.along g.looked) (b - price_of op) g.used top n c
      p_came g = f.means (p_ready g)

      abbrev pub p_next : Ready S qs at e i m top → Ready S (from last qs) (at + last) e i n c.top
      p_next g =
          record {
            world = g.world;
            query = (p_told g).2;
            stands = subst (λ j. Stands S g.world.literals (from j qs) (at + j) (p_told g).2) (sym (p_last g)) (last_stand S g.world.literals qs at _ _ _ (p_parts g) (p_stands g));
            te = g.te;
            ti = g.ti;
            tu = (p_type g).1;
            typed = (p_type g).2.second;
            along = g.along;
            looked = g.looked;
            is_along = g.is_along;
            is_looked = g.is_looked;
            used = (p_came g).now_used;
            held = held_later g.held kept (p_came g).grown (p_came g).above (p_came g).within;
            looks = holds_kept S.bytes (p_came g).now_used g.looked i (kept_agree g.held.low kept) (p_came g).grown.wider g.looks;
          }

      -- what comes of both, if what comes after the first is known
      p_after : (n' : List ℕ) (r : Result Came Stop) (g : Ready S qs at e i m top) →
          Means S.bytes g.world.rate (adding (price_of op) (after (eval g.world.tables (p_told g).2 g.along g.looked) (λ y. two_got (p_told g).0 (p_came g).datum y))) (price_of op + c.left) (p_came g).now_used c.top n' r →
          Means S.bytes g.world.rate (eval g.world.tables g.query g.along g.looked) b g.used top n' r
      p_after n' r g t = p_from n' r g (due_then S.bytes g.world.rate (price_of op) b (b - price_of op) (eval g.world.tables (p_told g).1 g.along g.looked) _ g.used top n c n' r (omega arith) (p_came g) t)

      pub p_second_stops : (n' : List ℕ) (s : Stop) → Answers S (from last qs) (at + last) e i n c.top c.left n' (Err s) → Answers S qs at e i m top b n' (Err s)
      p_second_stops n' s f' = record {
        means = λ g.
            p_after n' (Err s) g (due_stop S.bytes g.world.rate (price_of op) (price_of op + c.left) c.left _ _ (p_came g).now_used c.top n' s refl (f'.means (p_next g)));
      }

      module _ (n' : List ℕ) (c' : Came) (kept' : Kept c.top n n') (f' : Answers S (from last qs) (at + last) e i n c.top c.left n' (Ok c')) where
        pub p_came_next : (g : Ready S qs at e i m top) → CameTo S.bytes g.world.rate (eval g.world.tables (p_told g).2 g.along g.looked) c.left (p_came g).now_used c.top n' c'
        p_came_next g = f'.means (p_next g)

        abbrev pub p_two : Ready S qs at e i m top → TwoReady S.bytes (S.scene.query_at + at) S.scene.deep op c.value c'.value n' c'.top
        p_two g =
            let low = under_grown g.held.low (p_came g).grown (p_came g).above in
            record {
              rate = g.world.rate;
              names = g.world.names;
              dear = g.world.dear;
              op = (p_told g).0;
              told = (p_told g).4;
              part_1 = (p_told g).1;
              part_2 = (p_told g).2;
              written = record { rest = (p_stands g).rest; fits = (p_stands g).fits; is = (p_stands g).spot ∙ (p_stands g).is };
              datum_1 = (p_came g).datum;
              datum_2 = (p_came_next g).datum;
              of_1 = (p_type g).0;
              of_2 = (p_type g).1;
              to = g.tu;
              is_1 = result_of (p_type g).2.first g.along g.looked (p_came g).datum g.is_along g.is_looked (p_came g).is;
              is_2 = result_of (p_type g).2.second g.along g.looked (p_came_next g).datum g.is_along g.is_looked (p_came_next g).is;
              typed = (p_type g).3;
              fine_1 = fine_result (p_type g).2.first;
              fine_2 = fine_result (p_type g).2.second;
              fine_to = fine_result g.typed;
              used = (p_came_next g).now_used;
              holds_1 = holds_kept S.bytes (p_came_next g).now_used (p_came g).datum c.value (kept_agree low kept') (p_came_next g).grown.wider (p_came g).holds;
              holds_2 = (p_came_next g).holds;
              low = under_grown low (p_came_next g).grown (p_came_next g).above;
              room = (p_came_next g).within;
            }

        pub p_comes : (n'' : List ℕ) (r : Result Came Stop) → Twos S.bytes (S.scene.query_at + at) S.scene.deep op c.value c'.value n' c'.top c'.left n'' r → Answers S qs at e i m top b n'' r
        p_comes n'' r t = record {
          means = λ g.
              p_after n'' r g (due_then S.bytes g.world.rate (price_of op) (price_of op + c.left) c.left (eval g.world.tables (p_told g).2 g.along g.looked) (λ y. two_got (p_told g).0 (p_came g).datum y) (p_came g).now_used c.top n' c' n'' r refl (p_came_next g) (t.means (p_two g)));
        }
