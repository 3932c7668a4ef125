-- The second part where the first comes to an empty bag.
use Rattle.std.proofs.Common.{◌≡◌, ℕ, ◌+◌, ◌≤◌, Bool, true, false, eqb, List, length, get_or, Ok, Err, Result, sym, refl, ap, ◌∙◌, subst, arith}
use Rattle.query.specs.Data.{Data, bag, Datas, none, more, pick}
use Rattle.query.specs.Query.{Ty, a_bag, Query, default, Tables, came, after, is_empty, eval}
use Rattle.query.specs.Types.{is_of}
use Rattle.query.proofs.OfType.{of_bag}
use Rattle.format.specs.Lists.{from}
use Rattle.values.specs.Memory.{Kept, Used, Holds, HoldsAll}
use Rattle.values.specs.declared.value.Value.{Value}
use Rattle.values.proofs.Frame.{kept_agree, holds_kept}
use Rattle.guide.specs.Guide.{first_part, last_part}
use Rattle.operators.specs.Means.{CameTo, Means}
use Rattle.operators.specs.Came.{Came}
use Rattle.operators.specs.declared.came.Stop.{Stop}
use Rattle.operators.proofs.Steps.{means_stop, means_then, at_hand}
use Rattle.eval.specs.Shaped.{Shaped, empty_in}
use Rattle.eval.specs.Ready.{Setting, Stands, Typed, Ready, Answers}
use Rattle.eval.specs.declared.shape.Shape.TheVariants as sh
use Rattle.eval.proofs.Parts.{TwoParts, default_parts, last_told, last_some, last_within, first_within, last_short, first_short, last_stand, first_stand}
use Rattle.eval.proofs.Typing.{result_of, BothTyped, default_typed}
use Rattle.eval.proofs.Frames.{held_later}
use Rattle.eval.proofs.Seen.{Seen}
use Rattle.query.proofs.Tests.{eqb_self}
use lib.Dec.{eqb-suc-zero}

count_empty : (bs m : List ℕ) (u : Used) (ds : Datas) (a k : ℕ) → HoldsAll bs m u ds a k → eqb k 0 ≡ is_empty (bag ds)
unfolding HoldsAll is_empty
count_empty bs m u none a k h = ap (λ z. eqb z 0) h ∙ eqb_self 0
count_empty bs m u (more d ds) a k h = ap (λ z. eqb z 0) h.1 ∙ eqb-suc-zero h.0

value_empty : (bs m : List ℕ) (u : Used) (ds : Datas) (v : Value) → Holds bs m u (bag ds) v → empty_in v ≡ is_empty (bag ds)
unfolding Holds
value_empty bs m u ds v h = ap empty_in h.1 ∙ count_empty bs m u ds h.0.start h.0.count h.3

eval_default : (ts : Tables) (p q : Query) (x y : Data) → eval ts (default p q) x y ≡ after (eval ts p x y) (λ a. pick (is_empty a) (eval ts q x y) (came 0 a))
unfolding eval
eval_default ts p q x y = refl

module _ {S : Setting} {qs : List ℕ} {at : ℕ} {e i : Value} {m : List ℕ} {top : ℕ} (b last first : ℕ) (l : last ≡ get_or S.guide at 0) (k : Seen S qs at sh.Default first) where
  pub d_told : (g : Ready S qs at e i m top) → Shaped sh.Default g.query
  d_told g = (k g.world.literals g.query g.stands).0

  pub d_stands : (g : Ready S qs at e i m top) → Stands S g.world.literals qs at (default (d_told g).0 (d_told g).1)
  d_stands g = subst (λ x. Stands S g.world.literals qs at x) (d_told g).2 g.stands

  d_typed : (g : Ready S qs at e i m top) → Typed g.world S.scene.deep (default (d_told g).0 (d_told g).1) g.te g.ti g.tu
  d_typed g = subst (λ x. Typed g.world S.scene.deep x g.te g.ti g.tu) (d_told g).2 g.typed

  pub d_parts : (g : Ready S qs at e i m top) → TwoParts (default (d_told g).0 (d_told g).1) (d_told g).0 (d_told g).1
  d_parts g = default_parts (d_told g).0 (d_told g).1

  pub d_type : (g : Ready S qs at e i m top) → (a : Ty) × (u : Ty) × (b : Ty) × (a ≡ a_bag u) × BothTyped g.world S.scene.deep g.te g.ti (d_told g).0 (d_told g).1 a b
  d_type g = default_typed g.world S.scene.deep g.te g.ti g.tu (d_told g).0 (d_told g).1 (d_typed g)

  pub d_last : (g : Ready S qs at e i m top) → last ≡ last_part (default (d_told g).0 (d_told g).1)
  d_last g = l ∙ last_told S g.world.literals qs at _ _ _ (d_parts g) (d_stands g)

  pub d_first : (g : Ready S qs at e i m top) → first ≡ first_part (default (d_told g).0 (d_told g).1)
  d_first g = (k g.world.literals g.query g.stands).1 ∙ ap first_part (d_told g).2

  pub d_within : Ready S qs at e i m top → (1 ≤ last) × (last ≤ length qs) × (at + last ≤ length S.guide) × (1 ≤ first) × (first ≤ length qs) × (at + first ≤ length S.guide)
  d_within g =
      let x = default (d_told g).0 (d_told g).1 in
      let z : last ≡ last_part x = d_last g in
      let y : first ≡ first_part x = d_first g in
      let w = g.world.literals in (
        omega (arith, last_some S w qs at _ _ _ (d_parts g) (d_stands g)),
        omega (arith, last_within S w qs at _ _ _ (d_parts g) (d_stands g)),
        omega (arith, last_short S w qs at _ _ _ (d_parts g) (d_stands g)),
        omega (arith, (d_parts g).some),
        omega (arith, first_within S w qs at _ _ _ (d_parts g) (d_stands g)),
        omega (arith, first_short S w qs at _ _ _ (d_parts g) (d_stands g)),
      )

  abbrev pub d_ready : Ready S qs at e i m top → Ready S (from first qs) (at + first) e i m top
  d_ready g =
      record {
        world = g.world;
        query = (d_told g).0;
        stands = subst (λ j. Stands S g.world.literals (from j qs) (at + j) (d_told g).0) (sym (d_first g)) (first_stand S g.world.literals qs at _ _ _ (d_parts g) (d_stands g));
        te = g.te;
        ti = g.ti;
        tu = (d_type g).0;
        typed = (d_type g).4.first;
        along = g.along;
        looked = g.looked;
        is_along = g.is_along;
        is_looked = g.is_looked;
        used = g.used;
        held = g.held;
        looks = g.looks;
      }

  d_from : (n : List ℕ) (r : Result Came Stop) (g : Ready S qs at e i m top) →
      Means S.bytes g.world.rate (after (eval g.world.tables (d_told g).0 g.along g.looked) (λ a. pick (is_empty a) (eval g.world.tables (d_told g).1 g.along g.looked) (came 0 a))) b g.used top n r →
      Means S.bytes g.world.rate (eval g.world.tables g.query g.along g.looked) b g.used top n r
  d_from n r g h =
      subst (λ x. Means S.bytes g.world.rate x b g.used top n r)
      (sym (ap (λ x. eval g.world.tables x g.along g.looked) (d_told g).2 ∙ eval_default g.world.tables (d_told g).0 (d_told g).1 g.along g.looked)) h

  pub d_stops : (n : List ℕ) (s : Stop) → Answers S (from first qs) (at + first) e i m top b n (Err s) → Answers S qs at e i m top b n (Err s)
  d_stops n s f = record { means = λ g. d_from n (Err s) g (means_stop S.bytes g.world.rate _ _ b top (length n) s (f.means (d_ready g))) }

  module _ (n : List ℕ) (c : Came) (kept : Kept top m n) (f : Answers S (from first qs) (at + first) e i m top b n (Ok c)) where
    pub d_came : (g : Ready S qs at e i m top) → CameTo S.bytes g.world.rate (eval g.world.tables (d_told g).0 g.along g.looked) b g.used top n c
    d_came g = f.means (d_ready g)

    d_empty : (g : Ready S qs at e i m top) → empty_in c.value ≡ is_empty (d_came g).datum
    d_empty g =
        let t = d_came g in
        let a = result_of (d_type g).4.first g.along g.looked t.datum g.is_along g.is_looked t.is in
        let d = of_bag t.datum (d_type g).1 (subst (λ z. is_of t.datum z ≡ true) (d_type g).3 a) in
        value_empty S.bytes n t.now_used d.0 c.value (subst (λ z. Holds S.bytes n t.now_used z c.value) d.1 t.holds) ∙ ap is_empty (sym d.1)

    abbrev pub d_next : Ready S qs at e i m top → Ready S (from last qs) (at + last) e i n c.top
    d_next g =
        record {
          world = g.world;
          query = (d_told g).1;
          stands = subst (λ j. Stands S g.world.literals (from j qs) (at + j) (d_told g).1) (sym (d_last g)) (last_stand S g.world.literals qs at _ _ _ (d_parts g) (d_stands g));
          te = g.te;
          ti = g.ti;
          tu = (d_type g).2;
          typed = (d_type g).4.second;
          along = g.along;
          looked = g.looked;
          is_along = g.is_along;
          is_looked = g.is_looked;
          used = (d_came g).now_used;
          held = held_later g.held kept (d_came g).grown (d_came g).above (d_came g).within;
          looks = holds_kept S.bytes (d_came g).now_used g.looked i (kept_agree g.held.low kept) (d_came g).grown.wider g.looks;
        }

    d_after : (y : Bool) → empty_in c.value ≡ y → (n' : List ℕ) (r : Result Came Stop) (g : Ready S qs at e i m top) →
        Means S.bytes g.world.rate (pick y (eval g.world.tables (d_told g).1 g.along g.looked) (came 0 (d_came g).datum)) c.left (d_came g).now_used c.top n' r →
        Means S.bytes g.world.rate (eval g.world.tables g.query g.along g.looked) b g.used top n' r
    d_after y z n' r g t =
        d_from n' r g (means_then S.bytes g.world.rate (eval g.world.tables (d_told g).0 g.along g.looked) (λ a. pick (is_empty a) (eval g.world.tables (d_told g).1 g.along g.looked) (came 0 a)) b g.used top n c n' r (d_came g)
        (subst (λ x. Means S.bytes g.world.rate (pick x (eval g.world.tables (d_told g).1 g.along g.looked) (came 0 (d_came g).datum)) c.left (d_came g).now_used c.top n' r) (sym z ∙ d_empty g) t))

    pub d_other : empty_in c.value ≡ true → (n' : List ℕ) (r : Result Came Stop) → Answers S (from last qs) (at + last) e i n c.top c.left n' r → Answers S qs at e i m top b n' r
    unfolding pick
    d_other z n' r f' = record { means = λ g. d_after true z n' r g (f'.means (d_next g)) }

    pub d_same : empty_in c.value ≡ false → Answers S qs at e i m top b n (Ok c)
    unfolding pick
    d_same z = record { means = λ g. d_after false z n (Ok c) g (at_hand S.bytes g.world.rate n (d_came g).now_used c.top c.left (d_came g).datum c.value (d_came g).within (d_came g).holds) }
