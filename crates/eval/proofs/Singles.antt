-- An operator on what one part comes to.
use Rattle.std.proofs.Common.{◌≡◌, ℕ, ◌+◌, ◌-◌, ◌≤◌, List, [], ◌∷◌, length, get_or, Ok, Err, Result, sym, refl, ap, ◌∙◌, subst, arith}
use Rattle.query.specs.Data.{Data}
use Rattle.query.specs.Query.{Ty, Query, Tables, adding, after, eval}
use Rattle.format.specs.Lists.{from}
use Rattle.values.specs.declared.value.Value.{Value}
use Rattle.guide.specs.Guide.{last_part}
use Rattle.operators.specs.Applied.{Made1, op1, on_left, on_right, one_query, one_got, one_type}
use Rattle.operators.specs.Means.{CameTo, Means}
use Rattle.operators.specs.Ready.{OneReady, Ones}
use Rattle.operators.specs.Came.{Came}
use Rattle.operators.specs.declared.came.Stop.{Stop}
use Rattle.operators.specs.declared.came.Stop.TheVariants.{Tired}
use Rattle.operators.specs.declared.op.Single.{Single}
use Rattle.operators.proofs.Grows.{under_grown}
use Rattle.operators.proofs.Dues.{due_stop, due_then}
use Rattle.eval.specs.Shaped.{Shaped}
use Rattle.eval.specs.Ready.{Setting, Stands, Typed, Ready, Answers}
use Rattle.eval.specs.declared.shape.Shape.TheVariants as sh
use Rattle.eval.proofs.Parts.{OnePart, one_part, only_told, only_within, only_short, only_stand}
use Rattle.eval.proofs.Typing.{fine_result, result_of, one_typed}
use Rattle.eval.proofs.Seen.{Seen}

eval_one : (ts : Tables) (k : Made1) (p : Query) (x y : Data) → eval ts (one_query k p) x y ≡ adding 1 (after (eval ts p x y) (λ a. one_got k a))
unfolding eval
eval_one ts (op1 o) p x y = refl
eval_one ts (on_left t) p x y = refl
eval_one ts (on_right t) p x y = refl

module _ {S : Setting} {qs : List ℕ} {at : ℕ} {e i : Value} {m : List ℕ} {top : ℕ} (b last first : ℕ) (op : Single) (l : last ≡ get_or S.guide at 0) (k : Seen S qs at (sh.Single op) first) where
  pub s_told : (g : Ready S qs at e i m top) → Shaped (sh.Single op) g.query
  s_told g = (k g.world.literals g.query g.stands).0

  pub s_stands : (g : Ready S qs at e i m top) → Stands S g.world.literals qs at (one_query (s_told g).0 (s_told g).1)
  s_stands g = subst (λ x. Stands S g.world.literals qs at x) (s_told g).2 g.stands

  pub s_typed : (g : Ready S qs at e i m top) → Typed g.world S.scene.deep (one_query (s_told g).0 (s_told g).1) g.te g.ti g.tu
  s_typed g = subst (λ x. Typed g.world S.scene.deep x g.te g.ti g.tu) (s_told g).2 g.typed

  pub s_part : (g : Ready S qs at e i m top) → OnePart (one_query (s_told g).0 (s_told g).1) (s_told g).1
  s_part g = one_part (s_told g).0 (s_told g).1

  pub s_type : (g : Ready S qs at e i m top) → (a : Ty) × Typed g.world S.scene.deep (s_told g).1 g.te g.ti a × (one_type (s_told g).0 a ≡ g.tu ∷ [])
  s_type g = one_typed g.world S.scene.deep g.te g.ti g.tu (s_told g).0 (s_told g).1 (s_typed g)

  pub s_last : (g : Ready S qs at e i m top) → last ≡ last_part (one_query (s_told g).0 (s_told g).1)
  s_last g = l ∙ only_told S g.world.literals qs at _ _ (s_part g) (s_stands g)

  -- the part's bytes lie within, and are fewer
  pub s_within : Ready S qs at e i m top → (1 ≤ last) × (last ≤ length qs) × (at + last ≤ length S.guide)
  s_within g =
      let q = one_query (s_told g).0 (s_told g).1 in
      let z : last ≡ last_part q = s_last g in
      (omega (arith, (s_part g).some), omega (arith, only_within S g.world.literals qs at _ _ (s_part g) (s_stands g)), omega (arith, only_short S g.world.literals qs at _ _ (s_part g) (s_stands g)))

  abbrev pub s_ready : Ready S qs at e i m top → Ready S (from last qs) (at + last) e i m top
  s_ready g =
      record {
        world = g.world;
        query = (s_told g).1;
        stands = subst (λ j. Stands S g.world.literals (from j qs) (at + j) (s_told g).1) (sym (s_last g)) (only_stand S g.world.literals qs at _ _ (s_part g) (s_stands g));
        te = g.te;
        ti = g.ti;
        tu = (s_type g).0;
        typed = (s_type g).1;
        along = g.along;
        looked = g.looked;
        is_along = g.is_along;
        is_looked = g.is_looked;
        used = g.used;
        held = g.held;
        looks = g.looks;
      }

  s_from : (n : List ℕ) (r : Result Came Stop) (g : Ready S qs at e i m top) →
      Means S.bytes g.world.rate (adding 1 (after (eval g.world.tables (s_told g).1 g.along g.looked) (λ a. one_got (s_told g).0 a))) b g.used top n r →
      Means S.bytes g.world.rate (eval g.world.tables g.query g.along g.looked) b g.used top n r
  s_from n r g h =
      subst (λ x. Means S.bytes g.world.rate x b g.used top n r)
      (sym (ap (λ x. eval g.world.tables x g.along g.looked) (s_told g).2 ∙ eval_one g.world.tables (s_told g).0 (s_told g).1 g.along g.looked)) h

  pub s_tired : b ≡ 0 → Answers S qs at e i m top b m (Err Tired)
  s_tired z = record { means = λ g. s_from m (Err Tired) g (λ c. omega arith) }

  module _ (h : b ≡ 0 → ⊥) (n : List ℕ) where
    pub s_stops : (s : Stop) → Answers S (from last qs) (at + last) e i m top (b - 1) n (Err s) → Answers S qs at e i m top b n (Err s)
    s_stops s f = record { means = λ g. s_from n (Err s) g (due_stop S.bytes g.world.rate 1 b (b - 1) _ _ g.used top n s (omega arith) (f.means (s_ready g))) }

    module _ (c : Came) (f : Answers S (from last qs) (at + last) e i m top (b - 1) n (Ok c)) where
      pub s_came : (g : Ready S qs at e i m top) → CameTo S.bytes g.world.rate (eval g.world.tables (s_told g).1 g.along g.looked) (b - 1) g.used top n c
      s_came g = f.means (s_ready g)

      abbrev pub s_one : Ready S qs at e i m top → OneReady S.bytes (S.scene.query_at + at) S.scene.deep op c.value n c.top
      s_one g =
          record {
            rate = g.world.rate;
            names = g.world.names;
            dear = g.world.dear;
            op = (s_told g).0;
            told = (s_told g).3;
            part = (s_told g).1;
            written = record { rest = (s_stands g).rest; fits = (s_stands g).fits; is = (s_stands g).spot ∙ (s_stands g).is };
            datum = (s_came g).datum;
            of = (s_type g).0;
            to = g.tu;
            is = result_of (s_type g).1 g.along g.looked (s_came g).datum g.is_along g.is_looked (s_came g).is;
            typed = (s_type g).2;
            fine_of = fine_result (s_type g).1;
            fine_to = fine_result g.typed;
            used = (s_came g).now_used;
            holds = (s_came g).holds;
            low = under_grown g.held.low (s_came g).grown (s_came g).above;
            room = (s_came g).within;
          }

      pub s_comes : (n' : List ℕ) (r : Result Came Stop) → Ones S.bytes (S.scene.query_at + at) S.scene.deep op c.value n c.top c.left n' r → Answers S qs at e i m top b n' r
      s_comes n' r t = record { means = λ g. s_from n' r g (due_then S.bytes g.world.rate 1 b (b - 1) (eval g.world.tables (s_told g).1 g.along g.looked) _ g.used top n c n' r (omega arith) (s_came g) (t.means (s_one g))) }
