-- Those of a bag for which a query is true: what holds on the way.
use Rattle.std.proofs.Common.{◌≡◌, ℕ, suc, ◌+◌, ◌-◌, ◌*◌, ◌<◌, ◌≤◌, Bool, true, false, List, [], ◌∷◌, length, Ok, Err, Result, sym, refl, ap, ◌∙◌, subst, arith}
use Rattle.query.specs.Data.{Data, bag, Datas, none, more, pick}
use Rattle.query.specs.Query.{Got, came, adding, after, keep_of}
use Rattle.query.specs.Types.{all_of}
use Rattle.values.specs.Memory.{Kept, Used, Under, Holds, HoldsAll, loaded}
use Rattle.values.specs.declared.value.Place.{Place}
use Rattle.values.specs.declared.value.Value.{Value}
use Rattle.values.specs.declared.value.Value.TheVariants.{Bag}
use Rattle.values.proofs.Frame.{kept_agree, holds_kept}
use Rattle.operators.specs.Means.{CameTo, Stopped, Means}
use Rattle.operators.specs.Came.{Came}
use Rattle.operators.specs.declared.came.Stop.{Stop}
use Rattle.operators.specs.declared.came.Stop.TheVariants.{Tired, NoRoom}
use Rattle.operators.proofs.Steps.{after_came, means_stop, stopped_adding}
use Rattle.operators.proofs.Dues.{adding_zero}
use Rattle.eval.specs.Ready.{Setting, Ready, Answers, EachReady, KeepAnswers}
use mathlib.Core.Path.{fun_ext}
use Rattle.query.specs.Data.{join}
use Rattle.query.specs.Query.{on_truth, on_list}
use Rattle.query.proofs.OfType.{first_of, rest_of}
use Rattle.values.specs.Memory.{Stored}
use Rattle.values.proofs.Frame.{kept_trans, stored_kept, all_kept}
use Rattle.operators.specs.Kinds.{as_truth}
use Rattle.operators.proofs.Pays.{pay_both, pay_one}
use Rattle.operators.proofs.OfKind.{is_truth, no_truth}
use Rattle.operators.proofs.Steps.{stopped_then}
use Rattle.operators.proofs.Dues.{adding_adding}
use Rattle.values.proofs.Ranged.{ranged, ranged_old, run_ranged, grown_ranged}
use Rattle.eval.proofs.Frames.{held_kept}
use Rattle.eval.proofs.Each.{join_none, join_one, all_one, Next, next, none_left, asking, to_bag}

after_more : (g : Got) (f : Data → Got) (l : List Data) → g.work ≤ (on_list l g (λ d. adding g.work (f d))).work
unfolding on_list
after_more g f [] = omega arith
after_more g f (d ∷ ds) = omega arith

on_true : (bs m : List ℕ) (u : Used) (d : Data) (v : Value) (f : Bool → Got) (b : Bool) → Holds bs m u d v → as_truth v ≡ Ok b → on_truth d f ≡ f b
unfolding on_truth
on_true bs m u d v f b h e = ap (λ x. on_truth x f) (is_truth bs m u d v b h e)

-- `i` were looked at and `count` of them kept, and memory is `n`
pub record Keeping {S : Setting} {qs : List ℕ} {at : ℕ} {a : Value} {p : Place} {m : List ℕ} {top : ℕ} (g : EachReady S qs at a p m top) (budget : ℕ) (n : List ℕ) (i count rest : ℕ) : Type 0 where
  pub done : Datas
  pub to_come : Datas
  pub work : ℕ
  pub are : all_of to_come g.ti ≡ true
  pub made : HoldsAll S.bytes n g.used done top count
  pub lie : HoldsAll S.bytes n g.used to_come (p.start + 3 * i) (p.count - i)
  pub comes : keep_of (asking g) g.items (λ ys. came 0 (bag ys)) ≡ adding work (keep_of (asking g) to_come (to_bag done))
  pub paid : work + rest ≡ budget
  pub thrifty : 3 * count ≤ g.world.rate * work

pub record KeepTurn (S : Setting) (qs : List ℕ) (at : ℕ) (a : Value) (p : Place) (m : List ℕ) (top budget : ℕ) (n : List ℕ) (i count high rest : ℕ) : Type 0 where
  pub kept : Kept top m n
  pub above : high ≡ top + 3 * count
  pub within : high ≤ length n
  pub going : (g : EachReady S qs at a p m top) → Keeping g budget n i count rest

module _ {S : Setting} {qs : List ℕ} {at : ℕ} {a : Value} {p : Place} {m : List ℕ} {top : ℕ} (b : ℕ) where
  pub keep_begin : top ≤ length m → KeepTurn S qs at a p m top b m 0 0 top b
  unfolding HoldsAll join
  keep_begin room = record {
    kept = record { long = refl; same = λ k h. refl };
    above = omega arith;
    within = room;
    going = λ g. record {
      done = none;
      to_come = g.items;
      work = 0;
      are = g.are_items;
      made = refl;
      lie = let e : p.start + 3 * 0 ≡ p.start = omega arith in let f : p.count - 0 ≡ p.count = omega arith in
          subst (λ x. HoldsAll S.bytes m g.used g.items x (p.count - 0)) (sym e) (subst (λ x. HoldsAll S.bytes m g.used g.items p.start x) (sym f) g.row.lie);
      comes = adding_zero (keep_of (asking g) g.items (λ ys. came 0 (bag ys)));
      paid = omega arith;
      thrifty = omega arith;
    };
  }

  module _ (n : List ℕ) (i count high rest : ℕ) (t : KeepTurn S qs at a p m top b n i count high rest) where
    from_rest : (g : EachReady S qs at a p m top) (n' : List ℕ) (r : Result Came Stop) →
        Means S.bytes g.world.rate (adding (t.going g).work (keep_of (asking g) (t.going g).to_come (to_bag (t.going g).done))) b g.used top n' r →
        Means S.bytes g.world.rate (keep_of (asking g) g.items (λ ys. came 0 (bag ys))) b g.used top n' r
    from_rest g n' r h = subst (λ x. Means S.bytes g.world.rate x b g.used top n' r) (sym (t.going g).comes) h

    pub under_high : (g : EachReady S qs at a p m top) → Under g.used high
    under_high g = record { low = λ k s. omega (arith, g.held.low.low k s, t.above) }

    pub keep_finished : i ≡ p.count → KeepAnswers S qs at a p m top b n (Ok (record { value = Bag (record { start = top; count = count }); top = high; left = rest }))
    unfolding keep_of Holds
    keep_finished e = record {
      means = λ g.
          let w = t.going g in
          let z : w.to_come ≡ none = none_left S.bytes n g.used w.to_come (p.start + 3 * i) (p.count - i) (omega arith) w.lie in
          let r : Result Came Stop = Ok (record { value = Bag (record { start = top; count = count }); top = high; left = rest }) in
          let u : Used = ranged g.used top high in
          from_rest g n r
          (subst (λ x. Means S.bytes g.world.rate (adding w.work (keep_of (asking g) x (to_bag w.done))) b g.used top n r) (sym z)
          (subst (λ x. Means S.bytes g.world.rate (adding w.work (came 0 (bag x))) b g.used top n r) (sym (join_none w.done))
          (record {
            datum = bag w.done;
            is = refl;
            now_used = u;
            grown = grown_ranged g.used top high;
            holds = (
              record { start = top; count = count },
              refl,
              run_ranged g.used top high top (3 * count) (omega arith) (omega (arith, t.above)),
              all_kept S.bytes u w.done top count (record { same = λ k s. refl }) (λ k s. ranged_old g.used top high k s) (λ k y z. refl) w.made,
            );
            paid = omega (arith, w.paid);
            above = omega (arith, t.above);
            within = t.within;
            thrifty = omega (arith, w.thrifty, t.above);
          })));
    }

    module _ (lt : i < p.count) where
      pub nexts : (g : EachReady S qs at a p m top) → Next S.bytes n g.used (t.going g).to_come (p.start + 3 * i) (p.count - i)
      nexts g = next S.bytes n g.used (t.going g).to_come (p.start + 3 * i) (p.count - i) (omega arith) (t.going g).lie

      pub next_are : (g : EachReady S qs at a p m top) → all_of (more (nexts g).item (nexts g).others) g.ti ≡ true
      next_are g = subst (λ x. all_of x g.ti ≡ true) (nexts g).is (t.going g).are

      -- after this one, the others, with it or without
      abbrev with : (g : EachReady S qs at a p m top) → Bool → Got
      with g y = keep_of (asking g) (nexts g).others (λ es. to_bag (t.going g).done (pick y (more (nexts g).item es) es))

      abbrev on : (g : EachReady S qs at a p m top) → Data → Got
      on g e = on_truth e (with g)

      -- the next stopped
      from_next : (g : EachReady S qs at a p m top) (n' : List ℕ) (s : Stop) →
          Stopped g.world.rate (after (adding 1 (asking g (nexts g).item)) (on g)) rest high (length n') s →
          Stopped g.world.rate (keep_of (asking g) g.items (λ ys. came 0 (bag ys))) b top (length n') s
      unfolding keep_of
      from_next g n' s h =
          let w = t.going g in
          let sofar : high ≤ top + g.world.rate * w.work = omega (arith, t.above, w.thrifty) in
          from_rest g n' (Err s) (subst (λ y. Stopped g.world.rate (adding w.work (keep_of (asking g) w.to_come (to_bag w.done))) y top (length n') s) w.paid
          (stopped_then S.bytes g.world.rate w.work rest (keep_of (asking g) w.to_come (to_bag w.done)) top high (length n') s sofar
          (subst (λ x. Stopped g.world.rate (keep_of (asking g) x (to_bag w.done)) rest high (length n') s) (sym (nexts g).is) h)))

      pub keep_tired : rest ≡ 0 → KeepAnswers S qs at a p m top b n (Err Tired)
      keep_tired z = record { means = λ g. from_next g n Tired (λ c. omega (arith, after_more (adding 1 (asking g (nexts g).item)) (on g) (asking g (nexts g).item).is)) }

      module _ (x : Value) (e : x ≡ loaded n (p.start + 3 * i)) where
        pub looks : (g : EachReady S qs at a p m top) → Holds S.bytes n g.used (nexts g).item x
        looks g = subst (λ v. Holds S.bytes n g.used (nexts g).item v) (sym e) (nexts g).holds

        abbrev pub kept_ready : EachReady S qs at a p m top → Ready S qs at a x n high
        kept_ready g =
            record {
              world = g.world;
              query = g.query;
              stands = g.stands;
              te = g.te;
              ti = g.ti;
              tu = g.tu;
              typed = g.typed;
              along = g.along;
              looked = (nexts g).item;
              is_along = g.is_along;
              is_looked = first_of (nexts g).item (nexts g).others g.ti (next_are g);
              used = g.used;
              held = held_kept (kept_agree g.held.low t.kept) (λ k s. s) (under_high g) t.within g.held;
              looks = looks g;
            }

        module _ (h : rest ≡ 0 → ⊥) (n' : List ℕ) where
          pub keep_stops : (s : Stop) → Answers S qs at a x n high (rest - 1) n' (Err s) → KeepAnswers S qs at a p m top b n' (Err s)
          keep_stops s f = record {
            means = λ g.
                let j : 1 + (rest - 1) ≡ rest = omega arith in
                from_next g n' s (means_stop S.bytes g.world.rate (adding 1 (asking g (nexts g).item)) (on g) rest high (length n') s
                (subst (λ y. Stopped g.world.rate (adding 1 (asking g (nexts g).item)) y high (length n') s) j
                (stopped_adding S.bytes g.world.rate 1 (rest - 1) (asking g (nexts g).item) high (length n') s (f.means (kept_ready g)))));
          }

          pub keep_no_room : length n' < high + 3 → KeepAnswers S qs at a p m top b n' (Err NoRoom)
          keep_no_room l = record {
            means = λ g. from_next g n' NoRoom (λ c.
                record { spent = 1; part = omega (arith, after_more (adding 1 (asking g (nexts g).item)) (on g) (asking g (nexts g).item).is); afford = omega arith; lacks = omega (arith, g.world.dear, pay_one g.world.rate) });
          }

          module _ (c : Came) (kept : Kept high n n') (f : Answers S qs at a x n high (rest - 1) n' (Ok c)) where
            pub keep_came : (g : EachReady S qs at a p m top) → CameTo S.bytes g.world.rate (asking g (nexts g).item) (rest - 1) g.used high n' c
            keep_came g = f.means (kept_ready g)

            pub keep_no_truth : (s : Stop) → as_truth c.value ≡ Err s → KeepAnswers S qs at a p m top b n' (Err s)
            keep_no_truth s z = record {
              means = λ g.
                  let k = keep_came g in
                  let f = adding 1 (asking g (nexts g).item) in
                  let y = no_truth S.bytes n' k.now_used k.datum c.value (with g) s k.holds z in
                  from_next g n' s
                  (subst (λ v. Stopped g.world.rate (after f (on g)) rest high (length n') v) y.0
                  (ap (λ (v : Got). v.is) (after_came [] 0 f (on g) k.datum k.is) ∙ y.1));
            }

            comes_next : (y : Bool) → as_truth c.value ≡ Ok y → (g : EachReady S qs at a p m top) →
                keep_of (asking g) g.items (λ ys. came 0 (bag ys)) ≡ adding ((t.going g).work + (1 + (asking g (nexts g).item).work)) (with g y)
            unfolding keep_of
            comes_next y z g =
                let w = t.going g in
                let f = asking g (nexts g).item in
                let k = keep_came g in
                let one_on : keep_of (asking g) w.to_come (to_bag w.done) ≡ after (adding 1 f) (on g) = ap (λ y. keep_of (asking g) y (to_bag w.done)) (nexts g).is in
                let came_on : after (adding 1 f) (on g) ≡ adding (1 + f.work) (on g k.datum) = after_came [] 0 (adding 1 f) (on g) k.datum k.is in
                w.comes ∙ ap (λ y. adding w.work y) (one_on ∙ came_on ∙ ap (λ y. adding (1 + f.work) y) (on_true S.bytes n' k.now_used k.datum c.value (with g) y k.holds z))
                ∙ adding_adding w.work (1 + f.work) (with g y)

            far : (g : EachReady S qs at a p m top) (k : ℕ) → p.start + 3 * i + 3 ≤ k → k < p.start + 3 * i + 3 + 3 * (p.count - i - 1) → k < high
            far g k y z = let l : k < top = g.held.low.low k (g.row.run.used k (omega arith) (omega arith)) in omega (arith, t.above)

            others_lie : (n'' : List ℕ) → Kept high n n'' → (g : EachReady S qs at a p m top) → HoldsAll S.bytes n'' g.used (nexts g).others (p.start + 3 * (i + 1)) (p.count - (i + 1))
            others_lie n'' kept g =
                let s1 : p.start + 3 * i + 3 ≡ p.start + 3 * (i + 1) = omega arith in
                let s2 : p.count - i - 1 ≡ p.count - (i + 1) = omega arith in
                subst (λ y. HoldsAll S.bytes n'' g.used (nexts g).others y (p.count - (i + 1))) s1 (subst (λ y. HoldsAll S.bytes n'' g.used (nexts g).others (p.start + 3 * i + 3) y) s2
                (all_kept S.bytes g.used (nexts g).others (p.start + 3 * i + 3) (p.count - i - 1) (kept_agree (under_high g) kept) (λ k s. s) (λ k y z. kept.same k (far g k y z)) (nexts g).lie))

            done_lie : (n'' : List ℕ) → Kept high n n'' → (g : EachReady S qs at a p m top) → HoldsAll S.bytes n'' g.used (t.going g).done top count
            done_lie n'' kept g = all_kept S.bytes g.used (t.going g).done top count (kept_agree (under_high g) kept) (λ k s. s) (λ k y z. kept.same k (omega (arith, t.above))) (t.going g).made

            pub left_out : as_truth c.value ≡ Ok false → EachReady S qs at a p m top → KeepTurn S qs at a p m top b n' (i + 1) count high c.left
            unfolding pick
            left_out z g₀ = record {
              kept = kept_trans t.kept kept (omega (arith, t.above));
              above = t.above;
              within = omega (arith, t.within, kept.long);
              going = λ g. record {
                done = (t.going g).done;
                to_come = (nexts g).others;
                work = (t.going g).work + (1 + (asking g (nexts g).item).work);
                are = rest_of (nexts g).item (nexts g).others g.ti (next_are g);
                made = done_lie n' kept g;
                lie = others_lie n' kept g;
                comes = comes_next false z g;
                paid = omega (arith, (t.going g).paid, (keep_came g).paid);
                thrifty = omega (arith, (t.going g).thrifty, pay_both g.world.rate (t.going g).work (1 + (asking g (nexts g).item).work));
              };
            }

            pub taken_in : as_truth c.value ≡ Ok true → (n'' : List ℕ) → Stored high x n' n'' → high + 3 ≤ length n'' → EachReady S qs at a p m top → KeepTurn S qs at a p m top b n'' (i + 1) (count + 1) (high + 3) c.left
            unfolding pick
            taken_in z n'' st room g₀ =
                let kept'' : Kept high n n'' = kept_trans kept (stored_kept {top = high} st (omega arith)) (omega arith) in
                record {
                  kept = kept_trans t.kept kept'' (omega (arith, t.above));
                  above = omega (arith, t.above);
                  within = room;
                  going = λ g.
                      let w = t.going g in
                      let d : Data = (nexts g).item in
                      let j : suc count ≡ count + 1 = omega arith in
                      let hi : high ≡ top + 3 * count = t.above in
                      record {
                        done = join w.done (more d none);
                        to_come = (nexts g).others;
                        work = w.work + (1 + (asking g d).work);
                        are = rest_of (nexts g).item (nexts g).others g.ti (next_are g);
                        made = subst (λ y. HoldsAll S.bytes n'' g.used (join w.done (more d none)) top y) j
                            (all_one S.bytes n'' g.used w.done d top count (done_lie n'' kept'' g)
                            (subst (λ y. Holds S.bytes n'' g.used d (loaded n'' y)) hi
                            (subst (λ v. Holds S.bytes n'' g.used d v) (sym st.there) (holds_kept S.bytes g.used d x (kept_agree (under_high g) kept'') (λ k s. s) (looks g)))));
                        lie = others_lie n'' kept'' g;
                        comes = comes_next true z g ∙ ap (λ F. adding (w.work + (1 + (asking g d).work)) (keep_of (asking g) (nexts g).others F)) (fun_ext (λ ys. ap (λ z. came 0 (bag z)) (sym (join_one w.done d ys))));
                        paid = omega (arith, w.paid, (keep_came g).paid);
                        thrifty = omega (arith, w.thrifty, g.world.dear);
                      };
                }
