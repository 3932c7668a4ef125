-- What is not so, and a value on one side.
use Rattle.std.proofs.Common.{◌≡◌, ℕ, ◌+◌, Bool, not, List, length, Ok, Err, sym, refl, ap, subst, arith}
use Rattle.query.specs.Data.{Data, truth, left, right}
use Rattle.query.specs.Query.{came, adding, not_so, on_truth, apply1}
use Rattle.values.specs.Memory.{Used, Holds, Kept, loaded}
use Rattle.values.specs.Lent.{all, Pushed, Crowded}
use Rattle.values.specs.declared.lent.Memory.{Memory}
use Rattle.values.specs.declared.value.Value.{Value}
use Rattle.values.specs.declared.value.Value.TheVariants.{Truth, Left, Right}
use Rattle.values.proofs.Frame.{kept_refl, kept_agree, stored_kept, holds_kept}
use Rattle.operators.specs.Kinds.{as_truth}
use Rattle.operators.specs.Means.{Means}
use Rattle.operators.specs.declared.came.Stop.{Stop}
use Rattle.operators.specs.declared.came.Stop.TheVariants.{NoRoom}
use Rattle.operators.proofs.OfKind.{is_truth, no_truth}
use Rattle.values.proofs.Ranged.{ranged, ranged_old, grown_ranged, run_ranged}
use Rattle.bags.proofs.Things.{top_within, crowded_kept}
use Rattle.unary.specs.Unary.{Turns, Sides}
use Rattle.unary.proofs.Paying.{stopped_wrong, made_here, is_here, lacks_room}

module _ (v : Value) (m : List ℕ) (top budget : ℕ) where
  pub no_truth_turns : (s : Stop) → as_truth v ≡ Err s → Turns (apply1 not_so) v m top budget m (Err s)
  unfolding apply1
  no_truth_turns s e = record { kept = kept_refl; means = λ bs rate u d g. let k = no_truth bs m u d v (λ b. came 0 (truth (not b))) s g.holds e in stopped_wrong rate (adding 1 (apply1 not_so d)) (1 + budget) top (length m) s k.0 k.1 }

  pub not_turns : (b : Bool) → as_truth v ≡ Ok b → Turns (apply1 not_so) v m top budget m (Ok (record { value = Truth (not b); top = top; left = budget }))
  unfolding apply1 on_truth Holds
  not_turns b e = record {
    kept = kept_refl;
    means = λ bs rate u d g.
        subst (λ x. Means bs rate (adding 1 (apply1 not_so x)) (1 + budget) u top m (Ok (record { value = Truth (not b); top = top; left = budget }))) (sym (is_truth bs m u d v b g.holds e))
        (is_here bs rate (adding 1 (came 0 (truth (not b)))) (truth (not b)) (1 + budget) u top m budget (Truth (not b)) refl refl g.room refl);
  }

-- a value on a side
module _ (told : ℕ → Value → Type 0) (on : Data → Data) (side : Sides told on) (v : Value) {m n : Memory} (budget : ℕ) where
  pub side_turns : {at : ℕ} (r : Value) → told at r → Pushed 3 loaded v m n at → Turns (λ d. came 0 (on d)) v (all m) m.top budget (all n) (Ok (record { value = r; top = n.top; left = budget }))
  side_turns {at} r t s =
      let kept : Kept m.top (all m) (all n) = stored_kept s.put (omega arith) in
      record {
        kept = kept;
        means = λ bs rate u d g.
            let w : Used = ranged u m.top n.top in
            let there : Holds bs (all n) w d (loaded (all n) at) = rw s.begins (subst (λ x. Holds bs (all n) w d x) (sym s.put.there) (holds_kept bs w d v (kept_agree g.low kept) (λ k t. ranged_old u m.top n.top k t) g.holds)) in
            made_here bs rate (adding 1 (came 0 (on d))) (on d) (1 + budget) u m.top (all n) 3 budget (record { value = r; top = n.top }) refl refl (omega (arith, g.dear))
            (record {
              now_used = w;
              grown = grown_ranged u m.top n.top;
              holds = side.holds bs (all n) w at r d t (run_ranged u m.top n.top at 3 (omega (arith, s.begins)) (omega (arith, s.begins, s.moved.top))) there;
              above = omega (arith, s.moved.top);
              within = top_within n;
              thrifty = omega (arith, s.moved.top);
            });
      }

  pub side_short : Crowded m n 3 → Turns (λ d. came 0 (on d)) v (all m) m.top budget (all n) (Err NoRoom)
  side_short c =
      record {
        kept = crowded_kept c;
        means = λ bs rate u d g. lacks_room bs rate (adding 1 (came 0 (on d))) (on d) (1 + budget) u m.top (all n) 3 (omega arith) (omega (arith, g.dear)) (omega (arith, c.short, ap length c.words));
      }

pub left_side : (told : ℕ → Value → Type 0) → ((at : ℕ) (r : Value) → told at r → r ≡ Left at) → Sides told left
unfolding Holds
left_side told h = record { holds = λ bs m u at r d t run there. (at, h at r t, run, there) }

pub right_side : (told : ℕ → Value → Type 0) → ((at : ℕ) (r : Value) → told at r → r ≡ Right at) → Sides told right
unfolding Holds
right_side told h = record { holds = λ bs m u at r d t run there. (at, h at r t, run, there) }
