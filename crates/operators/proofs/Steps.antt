-- What an outcome means, step by step, as the definitions go: paying, one thing after another, what is at hand.
use Rattle.std.proofs.Common.{◌≡◌, ℕ, ◌+◌, ◌-◌, ◌*◌, ◌<◌, ◌≤◌, List, [], ◌∷◌, length, Ok, Err, Result, sym, refl, ap, ◌∙◌, subst, arith}
use Rattle.query.specs.Data.{Data}
use Rattle.query.specs.Query.{Got, came, adding, after, on_list}
use Rattle.values.specs.Memory.{Used, Grown, Holds}
use Rattle.values.specs.declared.value.Value.{Value}
use Rattle.values.specs.Made.{Made}
use Rattle.values.specs.Making.{MadeAs}
use Rattle.operators.specs.Means.{CameTo, Comes, Stopped, Means}
use Rattle.operators.specs.Came.{Came}
use Rattle.operators.specs.declared.came.Stop.{Stop}
use Rattle.operators.specs.declared.came.Stop.TheVariants.{Tired, NoRoom, Wrong}
use Rattle.operators.proofs.Grows.{grown_refl, grown_trans}
use Rattle.operators.proofs.Pays.{pay_both}

module _ (bs : List ℕ) (p : ℕ) where
  pub stopped_adding : (n b : ℕ) (g : Got) (old end : ℕ) (s : Stop) → Stopped p g b old end s → Stopped p (adding n g) (n + b) old end s
  stopped_adding n b g old end Tired h = λ c. omega (arith, h c)
  stopped_adding n b g old end Wrong h = h
  stopped_adding n b g old end NoRoom h = λ c. let k = h c in record { spent = k.spent; part = omega (arith, k.part); afford = omega (arith, k.afford); lacks = k.lacks }

  pub means_adding : (n b : ℕ) (g : Got) (u : Used) (old : ℕ) (m : List ℕ) (r : Result Came Stop) → Means bs p g b u old m r → Means bs p (adding n g) (n + b) u old m r
  means_adding n b g u old m (Ok c) h =
      record { datum = h.datum; is = h.is; now_used = h.now_used; grown = h.grown; holds = h.holds; paid = omega (arith, h.paid); above = h.above; within = h.within; thrifty = omega (arith, h.thrifty, pay_both p n g.work) }
  means_adding n b g u old m (Err s) h = stopped_adding n b g old (length m) s h

  pub after_came : (g : Got) (f : Data → Got) (d : Data) → g.is ≡ d ∷ [] → after g f ≡ adding g.work (f d)
  unfolding on_list
  after_came g f d e = ap (λ l. on_list l g (λ d. adding g.work (f d))) e

  pub after_failed : (g : Got) (f : Data → Got) → g.is ≡ [] → (after g f).is ≡ []
  unfolding on_list
  after_failed g f e = ap (λ l. (on_list l g (λ d. adding g.work (f d))).is) e ∙ e

  after_more : (g : Got) (f : Data → Got) (l : List Data) → g.work ≤ (on_list l g (λ d. adding g.work (f d))).work
  unfolding on_list
  after_more g f [] = omega arith
  after_more g f (d ∷ ds) = omega arith

  -- the first stopped
  pub means_stop : (g : Got) (fn : Data → Got) (b old end : ℕ) (s : Stop) → Stopped p g b old end s → Stopped p (after g fn) b old end s
  means_stop g fn b old end Tired h = λ c. omega (arith, after_more g fn g.is, h (λ e. c (after_failed g fn e)))
  means_stop g fn b old end Wrong h = after_failed g fn h
  means_stop g fn b old end NoRoom h = λ c.
      let k = h (λ e. c (after_failed g fn e)) in
      record { spent = k.spent; part = omega (arith, after_more g fn g.is, k.part); afford = k.afford; lacks = k.lacks }

  -- so much work was paid for, and what follows stopped, or came
  pub stopped_then : (w rest : ℕ) (g : Got) (old top end : ℕ) (s : Stop) → top ≤ old + p * w → Stopped p g rest top end s → Stopped p (adding w g) (w + rest) old end s
  stopped_then w rest g old top end Tired t h = λ c. omega (arith, h c)
  stopped_then w rest g old top end Wrong t h = h
  stopped_then w rest g old top end NoRoom t h = λ c. let k = h c in record { spent = w + k.spent; part = omega (arith, k.part); afford = omega (arith, k.afford); lacks = omega (arith, k.lacks, pay_both p w k.spent) }

  pub means_past : (w rest : ℕ) (g : Got) (u v : Used) (old top : ℕ) (m : List ℕ) (r : Result Came Stop) → top ≤ old + p * w → Grown u v old top → old ≤ top → Means bs p g rest v top m r → Means bs p (adding w g) (w + rest) u old m r
  means_past w rest g u v old top m (Ok c) t k q h =
      record { datum = h.datum; is = h.is; now_used = h.now_used; grown = grown_trans k h.grown q h.above; holds = h.holds; paid = omega (arith, h.paid); above = omega (arith, h.above); within = h.within; thrifty = omega (arith, h.thrifty, pay_both p w g.work) }
  means_past w rest g u v old top m (Err s) t k q h = stopped_then w rest g old top (length m) s t h

  -- the first came, and so did what follows, or not
  pub means_then : (g : Got) (fn : Data → Got) (b : ℕ) (u : Used) (old : ℕ) (n : List ℕ) (c : Came) (m : List ℕ) (r : Result Came Stop) → (k : CameTo bs p g b u old n c) → Means bs p (fn k.datum) c.left k.now_used c.top m r → Means bs p (after g fn) b u old m r
  means_then g fn b u old n c m r k h =
      subst (λ x. Means bs p x b u old m r) (sym (after_came g fn k.datum k.is))
      (subst (λ y. Means bs p (adding g.work (fn k.datum)) y u old m r) k.paid (means_past g.work c.left (fn k.datum) u k.now_used old c.top m r k.thrifty k.grown k.above h))

  -- so much is paid first
  pub means_paid : (n b : ℕ) (g : Got) (u : Used) (old : ℕ) (m : List ℕ) (r : Result Came Stop) → n ≤ b → Means bs p g (b - n) u old m r → Means bs p (adding n g) b u old m r
  means_paid n b g u old m r h k = let e : n + (b - n) ≡ b = omega arith in subst (λ y. Means bs p (adding n g) y u old m r) e (means_adding n (b - n) g u old m r k)

  pub tired_first : (n b : ℕ) (g : Got) (old end : ℕ) → b < n → Stopped p (adding n g) b old end Tired
  tired_first n b g old end h = λ c. omega arith

  -- a value that is at hand
  pub at_hand : (m : List ℕ) (u : Used) (top b : ℕ) (d : Data) (v : Value) → top ≤ length m → Holds bs m u d v → Means bs p (came 0 d) b u top m (Ok (record { value = v; top = top; left = b }))
  at_hand m u top b d v room h =
      record { datum = d; is = refl; now_used = u; grown = grown_refl u top; holds = h; paid = omega arith; above = omega arith; within = room; thrifty = omega arith }

  -- something was made, and so many units of work pay for it
  pub made_paid : (d : Data) (w b need : ℕ) (u : Used) (top : ℕ) (m : List ℕ) (r : Made) → need ≤ p * w → w ≤ b → MadeAs bs d u top need m r → Means bs p (came w d) b u top m (Ok (record { value = r.value; top = r.top; left = b - w }))
  made_paid d w b need u top m r l h k =
      record { datum = d; is = refl; now_used = k.now_used; grown = k.grown; holds = k.holds; paid = omega arith; above = k.above; within = k.within; thrifty = omega (arith, k.thrifty) }

  pub no_room_paid : (d : Data) (w b need top end : ℕ) → need ≤ p * w → w ≤ b → end < top + need → Stopped p (came w d) b top end NoRoom
  no_room_paid d w b need top end l h k = λ c. record { spent = w; part = omega arith; afford = h; lacks = omega arith }

  -- what follows looks at so much at least
  pub after_pays : (h : Got) (on : Data → Got) (n : ℕ) → ((e : Data) → Comes (on e) → n ≤ (on e).work) → Comes (after h on) → h.work + n ≤ (after h on).work
  unfolding on_list
  after_pays h on n k c = go h.is refl c
    where
      go : (l : List Data) → h.is ≡ l → Comes (on_list l h (λ d. adding h.work (on d))) → h.work + n ≤ (on_list l h (λ d. adding h.work (on d))).work
      go [] e c = absurd (c e)
      go (d ∷ ds) e c = omega (arith, k d c)
