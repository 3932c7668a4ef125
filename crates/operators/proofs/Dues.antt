-- Work that is due before a part is worked out and pays for what is made after it.
use Rattle.std.proofs.Common.{◌≡◌, ℕ, ◌+◌, List, length, Err, Result, sym, ap, ◌∙◌, subst, arith}
use Rattle.query.specs.Data.{Data}
use Rattle.query.specs.Query.{Got, adding, after}
use Rattle.values.specs.Memory.{Used}
use Rattle.operators.specs.Means.{CameTo, Stopped, Means}
use Rattle.operators.specs.Came.{Came}
use Rattle.operators.specs.declared.came.Stop.{Stop}
use Rattle.operators.proofs.Steps.{after_came, means_stop, means_past, stopped_adding}

pub adding_zero : (g : Got) → g ≡ adding 0 g
adding_zero g = let f : ℕ → Got = λ n. record { work = n; is = g.is } in let e : g.work ≡ 0 + g.work = omega arith in ap f e

pub adding_adding : (a b : ℕ) (g : Got) → adding a (adding b g) ≡ adding (a + b) g
adding_adding a b g = let f : ℕ → Got = λ n. record { work = n; is = g.is } in let e : a + (b + g.work) ≡ a + b + g.work = omega arith in ap f e

pub adding_swap : (a b : ℕ) (g : Got) → adding a (adding b g) ≡ adding b (adding a g)
adding_swap a b g = let f : ℕ → Got = λ n. record { work = n; is = g.is } in let e : a + (b + g.work) ≡ b + (a + g.work) = omega arith in ap f e

module _ (bs : List ℕ) (p : ℕ) where
  -- the first stopped
  pub due_stop : (k b b' : ℕ) (g : Got) (fn : Data → Got) (u : Used) (old : ℕ) (m : List ℕ) (s : Stop) → k + b' ≡ b → Stopped p g b' old (length m) s → Means bs p (adding k (after g fn)) b u old m (Err s)
  due_stop k b b' g fn u old m s z h = subst (λ y. Means bs p (adding k (after g fn)) y u old m (Err s)) z (stopped_adding bs p k b' (after g fn) old (length m) s (means_stop bs p g fn b' old (length m) s h))

  -- the first came, and what is due stands for what follows
  pub due_then : (k b b' : ℕ) (g : Got) (fn : Data → Got) (u : Used) (old : ℕ) (n : List ℕ) (c : Came) (m : List ℕ) (r : Result Came Stop) → k + b' ≡ b → (t : CameTo bs p g b' u old n c) →
      Means bs p (adding k (fn t.datum)) (k + c.left) t.now_used c.top m r → Means bs p (adding k (after g fn)) b u old m r
  due_then k b b' g fn u old n c m r l t h =
      let e : adding k (after g fn) ≡ adding g.work (adding k (fn t.datum)) = ap (λ x. adding k x) (after_came bs p g fn t.datum t.is) ∙ adding_swap k g.work (fn t.datum) in
      let z : g.work + (k + c.left) ≡ b = omega (arith, t.paid) in
      subst (λ x. Means bs p x b u old m r) (sym e)
      (subst (λ y. Means bs p (adding g.work (adding k (fn t.datum))) y u old m r) z
      (means_past bs p g.work (k + c.left) (adding k (fn t.datum)) u t.now_used old c.top m r t.thrifty t.grown t.above h))

  -- a unit of work is paid, and what it is paid for stopped
  pub stopped_unit : (rest : ℕ) (g : Got) (old end : ℕ) (s : Stop) → Stopped p g rest old end s → Stopped p (adding 1 g) (1 + rest) old end s
  stopped_unit rest g old end s h = stopped_adding bs p 1 rest g old end s h
