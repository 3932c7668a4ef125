-- A question that does not look at it comes to the same, whatever it is.
use mathlib.Core.Path.{◌≡◌, refl}
use mathlib.Core.Bool.{false, true≢false}
use Rattle.query.specs.Data.{Data}
use Rattle.query.specs.Query.{Query, Tables, eval, table, it, env, just, two, one, each, keep, product, matched, default, as_left, as_right, either, then, with_env}
use Rattle.query.specs.Laws.{looks_it, NotLookedAtIt}
use Rattle.query.proofs.Tests.{or_l, or_r}

pub it_unseen : (ts : Tables) (q : Query) (e d d' : Data) → looks_it q ≡ false → eval ts q e d ≡ eval ts q e d'
unfolding eval looks_it
it_unseen ts (table n) e d d' h = refl
it_unseen ts env e d d' h = refl
it_unseen ts (just u c) e d d' h = refl
it_unseen ts it e d d' h = absurd (true≢false h)
it_unseen ts (either p q) e d d' h = absurd (true≢false h)
it_unseen ts (two o p q) e d d' h = let a = it_unseen ts p e d d' (or_l (looks_it p) (looks_it q) h) in let b = it_unseen ts q e d d' (or_r (looks_it p) (looks_it q) h) in simp (a, b)
it_unseen ts (product p q) e d d' h = let a = it_unseen ts p e d d' (or_l (looks_it p) (looks_it q) h) in let b = it_unseen ts q e d d' (or_r (looks_it p) (looks_it q) h) in simp (a, b)
it_unseen ts (matched m n p q) e d d' h = let a = it_unseen ts p e d d' (or_l (looks_it p) (looks_it q) h) in let b = it_unseen ts q e d d' (or_r (looks_it p) (looks_it q) h) in simp (a, b)
it_unseen ts (default p q) e d d' h = let a = it_unseen ts p e d d' (or_l (looks_it p) (looks_it q) h) in let b = it_unseen ts q e d d' (or_r (looks_it p) (looks_it q) h) in simp (a, b)
it_unseen ts (one o q) e d d' h = rw (it_unseen ts q e d d' h)
it_unseen ts (each p q) e d d' h = rw (it_unseen ts q e d d' h)
it_unseen ts (keep p q) e d d' h = rw (it_unseen ts q e d d' h)
it_unseen ts (as_left u q) e d d' h = rw (it_unseen ts q e d d' h)
it_unseen ts (as_right u q) e d d' h = rw (it_unseen ts q e d d' h)
it_unseen ts (then p q) e d d' h = rw (it_unseen ts q e d d' h)
it_unseen ts (with_env p q) e d d' h =
    let a : (e : Data) → eval ts p e d ≡ eval ts p e d' = λ e. it_unseen ts p e d d' (or_l (looks_it p) (looks_it q) h) in
    let b = it_unseen ts q e d d' (or_r (looks_it p) (looks_it q) h) in
    simp (a, b)

pub not_looked_at_it : NotLookedAtIt
unfolding NotLookedAtIt
not_looked_at_it ts q e x y h = it_unseen ts q e x y h
