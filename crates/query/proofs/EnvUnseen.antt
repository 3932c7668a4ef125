-- A question that does not look at what goes along comes to the same, whatever goes along.
use mathlib.Core.Path.{◌≡◌, refl}
use mathlib.Core.Bool.{false, true≢false}
use Rattle.query.specs.Data.{Data, bag}
use Rattle.query.specs.Query.{Query, Tables, came, adding, after, on_bag, on_either, apply1, apply2, each_of, keep_of, eval, table, it, env, just, two, one, each, keep, product, matched, default, as_left, as_right, either, then, with_env}
use Rattle.query.specs.Laws.{looks, NotLookedAt}
use Rattle.query.proofs.Tests.{or_l, or_r}

pub not_looked : (ts : Tables) (q : Query) (x y d : Data) → looks q ≡ false → eval ts q x d ≡ eval ts q y d
unfolding eval looks
not_looked ts (table n) x y d h = refl
not_looked ts it x y d h = refl
not_looked ts env x y d h = absurd (true≢false h)
not_looked ts (just t c) x y d h = refl
not_looked ts (two o p q) x y d h =
    let a = not_looked ts p x y d (or_l (looks p) (looks q) h) in
    let b = not_looked ts q x y d (or_r (looks p) (looks q) h) in
    λ i. adding 1 (after (a i) (λ u. after (b i) (λ v. apply2 o u v)))
not_looked ts (one o q) x y d h = let b = not_looked ts q x y d h in λ i. adding 1 (after (b i) (λ u. apply1 o u))
not_looked ts (each p q) x y d h =
    let a : (z : Data) → eval ts p x z ≡ eval ts p y z = λ z. not_looked ts p x y z (or_l (looks p) (looks q) h) in
    let b = not_looked ts q x y d (or_r (looks p) (looks q) h) in
    λ i. after (b i) (λ u. on_bag u (λ xs. each_of (λ z. a z i) xs (λ ys. came 0 (bag ys))))
not_looked ts (keep p q) x y d h =
    let a : (z : Data) → eval ts p x z ≡ eval ts p y z = λ z. not_looked ts p x y z (or_l (looks p) (looks q) h) in
    let b = not_looked ts q x y d (or_r (looks p) (looks q) h) in
    λ i. after (b i) (λ u. on_bag u (λ xs. keep_of (λ z. a z i) xs (λ ys. came 0 (bag ys))))
not_looked ts (product p q) x y d h =
    let a = not_looked ts p x y d (or_l (looks p) (looks q) h) in
    let b = not_looked ts q x y d (or_r (looks p) (looks q) h) in
    simp (a, b)
not_looked ts (matched m n p q) x y d h =
    let a = not_looked ts p x y d (or_l (looks p) (looks q) h) in
    let b = not_looked ts q x y d (or_r (looks p) (looks q) h) in
    simp (a, b)
not_looked ts (default p q) x y d h =
    let a = not_looked ts p x y d (or_l (looks p) (looks q) h) in
    let b = not_looked ts q x y d (or_r (looks p) (looks q) h) in
    rw (a, b)
not_looked ts (as_left t q) x y d h = rw (not_looked ts q x y d h)
not_looked ts (as_right t q) x y d h = rw (not_looked ts q x y d h)
not_looked ts (either p q) x y d h =
    let a : (z : Data) → eval ts p x z ≡ eval ts p y z = λ z. not_looked ts p x y z (or_l (looks p) (looks q) h) in
    let b : (z : Data) → eval ts q x z ≡ eval ts q y z = λ z. not_looked ts q x y z (or_r (looks p) (looks q) h) in
    λ i. adding 1 (on_either d (λ z. a z i) (λ z. b z i))
not_looked ts (then p q) x y d h =
    let a : (z : Data) → eval ts p x z ≡ eval ts p y z = λ z. not_looked ts p x y z (or_l (looks p) (looks q) h) in
    let b = not_looked ts q x y d (or_r (looks p) (looks q) h) in
    simp (a, b)
not_looked ts (with_env p q) x y d h = rw (not_looked ts q x y d h)

pub not_looked_at : NotLookedAt
unfolding NotLookedAt
not_looked_at ts q x y d h = not_looked ts q x y d h
