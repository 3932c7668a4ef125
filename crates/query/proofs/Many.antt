-- Asking each of a bag comes to as many as there were.
use mathlib.Core.Path.{◌≡◌, refl, ap}
use mathlib.Core.List.{List, [], ◌∷◌}
use Prim.Native.Nat.{ℕ, suc}
use native.Mathlib.Omega.{arith}
use Rattle.query.specs.Data.{Data, Datas, how_many, bag, none, more}
use Rattle.query.specs.Query.{Got, came, adding, on_list, after, on_bag, each_of, eval}
use Rattle.query.specs.Laws.{AsMany}

pub after_is : (g : Got) (k : Data → Got) (z : Data) → (after g k).is ≡ z ∷ [] → (a : Data) × (l : List Data) × (g.is ≡ a ∷ l) × ((k a).is ≡ z ∷ [])
unfolding on_list
after_is g k z h = by g.is refl h
  where
    by : (l : List Data) → g.is ≡ l → (on_list l g (λ d. adding g.work (k d))).is ≡ z ∷ [] → (a : Data) × (m : List Data) × (g.is ≡ a ∷ m) × ((k a).is ≡ z ∷ [])
    by [] p q = let e : ◌≡◌ {A = ℕ} 0 1 = cc in absurd (omega arith)
    by (a ∷ l) p q = (a, l, p, q)

pub each_many : (f : Data → Got) (xs : Datas) (g : Datas → Got) (z : Data) → (each_of f xs g).is ≡ z ∷ [] → (ys : Datas) × (how_many ys ≡ how_many xs) × ((g ys).is ≡ z ∷ [])
unfolding each_of how_many
each_many f none g z h = (none, refl, h)
each_many f (more d ds) g z h =
    let u = after_is (adding 1 (f d)) (λ e. each_of f ds (λ es. g (more e es))) z h in
    let v = each_many f ds (λ es. g (more u.0 es)) z u.3 in
    (more u.0 v.0, ap suc v.1, v.2)

pub as_many : AsMany
unfolding AsMany eval on_bag
as_many ts p q e d xs ys h k =
    let u = after_is (eval ts q e d) (λ a. on_bag a (λ xs. each_of (λ x. eval ts p e x) xs (λ ys. came 0 (bag ys)))) (bag ys) k in
    let a_is : u.0 ≡ bag xs = cc in
    let v = each_many (λ x. eval ts p e x) xs (λ ys. came 0 (bag ys)) (bag ys) (rw a_is at u.3) in
    let same : v.0 ≡ ys = cc in
    rw same at v.1
