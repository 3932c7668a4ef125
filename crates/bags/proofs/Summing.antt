-- A sum from the first number on.
use Rattle.std.proofs.Common.{◌≡◌, ℕ, ◌+◌, ◌*◌, ◌%◌, ◌<◌, List, Some, None, refl, ap, ◌∙◌, subst, arith}
use Rattle.query.specs.Data.{Data, unit, num, truth, text, bag, rec, left, right, Datas, none, more}
use Rattle.query.specs.Query.{Got, failed, on_num, sum_all, word}
use Rattle.values.specs.Memory.{Used, Holds, loaded}
use Rattle.values.specs.Making.{BagLies}
use Rattle.values.specs.declared.value.Place.{Place}
use Rattle.values.specs.declared.value.Value.{Value}
use Rattle.values.specs.declared.value.Value.TheVariants.{Number}
use Rattle.bags.specs.Things.{rest}
use Rattle.bags.specs.Bags.{Sums}
use Rattle.bags.proofs.Things.{thing_at, rest_all}

-- what is done with a sum is asked only of numbers that fit a word
pub sum_alike : (ds : Datas) (f g : ℕ → Got) → ((n : ℕ) → n < word → f n ≡ g n) → sum_all ds f ≡ sum_all ds g
unfolding sum_all on_num
sum_alike none f g e = e 0 (omega arith)
sum_alike (more unit ds) f g e = refl
sum_alike (more (num n) ds) f g e = sum_alike ds (λ m. f ((n + m) % word)) (λ m. g ((n + m) % word)) (λ m l. e ((n + m) % word) (omega arith))
sum_alike (more (truth b) ds) f g e = refl
sum_alike (more (text t) ds) f g e = refl
sum_alike (more (bag es) ds) f g e = refl
sum_alike (more (rec fs) ds) f g e = refl
sum_alike (more (left d) ds) f g e = refl
sum_alike (more (right d) ds) f g e = refl

-- so much was summed, and the rest is to come
pub record Summed (p : Place) (m : List ℕ) (i total : ℕ) : Type 0 where
  pub small : total < word
  pub so_far : (bs : List ℕ) (u : Used) (ds : Datas) (top : ℕ) → BagLies bs m p ds u top → (f : ℕ → Got) → sum_all ds f ≡ sum_all (rest i ds) (λ n. f ((total + n) % word))

pub sum_begins : (p : Place) (m : List ℕ) → Summed p m 0 0
unfolding rest
sum_begins p m = record { small = omega arith; so_far = λ bs u ds top b f. sum_alike ds f (λ n. f ((0 + n) % word)) (λ n l. ap f (let e : n ≡ (0 + n) % word = omega arith in e)) }

-- a thing that is a number, or none
on_number : (d : Data) (ds : Datas) (bs m : List ℕ) (u : Used) (n : ℕ) (f : ℕ → Got) → Holds bs m u d (Number n) → sum_all (more d ds) f ≡ sum_all ds (λ x. f ((n + x) % word))
unfolding sum_all on_num Holds
on_number unit ds bs m u n f h = absurd (let z : ◌≡◌ {A = ℕ} 0 1 = cc in let y : ⊥ = omega arith in y)
on_number (num k) ds bs m u n f h = let e : k ≡ n = cc in rw e refl
on_number (truth b) ds bs m u n f h = absurd (let z : ◌≡◌ {A = ℕ} 0 1 = cc in let y : ⊥ = omega arith in y)
on_number (text t) ds bs m u n f h = absurd (let z : ◌≡◌ {A = ℕ} 0 1 = cc h.1 in let y : ⊥ = omega arith in y)
on_number (bag es) ds bs m u n f h = absurd (let z : ◌≡◌ {A = ℕ} 0 1 = cc h.1 in let y : ⊥ = omega arith in y)
on_number (rec fs) ds bs m u n f h = absurd (let z : ◌≡◌ {A = ℕ} 0 1 = cc h.1 in let y : ⊥ = omega arith in y)
on_number (left d) ds bs m u n f h = absurd (let z : ◌≡◌ {A = ℕ} 0 1 = cc h.1 in let y : ⊥ = omega arith in y)
on_number (right d) ds bs m u n f h = absurd (let z : ◌≡◌ {A = ℕ} 0 1 = cc h.1 in let y : ⊥ = omega arith in y)

no_number : (d : Data) (ds : Datas) (bs m : List ℕ) (u : Used) (v : Value) (f : ℕ → Got) → ((n : ℕ) → v ≡ Number n → ⊥) → Holds bs m u d v → sum_all (more d ds) f ≡ failed 0
unfolding sum_all on_num Holds
no_number unit ds bs m u v f e h = refl
no_number (num k) ds bs m u v f e h = absurd (e k h)
no_number (truth b) ds bs m u v f e h = refl
no_number (text t) ds bs m u v f e h = refl
no_number (bag es) ds bs m u v f e h = refl
no_number (rec fs) ds bs m u v f e h = refl
no_number (left d) ds bs m u v f e h = refl
no_number (right d) ds bs m u v f e h = refl

module _ (p : Place) (m : List ℕ) (i total : ℕ) (s : Summed p m i total) where
  pub sum_more : (n : ℕ) → i < p.count → loaded m (p.start + 3 * i) ≡ Number n → Summed p m (i + 1) ((total + n) % word)
  sum_more n lt v =
      record {
        small = omega arith;
        so_far = λ bs u ds top b f.
            let q = thing_at bs m u ds p.start p.count i b.lie lt in
            let h : Holds bs m u q.0 (Number n) = subst (λ x. Holds bs m u q.0 x) v q.2 in
            s.so_far bs u ds top b f
            ∙ ap (λ es. sum_all es (λ x. f ((total + x) % word))) q.1
            ∙ on_number q.0 (rest (i + 1) ds) bs m u n (λ x. f ((total + x) % word)) h
            ∙ sum_alike (rest (i + 1) ds) (λ x. f ((total + (n + x) % word) % word)) (λ x. f (((total + n) % word + x) % word)) (λ x l. ap f (let e : (total + (n + x) % word) % word ≡ ((total + n) % word + x) % word = omega arith in e));
      }

  pub sum_stops : (v : Value) → i < p.count → loaded m (p.start + 3 * i) ≡ v → ((n : ℕ) → v ≡ Number n → ⊥) → Sums p m None
  sum_stops v lt e no-num =
      record {
        means = λ bs u ds top b f.
            let q = thing_at bs m u ds p.start p.count i b.lie lt in
            let h : Holds bs m u q.0 v = subst (λ x. Holds bs m u q.0 x) e q.2 in
            s.so_far bs u ds top b f
            ∙ ap (λ es. sum_all es (λ x. f ((total + x) % word))) q.1
            ∙ no_number q.0 (rest (i + 1) ds) bs m u v (λ x. f ((total + x) % word)) no-num h;
      }

  pub sum_ends : i ≡ p.count → Sums p m (Some total)
  unfolding sum_all
  sum_ends e =
      record {
        means = λ bs u ds top b f.
            let z : rest i ds ≡ none = ap (λ x. rest x ds) e ∙ rest_all bs m u ds p.start p.count b.lie in
            let w : (total + 0) % word ≡ total = omega (arith, s.small) in
            s.so_far bs u ds top b f ∙ ap (λ es. sum_all es (λ x. f ((total + x) % word))) z ∙ ap f w;
      }
