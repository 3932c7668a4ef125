-- What comes of bags.
use Rattle.std.proofs.Common.{◌≡◌, ℕ, zero, suc, ◌+◌, ◌-◌, ◌*◌, ◌%◌, ◌<◌, ◌≤◌, List, [], length, Some, None, Ok, Err, Result, sym, refl, ap, ◌∙◌, subst, arith}
use Rattle.query.specs.Data.{Data, num, bag, Datas, none, more, how_many, once}
use Rattle.query.specs.Query.{Op1, in_bag, flat, count, sum, distinct, Got, came, failed, adding, on_bag, apply1, flat_all, sum_all, word}
use Rattle.values.specs.Memory.{Used, Holds, Kept, Readable}
use Rattle.values.specs.Height.{height, height_all}
use Rattle.values.specs.Making.{BagLies}
use Rattle.values.specs.declared.value.Place.{Place}
use Rattle.values.specs.declared.value.Value.{Value}
use Rattle.values.specs.declared.value.Value.TheVariants.{Number}
use Rattle.values.specs.Made.{Made}
use Rattle.values.proofs.Frame.{kept_refl}
use Rattle.bags.specs.Things.{joined_all}
use Rattle.bags.specs.Bags.{ABag, PutsInBag, Sums, Counts, Flattens, TakesOnce}
use Rattle.bags.specs.declared.flat.Flattened.{Flattened}
use Rattle.bags.specs.declared.flat.NotFlat.TheVariants as not
use Rattle.bags.proofs.Things.{as_many, bag_readable}
use Rattle.bags.proofs.Flattening.{flat_joins, flat_fails}
use Rattle.operators.specs.Kinds.{as_bag}
use Rattle.operators.specs.Means.{Means}
use Rattle.operators.specs.Came.{Came}
use Rattle.operators.specs.declared.came.Stop.{Stop}
use Rattle.operators.specs.declared.came.Stop.TheVariants.{Tired, NoRoom, Wrong}
use Rattle.operators.proofs.OfKind.{is_bag, no_bag}
use Rattle.operators.proofs.Pays.{pay_more}
use Rattle.unary.specs.Unary.{Lies, Turns, TurnsOnce}
use Rattle.unary.proofs.Paying.{slots_paid, stopped_wrong, made_here, is_here, lacks_room}

-- one value in a bag
module _ (v : Value) (m : List ℕ) (top budget : ℕ) (n : List ℕ) where
  pub bagged_turns : (r : Made) → PutsInBag v m top n (Some r) → Turns (apply1 in_bag) v m top budget n (Ok (record { value = r.value; top = r.top; left = budget }))
  unfolding apply1
  bagged_turns r p = record {
    kept = p.kept;
    means = λ bs rate u d g.
        made_here bs rate (adding 1 (came 0 (bag (more d none)))) (bag (more d none)) (1 + budget) u top n 3 budget r refl refl (omega (arith, g.dear)) (p.means bs u d g.holds g.low);
  }

  pub bagged_short : PutsInBag v m top n None → Turns (apply1 in_bag) v m top budget n (Err NoRoom)
  unfolding apply1
  bagged_short p = record {
    kept = p.kept;
    means = λ bs rate u d g.
        lacks_room bs rate (adding 1 (came 0 (bag (more d none)))) (bag (more d none)) (1 + budget) u top n 3 (omega arith) (omega (arith, g.dear)) (p.means bs u d g.holds g.low);
  }

-- the operators by what they do with a bag's things

abbrev one_bag : Datas → Got
one_bag xs = adding (how_many xs) (came 0 (bag xs))

flat_on : (d : Data) → apply1 flat d ≡ on_bag d (λ ds. adding (how_many ds) (flat_all ds one_bag))
unfolding apply1
flat_on d = refl

count_on : (d : Data) → apply1 count d ≡ on_bag d (λ ds. adding (how_many ds) (came 0 (num (how_many ds % word))))
unfolding apply1
count_on d = refl

sum_on : (d : Data) → apply1 sum d ≡ on_bag d (λ ds. adding (how_many ds) (sum_all ds (λ n. came 0 (num n))))
unfolding apply1
sum_on d = refl

distinct_on : (d : Data) → apply1 distinct d ≡ on_bag d (λ ds. adding (how_many ds * how_many ds) (came 0 (bag (once ds))))
unfolding apply1
distinct_on d = refl

of_bag : (o : Op1) (f : Datas → Got) → ((d : Data) → apply1 o d ≡ on_bag d f) → (ds : Datas) → apply1 o (bag ds) ≡ f ds
unfolding on_bag
of_bag o f e ds = e (bag ds)

-- it is no bag
module _ (v : Value) (m : List ℕ) (top budget : ℕ) (s : Stop) (e : as_bag v ≡ Err s) where
  no_bag_turns : (o : Op1) (f : Datas → Got) → ((d : Data) → apply1 o d ≡ on_bag d f) → Turns (apply1 o) v m top budget m (Err s)
  no_bag_turns o f fits = record {
    kept = kept_refl;
    means = λ bs rate u d g.
        let k = no_bag bs m u d v f s g.holds e in
        stopped_wrong rate (adding 1 (apply1 o d)) (1 + budget) top (length m) s k.0 (ap (λ (x : Got). x.is) (fits d) ∙ k.1);
  }

  pub flat_no_bag : Turns (apply1 flat) v m top budget m (Err s)
  flat_no_bag = no_bag_turns flat (λ ds. adding (how_many ds) (flat_all ds one_bag)) flat_on

  pub count_no_bag : Turns (apply1 count) v m top budget m (Err s)
  count_no_bag = no_bag_turns count (λ ds. adding (how_many ds) (came 0 (num (how_many ds % word)))) count_on

  pub sum_no_bag : Turns (apply1 sum) v m top budget m (Err s)
  sum_no_bag = no_bag_turns sum (λ ds. adding (how_many ds) (sum_all ds (λ n. came 0 (num n)))) sum_on

  pub once_no_bag : (bs : List ℕ) (deep : ℕ) → TurnsOnce bs deep v m top budget m (Err s)
  once_no_bag bs deep = let t = no_bag_turns distinct (λ ds. adding (how_many ds * how_many ds) (came 0 (bag (once ds)))) distinct_on in record { kept = t.kept; means = λ rate u d g h. t.means bs rate u d g }

-- it is a bag
module _ (v : Value) (m : List ℕ) (top budget : ℕ) (p : Place) (e : as_bag v ≡ Ok p) where
  abbrev pub bag_there : (l : Lies v m top) → ABag p m top
  bag_there l =
      let q = is_bag l.bytes m l.used l.datum v p l.holds e in
      record { bytes = l.bytes; used = l.used; things = q.0; lies = record { run = q.2; lie = q.3; low = l.low; room = l.room } }

  pub bag_reads : Lies v m top → Readable p top
  bag_reads l = bag_readable (bag_there l).lies

  bag_turns : (o : Op1) (n : List ℕ) (r : Result Came Stop) → Kept top m n →
      ((bs : List ℕ) (rate : ℕ) (u : Used) (ds : Datas) → 3 ≤ rate → BagLies bs m p ds u top → how_many ds ≡ p.count → Means bs rate (adding 1 (apply1 o (bag ds))) (1 + budget) u top n r) → Turns (apply1 o) v m top budget n r
  bag_turns o n r k f = record {
    kept = k;
    means = λ bs rate u d g.
        let q = is_bag bs m u d v p g.holds e in
        subst (λ x. Means bs rate (adding 1 (apply1 o x)) (1 + budget) u top n r) (sym q.1)
        (f bs rate u q.0 g.dear (record { run = q.2; lie = q.3; low = g.low; room = g.room }) (as_many bs m u q.0 p.start p.count q.3));
  }

  -- there are more things than can be paid for
  bag_tired : (o : Op1) (h : Datas → Got) → ((ds : Datas) → apply1 o (bag ds) ≡ adding (how_many ds) (h ds)) → budget < p.count → Turns (apply1 o) v m top budget m (Err Tired)
  bag_tired o h fits lt = bag_turns o m (Err Tired) kept_refl (λ bs rate u ds d b k c. omega (arith, ap (λ (x : Got). x.work) (fits ds)))

  pub flat_tired : budget < p.count → Turns (apply1 flat) v m top budget m (Err Tired)
  flat_tired = bag_tired flat (λ ds. flat_all ds one_bag) (of_bag flat (λ ds. adding (how_many ds) (flat_all ds one_bag)) flat_on)

  pub count_tired : budget < p.count → Turns (apply1 count) v m top budget m (Err Tired)
  count_tired = bag_tired count (λ ds. came 0 (num (how_many ds % word))) (of_bag count (λ ds. adding (how_many ds) (came 0 (num (how_many ds % word)))) count_on)

  pub sum_tired : budget < p.count → Turns (apply1 sum) v m top budget m (Err Tired)
  sum_tired = bag_tired sum (λ ds. sum_all ds (λ n. came 0 (num n))) (of_bag sum (λ ds. adding (how_many ds) (sum_all ds (λ n. came 0 (num n)))) sum_on)

  -- how many
  pub count_turns : p.count ≤ budget → p.count % word ≡ p.count → Turns (apply1 count) v m top budget m (Ok (record { value = Number p.count; top = top; left = budget - p.count }))
  unfolding apply1 on_bag Holds
  count_turns l w = bag_turns count m (Ok (record { value = Number p.count; top = top; left = budget - p.count })) kept_refl (λ bs rate u ds d b k.
      is_here bs rate (adding 1 (apply1 count (bag ds))) (num (how_many ds % word)) (1 + budget) u top m (budget - p.count) (Number p.count) refl (omega arith) b.room (ap Number (sym (ap (λ (x : ℕ). x % word) k ∙ w))))

  -- their sum
  pub sum_turns : (x : ℕ) → p.count ≤ budget → Sums p m (Some x) → Turns (apply1 sum) v m top budget m (Ok (record { value = Number x; top = top; left = budget - p.count }))
  unfolding Holds
  sum_turns x l s = bag_turns sum m (Ok (record { value = Number x; top = top; left = budget - p.count })) kept_refl (λ bs rate u ds d b k.
      let f : apply1 sum (bag ds) ≡ adding (how_many ds) (came 0 (num x)) = of_bag sum (λ ds. adding (how_many ds) (sum_all ds (λ n. came 0 (num n)))) sum_on ds ∙ ap (λ (y : Got). adding (how_many ds) y) (s.means bs u ds top b (λ n. came 0 (num n))) in
      subst (λ y. Means bs rate (adding 1 y) (1 + budget) u top m (Ok (record { value = Number x; top = top; left = budget - p.count }))) (sym f)
      (is_here bs rate (adding 1 (adding (how_many ds) (came 0 (num x)))) (num x) (1 + budget) u top m (budget - p.count) (Number x) refl (omega arith) b.room refl))

  pub sum_wrong : Sums p m None → Turns (apply1 sum) v m top budget m (Err Wrong)
  sum_wrong s = bag_turns sum m (Err Wrong) kept_refl (λ bs rate u ds d b k.
      ap (λ (x : Got). x.is) (of_bag sum (λ ds. adding (how_many ds) (sum_all ds (λ n. came 0 (num n)))) sum_on ds ∙ ap (λ (y : Got). adding (how_many ds) y) (s.means bs u ds top b (λ n. came 0 (num n)))))

  -- what its bags hold
  flat_is : (ds xs : Datas) → flat_all ds one_bag ≡ one_bag xs → apply1 flat (bag ds) ≡ adding (how_many ds) (one_bag xs)
  flat_is ds xs f = of_bag flat (λ ds. adding (how_many ds) (flat_all ds one_bag)) flat_on ds ∙ ap (λ (y : Got). adding (how_many ds) y) f

  flat_none : (ds : Datas) → flat_all ds one_bag ≡ failed 0 → (apply1 flat (bag ds)).is ≡ []
  flat_none ds f = ap (λ (x : Got). x.is) (of_bag flat (λ ds. adding (how_many ds) (flat_all ds one_bag)) flat_on ds ∙ ap (λ (y : Got). adding (how_many ds) y) f)

  pub flat_no_bags : Counts p m None → Turns (apply1 flat) v m top budget m (Err Wrong)
  flat_no_bags c = bag_turns flat m (Err Wrong) kept_refl (λ bs rate u ds d b k. flat_none ds (flat_fails ds one_bag (c.means bs u ds top b)))

  module _ (out : ℕ) (c : Counts p m (Some out)) where
    pub flat_too_many : p.count ≤ budget → budget - p.count < out → Turns (apply1 flat) v m top budget m (Err Tired)
    flat_too_many l lt = bag_turns flat m (Err Tired) kept_refl (λ bs rate u ds d b k z.
        let q = c.means bs u ds top b in
        omega (arith, ap (λ (x : Got). x.work) (flat_is ds (joined_all ds) (flat_joins ds one_bag q.0)), q.1))

    -- as many come as were counted
    out_many : (bs : List ℕ) (u : Used) (ds xs : Datas) → BagLies bs m p ds u top → flat_all ds one_bag ≡ one_bag xs → out ≡ how_many xs
    out_many bs u ds xs b f =
        let q = c.means bs u ds top b in
        let z = ap (λ (x : Got). x.work) (sym (flat_joins ds one_bag q.0) ∙ f) in
        omega (arith, z, q.1)

    module _ (n : List ℕ) (l : p.count ≤ budget) (l2 : out ≤ budget - p.count) where
      pub flat_turns : (end : ℕ) (f : Flattened) → Flattens p m top n end (Ok f) → Turns (apply1 flat) v m top budget n (Ok (record { value = f.bag; top = end; left = budget - p.count - out }))
      flat_turns end f t = bag_turns flat n (Ok (record { value = f.bag; top = end; left = budget - p.count - out })) t.kept (λ bs rate u ds d b k.
          let q = t.means bs u ds b in
          let g : flat_all ds one_bag ≡ one_bag q.0 = q.1.flat one_bag in
          let o : out ≡ how_many q.0 = out_many bs u ds q.0 b g in
          subst (λ y. Means bs rate (adding 1 y) (1 + budget) u top n (Ok (record { value = f.bag; top = end; left = budget - p.count - out }))) (sym (flat_is ds q.0 g))
          (made_here bs rate (adding 1 (adding (how_many ds) (one_bag q.0))) (bag q.0) (1 + budget) u top n (3 * how_many q.0) (budget - p.count - out) (record { value = f.bag; top = end }) refl (omega arith)
          (slots_paid rate (1 + (how_many ds + (how_many q.0 + 0))) (how_many q.0) d (omega arith)) q.2))

      pub flat_short : (end j : ℕ) → Flattens p m top n end (Err (not.NoRoom j)) → Turns (apply1 flat) v m top budget n (Err NoRoom)
      flat_short end j t = bag_turns flat n (Err NoRoom) t.kept (λ bs rate u ds d b k.
          let q = t.means bs u ds b in
          let f : flat_all ds one_bag ≡ one_bag q.0 = q.1.flat one_bag in
          let o : out ≡ how_many q.0 = out_many bs u ds q.0 b f in
          subst (λ y. Means bs rate (adding 1 y) (1 + budget) u top n (Err NoRoom)) (sym (flat_is ds q.0 f))
          (lacks_room bs rate (adding 1 (adding (how_many ds) (one_bag q.0))) (bag q.0) (1 + budget) u top n (3 * how_many q.0) (omega arith)
          (slots_paid rate (1 + (how_many ds + (how_many q.0 + 0))) (how_many q.0) d (omega arith)) q.2))

      pub flat_wrong : (end : ℕ) → Flattens p m top n end (Err not.NoBag) → Turns (apply1 flat) v m top budget n (Err Wrong)
      flat_wrong end t = bag_turns flat n (Err Wrong) t.kept (λ bs rate u ds d b k. flat_none ds (t.means bs u ds b one_bag))

  -- each of its things once
  module _ (bs : List ℕ) (deep : ℕ) where
    once_case : (n : List ℕ) (r : Result Came Stop) → Kept top m n →
        ((rate : ℕ) (u : Used) (ds : Datas) → 3 ≤ rate → BagLies bs m p ds u top → how_many ds ≡ p.count → height_all ds ≤ deep → Means bs rate (adding 1 (apply1 distinct (bag ds))) (1 + budget) u top n r) → TurnsOnce bs deep v m top budget n r
    unfolding height
    once_case n r k f = record {
      kept = k;
      means = λ rate u d g h.
          let q = is_bag bs m u d v p g.holds e in
          let low : height (bag q.0) ≤ deep = subst (λ x. height x ≤ deep) q.1 h in
          subst (λ x. Means bs rate (adding 1 (apply1 distinct x)) (1 + budget) u top n r) (sym q.1)
          (f rate u q.0 g.dear (record { run = q.2; lie = q.3; low = g.low; room = g.room }) (as_many bs m u q.0 p.start p.count q.3) (omega (arith, low)));
    }

    squares : (ds : Datas) → how_many ds ≡ p.count → how_many ds * how_many ds ≡ p.count * p.count
    squares ds k = ap (λ (x : ℕ). x * x) k

    once_tired_is : (ds : Datas) → apply1 distinct (bag ds) ≡ adding (how_many ds * how_many ds) (came 0 (bag (once ds)))
    once_tired_is ds = of_bag distinct (λ ds. adding (how_many ds * how_many ds) (came 0 (bag (once ds)))) distinct_on ds

    pub once_tired : budget < p.count * p.count → TurnsOnce bs deep v m top budget m (Err Tired)
    once_tired lt = once_case m (Err Tired) kept_refl (λ rate u ds d b k h c. omega (arith, ap (λ (x : Got). x.work) (once_tired_is ds), squares ds k))

    few_squared : (k : ℕ) → k ≤ 1 + (k * k + 0)
    few_squared zero = omega arith
    few_squared (suc k) = omega (arith, pay_more (suc k) 1 (suc k) (omega arith))

    pub once_turns : (n : List ℕ) (r : Made) → p.count * p.count ≤ budget → TakesOnce bs p m deep top n (Some r) → TurnsOnce bs deep v m top budget n (Ok (record { value = r.value; top = r.top; left = budget - p.count * p.count }))
    once_turns n r l t = once_case n (Ok (record { value = r.value; top = r.top; left = budget - p.count * p.count })) t.kept (λ rate u ds d b k h.
        subst (λ y. Means bs rate (adding 1 y) (1 + budget) u top n (Ok (record { value = r.value; top = r.top; left = budget - p.count * p.count }))) (sym (once_tired_is ds))
        (made_here bs rate (adding 1 (adding (how_many ds * how_many ds) (came 0 (bag (once ds))))) (bag (once ds)) (1 + budget) u top n (3 * how_many ds) (budget - p.count * p.count) r refl (omega (arith, squares ds k))
        (slots_paid rate (1 + (how_many ds * how_many ds + 0)) (how_many ds) d (few_squared (how_many ds))) (t.means u ds b h)))

    pub once_short : (n : List ℕ) → p.count * p.count ≤ budget → TakesOnce bs p m deep top n None → TurnsOnce bs deep v m top budget n (Err NoRoom)
    once_short n l t = once_case n (Err NoRoom) t.kept (λ rate u ds d b k h.
        subst (λ y. Means bs rate (adding 1 y) (1 + budget) u top n (Err NoRoom)) (sym (once_tired_is ds))
        (lacks_room bs rate (adding 1 (adding (how_many ds * how_many ds) (came 0 (bag (once ds))))) (bag (once ds)) (1 + budget) u top n (3 * how_many ds) (omega (arith, squares ds k))
        (slots_paid rate (1 + (how_many ds * how_many ds + 0)) (how_many ds) d (few_squared (how_many ds))) (t.means u ds b h)))
