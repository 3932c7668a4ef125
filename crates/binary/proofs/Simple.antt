-- Operators that make no memory.
use Rattle.std.proofs.Common.{◌≡◌, ℕ, ◌+◌, ◌%◌, ◌≤◌, Bool, ◌&&◌, ◌||◌, ltb, List, [], length, Ok, Err, Result, sym, refl, ap, ◌∙◌, subst, arith}
use Rattle.query.specs.Data.{Data, num, truth, same}
use Rattle.query.specs.Query.{Got, came, adding, on_num, on_truth, apply2, word}
use Rattle.format.specs.Nodes.{op_2}
use Rattle.format.specs.declared.node.Binary.{Binary}
use Rattle.format.specs.declared.node.Binary.TheVariants.{Equal, And, Or, Plus, Less}
use Rattle.values.specs.Memory.{Used, Under, Holds}
use Rattle.values.specs.Height.{height}
use Rattle.values.specs.declared.value.Value.{Value}
use Rattle.values.specs.declared.value.Value.TheVariants.{Number, Truth}
use Rattle.values.proofs.Frame.{kept_refl}
use Rattle.compare.specs.Compare.{Matches}
use Rattle.bounds.proofs.Heights.{no_deeper}
use Rattle.operators.specs.Kinds.{as_number, as_truth}
use Rattle.operators.specs.Means.{Stopped, Means}
use Rattle.operators.specs.Came.{Came}
use Rattle.operators.specs.declared.came.Stop.{Stop}
use Rattle.operators.specs.declared.came.Stop.TheVariants.{Wrong}
use Rattle.operators.proofs.OfKind.{is_number, no_number, is_truth, no_truth}
use Rattle.operators.proofs.Steps.{means_adding, at_hand}
use Rattle.binary.specs.Operands.{Operands, Does, DoesAnywhere}

pub wrong_stop : (p : ℕ) (g : Got) (b old end : ℕ) (s : Stop) → (Wrong ≡ s) × (g.is ≡ []) → Stopped p g b old end s
wrong_stop p g b old end s h = subst (λ z. Stopped p g b old end z) h.0 h.1

pub under_all : {u : Used} {top : ℕ} (m : List ℕ) → Under u top → top ≤ length m → Under u (length m)
under_all m low room = record { low = λ k t. omega (arith, low.low k t) }

pub first_shallow : {o : Binary} {bs : List ℕ} {deep : ℕ} {a b : Value} {m : List ℕ} {top : ℕ} (g : Operands o bs deep a b m top) → height g.first ≤ deep
first_shallow g = omega (arith, no_deeper g.first g.of_1 g.is_1, g.fine_1.shallow)

pub equal_does : (bs : List ℕ) (deep : ℕ) (a b : Value) (m : List ℕ) (top left : ℕ) (t : Bool) → Matches bs m a b deep t → Does Equal bs deep a b m top left m (Ok (record { value = Truth t; top = top; left = left }))
unfolding apply2 Holds
equal_does bs deep a b m top left t s = record {
  kept = kept_refl;
  means = λ g.
      means_adding bs g.rate 1 left (came 0 (truth (same g.first g.second))) g.used top m (Ok (record { value = Truth t; top = top; left = left }))
      (at_hand bs g.rate m g.used top left (truth (same g.first g.second)) (Truth t) g.room
      (ap Truth (s.is g.first g.second g.used g.holds_1 g.holds_2 (under_all m g.low g.room) (first_shallow g))));
}

-- what is done with two values of a kind
module _ {A : Type 0} (kind : Value → Result A Stop) (on : Data → (A → Got) → Got) (con : A → Data)
    (is : (bs m : List ℕ) (u : Used) (d : Data) (v : Value) (x : A) → Holds bs m u d v → kind v ≡ Ok x → d ≡ con x)
    (not-one : (bs m : List ℕ) (u : Used) (d : Data) (v : Value) (f : A → Got) (s : Stop) → Holds bs m u d v → kind v ≡ Err s → (Wrong ≡ s) × ((on d f).is ≡ []))
    (on-con : (x : A) (f : A → Got) → on (con x) f ≡ f x)
    (o : Binary) (f : A → A → Data) (fits : (d e : Data) → apply2 (op_2 o) d e ≡ on d (λ x. on e (λ y. came 0 (f x y))))
    (a b : Value) (top left : ℕ) where
  from_kind : (bs : List ℕ) (deep : ℕ) (m : List ℕ) (r : Result Came Stop) (g : Operands o bs deep a b m top) →
      Means bs g.rate (on g.first (λ x. on g.second (λ y. came 0 (f x y)))) left g.used top m r → Means bs g.rate (adding 1 (apply2 (op_2 o) g.first g.second)) (1 + left) g.used top m r
  from_kind bs deep m r g h =
      means_adding bs g.rate 1 left (apply2 (op_2 o) g.first g.second) g.used top m r
      (subst (λ z. Means bs g.rate z left g.used top m r) (sym (fits g.first g.second)) h)

  first_none : (s : Stop) → kind a ≡ Err s → DoesAnywhere o a b top left (Err s)
  first_none s e = record { does = λ bs deep m. record { kept = kept_refl; means = λ g. from_kind bs deep m (Err s) g (wrong_stop g.rate _ left top (length m) s (not-one bs m g.used g.first a _ s g.holds_1 e)) } }

  second_none : (x : A) (s : Stop) → kind a ≡ Ok x → kind b ≡ Err s → DoesAnywhere o a b top left (Err s)
  second_none x s e e' = record {
    does = λ bs deep m. record {
      kept = kept_refl;
      means = λ g.
          from_kind bs deep m (Err s) g
          (subst (λ z. Means bs g.rate z left g.used top m (Err s))
          (sym (ap (λ d. on d (λ x. on g.second (λ y. came 0 (f x y)))) (is bs m g.used g.first a x g.holds_1 e) ∙ on-con x (λ x. on g.second (λ y. came 0 (f x y)))))
          (wrong_stop g.rate (on g.second (λ y. came 0 (f x y))) left top (length m) s (not-one bs m g.used g.second b (λ y. came 0 (f x y)) s g.holds_2 e')));
    };
  }

  both_come : (x y : A) (v : Value) → kind a ≡ Ok x → kind b ≡ Ok y → ((bs m : List ℕ) (u : Used) → Holds bs m u (f x y) v) → DoesAnywhere o a b top left (Ok (record { value = v; top = top; left = left }))
  both_come x y v e e' hold = record {
    does = λ bs deep m. record {
      kept = kept_refl;
      means = λ g.
          let r : Result Came Stop = Ok (record { value = v; top = top; left = left }) in
          from_kind bs deep m r g
          (subst (λ z. Means bs g.rate z left g.used top m r)
          (sym (ap (λ d. on d (λ x. on g.second (λ y. came 0 (f x y)))) (is bs m g.used g.first a x g.holds_1 e) ∙ on-con x (λ x. on g.second (λ y. came 0 (f x y)))
          ∙ ap (λ d. on d (λ y. came 0 (f x y))) (is bs m g.used g.second b y g.holds_2 e') ∙ on-con y (λ y. came 0 (f x y))))
          (at_hand bs g.rate m g.used top left (f x y) v g.room (hold bs m g.used)));
    };
  }

on_num_con : (x : ℕ) (f : ℕ → Got) → on_num (num x) f ≡ f x
unfolding on_num
on_num_con x f = refl

on_truth_con : (x : Bool) (f : Bool → Got) → on_truth (truth x) f ≡ f x
unfolding on_truth
on_truth_con x f = refl

plus_fits : (d e : Data) → apply2 (op_2 Plus) d e ≡ on_num d (λ x. on_num e (λ y. came 0 (num ((x + y) % word))))
unfolding apply2
plus_fits d e = refl

less_fits : (d e : Data) → apply2 (op_2 Less) d e ≡ on_num d (λ x. on_num e (λ y. came 0 (truth (ltb x y))))
unfolding apply2
less_fits d e = refl

and_fits : (d e : Data) → apply2 (op_2 And) d e ≡ on_truth d (λ x. on_truth e (λ y. came 0 (truth (x && y))))
unfolding apply2
and_fits d e = refl

or_fits : (d e : Data) → apply2 (op_2 Or) d e ≡ on_truth d (λ x. on_truth e (λ y. came 0 (truth (x || y))))
unfolding apply2
or_fits d e = refl

module _ (a b : Value) (top left : ℕ) where
  pub plus_first : (s : Stop) → as_number a ≡ Err s → DoesAnywhere Plus a b top left (Err s)
  plus_first = first_none as_number on_num num is_number no_number on_num_con Plus (λ x y. num ((x + y) % word)) plus_fits a b top left

  pub plus_second : (x : ℕ) (s : Stop) → as_number a ≡ Ok x → as_number b ≡ Err s → DoesAnywhere Plus a b top left (Err s)
  plus_second = second_none as_number on_num num is_number no_number on_num_con Plus (λ x y. num ((x + y) % word)) plus_fits a b top left

  pub plus_comes : (x y : ℕ) → as_number a ≡ Ok x → as_number b ≡ Ok y → DoesAnywhere Plus a b top left (Ok (record { value = Number ((x + y) % word); top = top; left = left }))
  unfolding Holds
  plus_comes x y e e' = both_come as_number on_num num is_number no_number on_num_con Plus (λ x y. num ((x + y) % word)) plus_fits a b top left x y _ e e' (λ bs m u. refl)

  pub less_first : (s : Stop) → as_number a ≡ Err s → DoesAnywhere Less a b top left (Err s)
  less_first = first_none as_number on_num num is_number no_number on_num_con Less (λ x y. truth (ltb x y)) less_fits a b top left

  pub less_second : (x : ℕ) (s : Stop) → as_number a ≡ Ok x → as_number b ≡ Err s → DoesAnywhere Less a b top left (Err s)
  less_second = second_none as_number on_num num is_number no_number on_num_con Less (λ x y. truth (ltb x y)) less_fits a b top left

  pub less_comes : (x y : ℕ) → as_number a ≡ Ok x → as_number b ≡ Ok y → DoesAnywhere Less a b top left (Ok (record { value = Truth (ltb x y); top = top; left = left }))
  unfolding Holds
  less_comes x y e e' = both_come as_number on_num num is_number no_number on_num_con Less (λ x y. truth (ltb x y)) less_fits a b top left x y _ e e' (λ bs m u. refl)

  pub and_first : (s : Stop) → as_truth a ≡ Err s → DoesAnywhere And a b top left (Err s)
  and_first = first_none as_truth on_truth truth is_truth no_truth on_truth_con And (λ x y. truth (x && y)) and_fits a b top left

  pub and_second : (x : Bool) (s : Stop) → as_truth a ≡ Ok x → as_truth b ≡ Err s → DoesAnywhere And a b top left (Err s)
  and_second = second_none as_truth on_truth truth is_truth no_truth on_truth_con And (λ x y. truth (x && y)) and_fits a b top left

  pub and_comes : (x y t : Bool) → as_truth a ≡ Ok x → as_truth b ≡ Ok y → t ≡ (x && y) → DoesAnywhere And a b top left (Ok (record { value = Truth t; top = top; left = left }))
  unfolding Holds
  and_comes x y t e e' z = both_come as_truth on_truth truth is_truth no_truth on_truth_con And (λ x y. truth (x && y)) and_fits a b top left x y _ e e' (λ bs m u. ap Truth z)

  pub or_first : (s : Stop) → as_truth a ≡ Err s → DoesAnywhere Or a b top left (Err s)
  or_first = first_none as_truth on_truth truth is_truth no_truth on_truth_con Or (λ x y. truth (x || y)) or_fits a b top left

  pub or_second : (x : Bool) (s : Stop) → as_truth a ≡ Ok x → as_truth b ≡ Err s → DoesAnywhere Or a b top left (Err s)
  or_second = second_none as_truth on_truth truth is_truth no_truth on_truth_con Or (λ x y. truth (x || y)) or_fits a b top left

  pub or_comes : (x y t : Bool) → as_truth a ≡ Ok x → as_truth b ≡ Ok y → t ≡ (x || y) → DoesAnywhere Or a b top left (Ok (record { value = Truth t; top = top; left = left }))
  unfolding Holds
  or_comes x y t e e' z = both_come as_truth on_truth truth is_truth no_truth on_truth_con Or (λ x y. truth (x || y)) or_fits a b top left x y _ e e' (λ bs m u. ap Truth z)
