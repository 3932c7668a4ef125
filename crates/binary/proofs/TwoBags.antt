-- Two bags in one, and whether a datum is in a bag.
use Rattle.std.proofs.Common.{◌≡◌, ℕ, ◌+◌, ◌-◌, ◌*◌, ◌<◌, ◌≤◌, Bool, List, [], ◌∷◌, length, Some, None, Ok, Err, Result, sym, refl, ap, ◌∙◌, subst, mul-le-mul_right, arith}
use Rattle.query.specs.Data.{Data, truth, bag, Datas, join, how_many, is_in}
use Rattle.query.specs.Query.{Got, came, adding, on_bag, apply2, join_bags, within}
use Rattle.format.specs.declared.node.Binary.TheVariants.{JoinBags, Within}
use Rattle.values.specs.Memory.{Used, Under, Holds, Readable}
use Rattle.values.specs.Making.{BagLies}
use Rattle.values.specs.declared.value.Place.{Place}
use Rattle.values.specs.declared.value.Value.{Value}
use Rattle.values.specs.declared.value.Value.TheVariants.{Truth}
use Rattle.values.specs.Made.{Made}
use Rattle.values.proofs.Frame.{kept_refl}
use Rattle.bags.specs.Bags.{Joins, IsWithin}
use Rattle.bags.proofs.Things.{as_many, join_many, bag_readable, few}
use Rattle.operators.specs.Kinds.{as_bag}
use Rattle.operators.specs.Means.{Means}
use Rattle.operators.specs.Came.{Came}
use Rattle.operators.specs.declared.came.Stop.{Stop}
use Rattle.operators.specs.declared.came.Stop.TheVariants.{Tired, NoRoom}
use Rattle.operators.proofs.OfKind.{is_bag, no_bag}
use Rattle.operators.proofs.Steps.{means_adding, means_paid, tired_first, made_paid, no_room_paid, at_hand}
use Rattle.binary.specs.Operands.{Operands, Does, DoesThere, SomeOperands}
use Rattle.binary.proofs.Simple.{wrong_stop, first_shallow}

-- a value that is a bag: its things, at its place
pub record LiesBag (bs m : List ℕ) (u : Used) (top : ℕ) (d : Data) (x : Place) : Type 0 where
  pub things : Datas
  pub is : d ≡ bag things
  pub lies : BagLies bs m x things u top
  pub many : how_many things ≡ x.count

pub a_bag : (bs m : List ℕ) (u : Used) (top : ℕ) (d : Data) (v : Value) (x : Place) → Holds bs m u d v → Under u top → top ≤ length m → as_bag v ≡ Ok x → LiesBag bs m u top d x
a_bag bs m u top d v x h low room e =
    let k = is_bag bs m u d v x h e in
    record { things = k.0; is = k.1; lies = record { run = k.2; lie = k.3; low = low; room = room }; many = as_many bs m u k.0 x.start x.count k.3 }

pub came_adding : (k : ℕ) (d : Data) → came k d ≡ adding k (came 0 d)
came_adding k d = let f : ℕ → Got = λ n. record { work = n; is = d ∷ [] } in let e : k ≡ k + 0 = omega arith in ap f e

on_bag_is : (d : Data) (ds : Datas) (f : Datas → Got) → d ≡ bag ds → on_bag d f ≡ f ds
unfolding on_bag
on_bag_is d ds f e = ap (λ x. on_bag x f) e

abbrev joining : Data → Data → Got
joining d e = on_bag d (λ ds. on_bag e (λ es. adding (how_many ds + how_many es) (came 0 (bag (join ds es)))))

join_fits : (d e : Data) → apply2 join_bags d e ≡ joining d e
unfolding apply2
join_fits d e = refl

module _ (a b : Value) (m : List ℕ) (top left : ℕ) where
  from_bags : (bs : List ℕ) (deep : ℕ) (n : List ℕ) (r : Result Came Stop) (g : Operands JoinBags bs deep a b m top) →
      Means bs g.rate (joining g.first g.second) left g.used top n r → Means bs g.rate (adding 1 (apply2 join_bags g.first g.second)) (1 + left) g.used top n r
  from_bags bs deep n r g h =
      means_adding bs g.rate 1 left (apply2 join_bags g.first g.second) g.used top n r
      (subst (λ z. Means bs g.rate z left g.used top n r) (sym (join_fits g.first g.second)) h)

  pub join_first : (s : Stop) → as_bag a ≡ Err s → DoesThere JoinBags a b m top left m (Err s)
  join_first s e = record { does = λ bs deep. record { kept = kept_refl; means = λ g. from_bags bs deep m (Err s) g (wrong_stop g.rate _ left top (length m) s (no_bag bs m g.used g.first a _ s g.holds_1 e)) } }

  pub first_bag : {bs : List ℕ} {deep : ℕ} (x : Place) → as_bag a ≡ Ok x → (g : Operands JoinBags bs deep a b m top) → LiesBag bs m g.used top g.first x
  first_bag {bs} x e g = a_bag bs m g.used top g.first a x g.holds_1 g.low g.room e

  pub second_bag : {bs : List ℕ} {deep : ℕ} (y : Place) → as_bag b ≡ Ok y → (g : Operands JoinBags bs deep a b m top) → LiesBag bs m g.used top g.second y
  second_bag {bs} y e g = a_bag bs m g.used top g.second b y g.holds_2 g.low g.room e

  pub join_second : (x : Place) (s : Stop) → as_bag a ≡ Ok x → as_bag b ≡ Err s → DoesThere JoinBags a b m top left m (Err s)
  join_second x s e e' = record {
    does = λ bs deep. record {
      kept = kept_refl;
      means = λ g.
          let k = first_bag x e g in
          from_bags bs deep m (Err s) g
          (subst (λ z. Means bs g.rate z left g.used top m (Err s)) (sym (on_bag_is g.first k.things _ k.is))
          (wrong_stop g.rate _ left top (length m) s (no_bag bs m g.used g.second b (λ es. adding (how_many k.things + how_many es) (came 0 (bag (join k.things es)))) s g.holds_2 e')));
    };
  }

  module _ (x y : Place) (e : as_bag a ≡ Ok x) (e' : as_bag b ≡ Ok y) where
    pub first_readable : SomeOperands JoinBags a b m top → Readable x top
    first_readable g = bag_readable (first_bag x e g.given).lies

    pub second_readable : SomeOperands JoinBags a b m top → Readable y top
    second_readable g = bag_readable (second_bag y e' g.given).lies

    pub count_small : SomeOperands JoinBags a b m top → 3 * x.count + 3 * y.count ≤ top + top
    count_small g = omega (arith, few x top (first_readable g), few y top (second_readable g))

    from_both : (bs : List ℕ) (deep : ℕ) (n : List ℕ) (r : Result Came Stop) (g : Operands JoinBags bs deep a b m top) →
        Means bs g.rate (adding (x.count + y.count) (came 0 (bag (join (first_bag x e g).things (second_bag y e' g).things)))) left g.used top n r →
        Means bs g.rate (adding 1 (apply2 join_bags g.first g.second)) (1 + left) g.used top n r
    from_both bs deep n r g h =
        let k = first_bag x e g in
        let l = second_bag y e' g in
        let z : how_many k.things + how_many l.things ≡ x.count + y.count = omega (arith, k.many, l.many) in
        from_bags bs deep n r g
        (subst (λ z. Means bs g.rate z left g.used top n r)
        (sym (on_bag_is g.first k.things _ k.is ∙ on_bag_is g.second l.things (λ es. adding (how_many k.things + how_many es) (came 0 (bag (join k.things es)))) l.is ∙ ap (λ w. adding w (came 0 (bag (join k.things l.things)))) z)) h)

    pub join_tired : left < x.count + y.count → DoesThere JoinBags a b m top left m (Err Tired)
    join_tired h = record { does = λ bs deep. record { kept = kept_refl; means = λ g. from_both bs deep m (Err Tired) g (tired_first bs g.rate (x.count + y.count) left _ top (length m) h) } }

    -- the memory of two bags in one is paid for by how many things they hold
    dear_enough : (bs : List ℕ) (deep : ℕ) (g : Operands JoinBags bs deep a b m top) → 3 * how_many (join (first_bag x e g).things (second_bag y e' g).things) ≤ g.rate * (x.count + y.count)
    dear_enough bs deep g =
        let k = first_bag x e g in
        let l = second_bag y e' g in
        let d : 3 ≤ g.rate = omega (arith, g.dear) in
        omega (arith, mul-le-mul_right (x.count + y.count) d, join_many k.things l.things, k.many, l.many)

    pub join_came : (n : List ℕ) (r : Made) → x.count + y.count ≤ left → Joins x y m top n (Some r) → DoesThere JoinBags a b m top left n (Ok (record { value = r.value; top = r.top; left = left - (x.count + y.count) }))
    join_came n r enough j = record {
      does = λ bs deep. record {
        kept = j.kept;
        means = λ g.
            let k = first_bag x e g in
            let l = second_bag y e' g in
            let o : Result Came Stop = Ok (record { value = r.value; top = r.top; left = left - (x.count + y.count) }) in
            from_both bs deep n o g
            (subst (λ z. Means bs g.rate z left g.used top n o) (came_adding (x.count + y.count) (bag (join k.things l.things)))
            (made_paid bs g.rate (bag (join k.things l.things)) (x.count + y.count) left _ g.used top n r (dear_enough bs deep g) enough (j.means bs g.used k.things l.things k.lies l.lies)));
      };
    }

    pub join_no_room : (n : List ℕ) → x.count + y.count ≤ left → Joins x y m top n None → DoesThere JoinBags a b m top left n (Err NoRoom)
    join_no_room n enough j = record {
      does = λ bs deep. record {
        kept = j.kept;
        means = λ g.
            let k = first_bag x e g in
            let l = second_bag y e' g in
            from_both bs deep n (Err NoRoom) g
            (subst (λ z. Means bs g.rate z left g.used top n (Err NoRoom)) (came_adding (x.count + y.count) (bag (join k.things l.things)))
            (no_room_paid bs g.rate (bag (join k.things l.things)) (x.count + y.count) left _ top (length n) (dear_enough bs deep g) enough (j.means bs g.used k.things l.things k.lies l.lies)));
      };
    }

-- whether a datum is in a bag
within_fits : (d e : Data) → apply2 within d e ≡ on_bag e (λ es. adding (how_many es) (came 0 (truth (is_in d es))))
unfolding apply2
within_fits d e = refl

module _ (bs : List ℕ) (deep : ℕ) (a b : Value) (m : List ℕ) (top left : ℕ) where
  from_within : (r : Result Came Stop) (g : Operands Within bs deep a b m top) →
      Means bs g.rate (on_bag g.second (λ es. adding (how_many es) (came 0 (truth (is_in g.first es))))) left g.used top m r →
      Means bs g.rate (adding 1 (apply2 within g.first g.second)) (1 + left) g.used top m r
  from_within r g h =
      means_adding bs g.rate 1 left (apply2 within g.first g.second) g.used top m r
      (subst (λ z. Means bs g.rate z left g.used top m r) (sym (within_fits g.first g.second)) h)

  pub within_wrong : (s : Stop) → as_bag b ≡ Err s → Does Within bs deep a b m top left m (Err s)
  within_wrong s e = record { kept = kept_refl; means = λ g. from_within (Err s) g (wrong_stop g.rate _ left top (length m) s (no_bag bs m g.used g.second b _ s g.holds_2 e)) }

  module _ (y : Place) (e : as_bag b ≡ Ok y) where
    the_bag : (g : Operands Within bs deep a b m top) → LiesBag bs m g.used top g.second y
    the_bag g = a_bag bs m g.used top g.second b y g.holds_2 g.low g.room e

    pub within_readable : Operands Within bs deep a b m top → Readable y (length m)
    within_readable g = record { spots = λ i lt. omega (arith, (bag_readable (the_bag g).lies).spots i lt, g.room) }

    from_bag : (r : Result Came Stop) (g : Operands Within bs deep a b m top) →
        Means bs g.rate (adding y.count (came 0 (truth (is_in g.first (the_bag g).things)))) left g.used top m r →
        Means bs g.rate (adding 1 (apply2 within g.first g.second)) (1 + left) g.used top m r
    from_bag r g h =
        let k = the_bag g in
        from_within r g
        (subst (λ z. Means bs g.rate z left g.used top m r) (sym (on_bag_is g.second k.things _ k.is ∙ ap (λ w. adding w (came 0 (truth (is_in g.first k.things)))) k.many)) h)

    pub within_tired : left < y.count → Does Within bs deep a b m top left m (Err Tired)
    within_tired h = record { kept = kept_refl; means = λ g. from_bag (Err Tired) g (tired_first bs g.rate y.count left _ top (length m) h) }

    pub within_came : (t : Bool) → y.count ≤ left → IsWithin bs m a y deep t → Does Within bs deep a b m top left m (Ok (record { value = Truth t; top = top; left = left - y.count }))
    unfolding Holds
    within_came t enough i = record {
      kept = kept_refl;
      means = λ g.
          let k = the_bag g in
          let r : Result Came Stop = Ok (record { value = Truth t; top = top; left = left - y.count }) in
          from_bag r g
          (means_paid bs g.rate y.count left (came 0 (truth (is_in g.first k.things))) g.used top m r enough
          (at_hand bs g.rate m g.used top (left - y.count) (truth (is_in g.first k.things)) (Truth t) g.room
          (ap Truth (i.means g.used g.first k.things top g.holds_1 k.lies.lie g.low g.room (first_shallow g)))));
    }
