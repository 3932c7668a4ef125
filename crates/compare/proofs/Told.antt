-- What two values tell of the way of their data, where no parts are to be compared.
use Rattle.std.proofs.Common.{◌≡◌, ℕ, Bool, List, sym, refl, ap, ◌∙◌, subst, arith}
use borrow.Author.Tests.{eqb-false}
use Rattle.std.specs.declared.cmp.Ordering.{Ordering}
use Rattle.query.specs.Data.{Data, unit, num, truth, text, bag, rec, left, right, pick}
use Rattle.ordering.specs.Order.{alike, way, way_num, way_truth, rank, on_num_way, on_truth_way, on_text_way}
use Rattle.ordering.proofs.Apart.{Apart, at_num, at_truth, at_text, at_bag, at_rec, at_left, at_right}
use Rattle.ordering.proofs.Alike.{way_alike}
use Rattle.values.specs.Memory.{Used, Holds}
use Rattle.values.specs.Height.{height}
use Rattle.values.specs.declared.value.Place.{Place}
use Rattle.values.specs.declared.value.Value.{Value}
use Rattle.values.specs.declared.value.Value.TheVariants.{Number, Truth, Text, Bag, Record, Left, Right}
use Rattle.compare.specs.declared.Kind.{Kind}
use Rattle.compare.specs.declared.Kind.TheVariants as kinds
use Rattle.compare.specs.contracts.KindOrd.TheImpl as kind_ord
use Rattle.compare.specs.Compare.{stands, kind_of, OrdersTexts, FlatWay}
use Rattle.compare.proofs.One.{shape, holds_one}

-- the way of what two data are
pub ways : {d x e y : Data} → d ≡ x → e ≡ y → way d e ≡ way x y
ways {d} {x} {e} {y} p q = ap (λ (z : Data). way z e) p ∙ ap (λ (z : Data). way x z) q

-- the place of a kind among the kinds
abbrev pub rank_of : Kind → ℕ
rank_of kinds.Nothing = 0
rank_of kinds.Number = 1
rank_of kinds.Truth = 2
rank_of kinds.Text = 3
rank_of kinds.Bag = 4
rank_of kinds.Record = 5
rank_of kinds.Left = 6
rank_of kinds.Right = 7

pub way_of_kinds : (j k : Kind) → stands ((kind_ord.ghosts).cmp j k) ≡ way_num (rank_of j) (rank_of k)
unfolding way_num pick
way_of_kinds kinds.Nothing kinds.Nothing = refl
way_of_kinds kinds.Number kinds.Number = refl
way_of_kinds kinds.Truth kinds.Truth = refl
way_of_kinds kinds.Text kinds.Text = refl
way_of_kinds kinds.Bag kinds.Bag = refl
way_of_kinds kinds.Record kinds.Record = refl
way_of_kinds kinds.Left kinds.Left = refl
way_of_kinds kinds.Right kinds.Right = refl
way_of_kinds j k = refl

-- a value's kind is its datum's
rank_kind : (bs m : List ℕ) (u : Used) (d : Data) (v : Value) → Holds bs m u d v → rank_of (kind_of v) ≡ rank d
unfolding Holds rank
rank_kind bs m u unit v h = ap (λ (x : Value). rank_of (kind_of x)) h
rank_kind bs m u (num x) v h = ap (λ (x : Value). rank_of (kind_of x)) h
rank_kind bs m u (truth x) v h = ap (λ (x : Value). rank_of (kind_of x)) h
rank_kind bs m u (text x) v h = ap (λ (x : Value). rank_of (kind_of x)) h.1
rank_kind bs m u (bag x) v h = ap (λ (x : Value). rank_of (kind_of x)) h.1
rank_kind bs m u (rec x) v h = ap (λ (x : Value). rank_of (kind_of x)) h.1
rank_kind bs m u (left x) v h = ap (λ (x : Value). rank_of (kind_of x)) h.1
rank_kind bs m u (right x) v h = ap (λ (x : Value). rank_of (kind_of x)) h.1

-- two values that are not both numbers, truths or texts
pub record Unlike (a b : Value) : Type 0 where
  pub numbers : (x y : ℕ) → a ≡ Number x → b ≡ Number y → ⊥
  pub truths : (x y : Bool) → a ≡ Truth x → b ≡ Truth y → ⊥
  pub texts : (p q : Place) → a ≡ Text p → b ≡ Text q → ⊥

-- such two go by their kinds, unless they have parts of one kind
module _ (bs : List ℕ) (a b : Value) (n : Unlike a b) (m : List ℕ) (u : Used) where
  abbrev Goes : Data → Data → Type 0
  Goes d e = Holds bs m u e b → (rank d ≡ rank e → height d ≡ 0) → way d e ≡ way_num (rank d) (rank e)

  out : (d e : Data) → Apart d e → Goes d e
  out d e p k f = p.goes

  goes : (d e : Data) → Holds bs m u d a → Goes d e
  unfolding Holds rank height way
  goes unit e h k f = refl
  goes (num x) e h k f = at_num Goes out x (λ y l g. absurd (n.numbers x y h l)) e k f
  goes (truth x) e h k f = at_truth Goes out x (λ y l g. absurd (n.truths x y h l)) e k f
  goes (text x) e h k f = at_text Goes out x (λ y l g. absurd (n.texts h.0 l.0 h.1 l.1)) e k f
  goes (bag x) e h k f = at_bag Goes out x (λ y l g. absurd (let z : ⊥ = omega (arith, g refl) in z)) e k f
  goes (rec x) e h k f = at_rec Goes out x (λ y l g. absurd (let z : ⊥ = omega (arith, g refl) in z)) e k f
  goes (left x) e h k f = at_left Goes out x (λ y l g. absurd (let z : ⊥ = omega (arith, g refl) in z)) e k f
  goes (right x) e h k f = at_right Goes out x (λ y l g. absurd (let z : ⊥ = omega (arith, g refl) in z)) e k f

pub of_kinds : (bs : List ℕ) (a b : Value) (o : Ordering) → Unlike a b → o ≡ (kind_ord.ghosts).cmp (kind_of a) (kind_of b) → FlatWay bs a b o
of_kinds bs a b o n s = record {
  is = λ m d e u h k f.
      ap stands s ∙ way_of_kinds (kind_of a) (kind_of b)
      ∙ ap (λ (x : ℕ). way_num x (rank_of (kind_of b))) (rank_kind bs m u d a h)
      ∙ ap (λ (x : ℕ). way_num (rank d) x) (rank_kind bs m u e b k)
      ∙ sym (goes bs a b n m u d e h k f);
}

-- two values that do not both have parts, of one kind
pub record Unmet (a b : Value) : Type 0 where
  pub bags : (p q : Place) → a ≡ Bag p → b ≡ Bag q → ⊥
  pub records : (p q : Place) → a ≡ Record p → b ≡ Record q → ⊥
  pub lefts : (i j : ℕ) → a ≡ Left i → b ≡ Left j → ⊥
  pub rights : (i j : ℕ) → a ≡ Right i → b ≡ Right j → ⊥

module _ (bs : List ℕ) (a b : Value) (n : Unmet a b) (m : List ℕ) (u : Used) where
  abbrev Low : Data → Data → Type 0
  Low d e = Holds bs m u e b → rank d ≡ rank e → height d ≡ 0

  other : (d e : Data) → Apart d e → Low d e
  other d e p k r = absurd (eqb-false (rank d) (rank e) p.ranks r)

  pub low : (d e : Data) → Holds bs m u d a → Low d e
  unfolding Holds height
  low unit e h k r = refl
  low (num x) e h k r = refl
  low (truth x) e h k r = refl
  low (text x) e h k r = refl
  low (bag x) e h k r = at_bag Low other x (λ y l q. absurd (n.bags h.0 l.0 h.1 l.1)) e k r
  low (rec x) e h k r = at_rec Low other x (λ y l q. absurd (n.records h.0 l.0 h.1 l.1)) e k r
  low (left x) e h k r = at_left Low other x (λ y l q. absurd (n.lefts h.0 l.0 h.1 l.1)) e k r
  low (right x) e h k r = at_right Low other x (λ y l q. absurd (n.rights h.0 l.0 h.1 l.1)) e k r

-- two values of one kind without parts
pub of_numbers : (bs : List ℕ) (x y : ℕ) (o : Ordering) → stands o ≡ way_num x y → FlatWay bs (Number x) (Number y) o
unfolding way on_num_way
of_numbers bs x y o s = record { is = λ m d e u h k f. s ∙ sym (rw (shape bs m u d (Number x) h, shape bs m u e (Number y) k) refl) }

pub of_truths : (bs : List ℕ) (x y : Bool) (o : Ordering) → stands o ≡ way_truth x y → FlatWay bs (Truth x) (Truth y) o
unfolding way on_truth_way
of_truths bs x y o s = record { is = λ m d e u h k f. s ∙ sym (rw (shape bs m u d (Truth x) h, shape bs m u e (Truth y) k) refl) }

pub of_texts : (bs : List ℕ) (p q : Place) (o : Ordering) → OrdersTexts bs p q o → FlatWay bs (Text p) (Text q) o
unfolding way on_text_way
of_texts bs p q o s = record {
  is = λ m d e u h k f.
      let x = shape bs m u d (Text p) h in
      let y = shape bs m u e (Text q) k in
      s.is x.0 y.0 x.2 y.2 ∙ sym (ways x.1 y.1);
}

-- what holds of two values holds of them by other names
pub retold : (bs : List ℕ) {a b v w : Value} (o : Ordering) → a ≡ v → b ≡ w → FlatWay bs v w o → FlatWay bs a b o
retold bs {a} {b} {v} {w} o p q h = subst (λ (x : Value). FlatWay bs x b o) (sym p) (subst (λ (x : Value). FlatWay bs v x o) (sym q) h)

-- one value is alike to itself
pub one_value : (bs m : List ℕ) (u : Used) (v : Value) (d e : Data) → Holds bs m u d v → Holds bs m u e v → alike ≡ way d e
one_value bs m u v d e h k = sym (subst (λ (x : Data). way d x ≡ alike) (holds_one bs m u u d e v h k) (way_alike d))
