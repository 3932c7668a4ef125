-- Data without parts, texts and the sides of an either, written out.
use Rattle.std.proofs.Common.{◌≡◌, ℕ, ◌+◌, ◌-◌, ◌<◌, true, false, List, [], ◌∷◌, length, take, drop, Some, None, Option, sym, subst, arith}
use borrow.Rule.Slice.PartMut.{put_mid}
use Rattle.std.specs.Int.{w64, to_le_bytes}
use Rattle.query.specs.Data.{Data, unit, num, truth}
use Rattle.format.specs.Coding.{name}
use Rattle.format.specs.Wire.{truth_tag, write_data}
use Rattle.values.specs.Memory.{Used, Spelled, Holds, loaded}
use Rattle.values.specs.declared.value.Place.{Place}
use Rattle.values.specs.declared.value.Value.{Value}
use Rattle.values.specs.declared.value.Value.TheVariants.{Nothing, Number, Truth, Text, Left, Right}
use Rattle.writing.specs.Puts.{BeginsWith, Put, Within, PutsName}
use Rattle.writing.specs.Writes.{Writes, WritesAny, WritesSide}
use Rattle.writing.proofs.Fronts.{le_8, then_put, then_none}
use Rattle.writing.proofs.Views.{Held, held}

-- of a value that stands for one datum only
only : (bs m : List ℕ) (v : Value) (e : Data) (was now : List ℕ) (r : Option ℕ) → ((u : Used) (d : Data) → Held bs m u v d → d ≡ e) → Put (write_data e) was now r → WritesAny bs m v was now r
only bs m v e was now r f p = record { means = λ d u h low. subst (λ x. Put (write_data x) was now r) (sym (f u d (held bs m u d v h))) p }

module _ (bs m was now : List ℕ) (r : Option ℕ) where
  pub unit_written : Put (0 ∷ []) was now r → WritesAny bs m Nothing was now r
  unfolding write_data
  unit_written p = only bs m Nothing unit was now r (λ u d h. h) p

  pub number_written : (n : ℕ) → Put (1 ∷ to_le_bytes w64 n) was now r → WritesAny bs m (Number n) was now r
  unfolding write_data
  number_written n p = only bs m (Number n) (num n) was now r (λ u d h. h) (subst (λ v. Put (1 ∷ v) was now r) (le_8 n) p)

  pub false_written : Put (2 ∷ []) was now r → WritesAny bs m (Truth false) was now r
  unfolding write_data truth_tag
  false_written p = only bs m (Truth false) (truth false) was now r (λ u d h. h) p

  pub true_written : Put (3 ∷ []) was now r → WritesAny bs m (Truth true) was now r
  unfolding write_data truth_tag
  true_written p = only bs m (Truth true) (truth true) was now r (λ u d h. h) p

  on_text : (p : Place) → ((t : List ℕ) → Spelled bs t p.start p.count → Put (4 ∷ name.write t) was now r) → WritesAny bs m (Text p) was now r
  unfolding write_data
  on_text p f = record { means = λ d u h low. let x = held bs m u d (Text p) h in subst (λ y. Put (write_data y) was now r) (sym x.1) (f x.0 x.2) }

  pub left_written : (at : ℕ) → WritesSide bs m 7 at was now r → WritesAny bs m (Left at) was now r
  unfolding write_data
  left_written at f = record { means = λ d u h low. let x = held bs m u d (Left at) h in subst (λ y. Put (write_data y) was now r) (sym x.1) (f.means x.0 u x.2 x.3 low) }

  pub right_written : (at : ℕ) → WritesSide bs m 8 at was now r → WritesAny bs m (Right at) was now r
  unfolding write_data
  right_written at f = record { means = λ d u h low. let x = held bs m u d (Right at) h in subst (λ y. Put (write_data y) was now r) (sym x.1) (f.means x.0 u x.2 x.3 low) }

-- texts
module _ (bs m : List ℕ) (p : Place) (a b : List ℕ) where
  pub text_none : length a < length {A = ℕ} (4 ∷ []) → (now : List ℕ) → WritesAny bs m (Text p) a now None
  text_none l now = on_text bs m a now None p (λ t s. omega (arith, l))

  module _ (n : ℕ) (long : length b ≡ length a) (first : BeginsWith (4 ∷ []) a b n) (part : List ℕ) where
    pub text_stop : PutsName bs p (take (length b - n) (drop n b)) part None → (now : List ℕ) → WritesAny bs m (Text p) a now None
    text_stop f now = on_text bs m a now None p (λ t s. then_none (4 ∷ []) (name.write t) a b part n long first (f.means t s))

    pub text_put : (k e : ℕ) → length part ≡ length (take (length b - n) (drop n b)) → PutsName bs p (take (length b - n) (drop n b)) part (Some e) → WritesAny bs m (Text p) a (put_mid n k b part) (Some (n + e))
    text_put k e lp f = on_text bs m a (put_mid n k b part) (Some (n + e)) p (λ t s. then_put (4 ∷ []) (name.write t) a b part n long first k e lp (f.means t s))

-- a side of an either
pub side_put : (bs m : List ℕ) (tag at : ℕ) (a b part : List ℕ) (n k e : ℕ) (v : Value) → length b ≡ length a → BeginsWith (tag ∷ []) a b n → v ≡ loaded m at
    → length part ≡ length (take (length b - n) (drop n b)) → WritesAny bs m v (take (length b - n) (drop n b)) part (Some e) → WritesSide bs m tag at a (put_mid n k b part) (Some (n + e))
side_put bs m tag at a b part n k e v long first q lp f = record {
  means = λ d u run h low. then_put (tag ∷ []) (write_data d) a b part n long first k e lp (f.means d u (subst (λ x. Holds bs m u d x) (sym q) h) low);
}

-- a value that is known, and of any value that no more was written than there was room for
pub by_value : (bs m : List ℕ) (v w : Value) (was now : List ℕ) (r : Option ℕ) → v ≡ w → WritesAny bs m w was now r → WritesAny bs m v was now r
by_value bs m v w was now r e f = subst (λ x. WritesAny bs m x was now r) (sym e) f

-- what holds of any datum holds of one that fits the format
pub if_fits : {bs m : List ℕ} {v : Value} {was now : List ℕ} {r : Option ℕ} → WritesAny bs m v was now r → Writes bs m v was now r
if_fits a = record { means = λ d u h low fit. a.means d u h low }

pub put_within : (vs was now : List ℕ) (r : Option ℕ) → Put vs was now r → Within was r
put_within vs was now (Some n) f = f.within
put_within vs was now None f = tt
