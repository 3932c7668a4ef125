-- Records stay in order: a field put in, and two records joined.
use mathlib.Core.Path.{◌≡◌, refl}
use mathlib.Core.Bool.{Bool, true, false}
use Rattle.query.specs.Data.{pick, same_text, less_text, Name, Data, Fields, put, both, after_name, in_order, no_field, field}
use Rattle.query.specs.Laws.{StaysInOrder}
use Rattle.query.proofs.Tests.{and_l, and_r, and_i}
use Rattle.query.proofs.Texts.{same_text_true, less_else}

pub put_after : (m n : Name) (d : Data) (fs : Fields) → less_text m n ≡ true → after_name m fs ≡ true → after_name m (put n d fs) ≡ true
unfolding put after_name pick
put_after m n d no_field h k = h
put_after m n d (field a e fs) h k = by (same_text n a) (less_text n a)
  where
    by : (b c : Bool) → after_name m (pick b (field n d fs) (pick c (field n d (field a e fs)) (field a e (put n d fs)))) ≡ true
    by true c = h
    by false true = h
    by false false = k

pub put_in_order : (n : Name) (d : Data) (fs : Fields) → in_order fs ≡ true → in_order (put n d fs) ≡ true
unfolding put in_order after_name pick
put_in_order n d no_field h = h
put_in_order n d (field m e fs) h = by (same_text n m) (less_text n m) refl refl (put_in_order n d fs o)
  where
    o : in_order fs ≡ true
    o = and_r (after_name m fs) (in_order fs) h

    l : after_name m fs ≡ true
    l = and_l (after_name m fs) (in_order fs) h

    by : (b c : Bool) → same_text n m ≡ b → less_text n m ≡ c → in_order (put n d fs) ≡ true →
        in_order (pick b (field n d fs) (pick c (field n d (field m e fs)) (field m e (put n d fs)))) ≡ true
    by true c p q ih = rw (same_text_true n m p) h
    by false true p q ih = and_i (less_text n m) (in_order (field m e fs)) q h
    by false false p q ih = and_i (after_name m (put n d fs)) (in_order (put n d fs)) (put_after m n d fs (less_else n m p q) l) ih

pub both_in_order : (fs gs : Fields) → in_order fs ≡ true → in_order (both fs gs) ≡ true
unfolding both
both_in_order fs no_field h = h
both_in_order fs (field n d gs) h = both_in_order (put n d fs) gs (put_in_order n d fs h)

pub stays_in_order : StaysInOrder
unfolding StaysInOrder
stays_in_order fs gs h k = both_in_order fs gs h
