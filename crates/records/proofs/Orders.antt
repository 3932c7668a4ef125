-- Records stay in order where fields are left out.
use Rattle.std.proofs.Common.{◌≡◌, Bool, true, false, List, refl}
use Rattle.query.specs.Data.{pick, same_text, less_text, Name, Fields, left_out, one_of, only, after_name, in_order, no_field, field}
use Rattle.query.proofs.Tests.{and_l, and_r, and_i}
use Rattle.query.proofs.Texts.{less_trans}
use Rattle.records.specs.Laws.{LeftOutStaysInOrder, OnlyStaysInOrder}

pub further : (a b : Name) (hs : Fields) → less_text a b ≡ true → after_name b hs ≡ true → after_name a hs ≡ true
unfolding after_name
further a b no_field h k = refl
further a b (field c e hs) h k = less_trans a b c h k

left_out_after : (a n : Name) (fs : Fields) → after_name a fs ≡ true → in_order fs ≡ true → after_name a (left_out n fs) ≡ true
unfolding left_out after_name in_order pick
left_out_after a n no_field h k = refl
left_out_after a n (field m d fs) h k = by (same_text n m)
  where
    by : (b : Bool) → after_name a (pick b fs (field m d (left_out n fs))) ≡ true
    by true = further a m fs h (and_l (after_name m fs) (in_order fs) k)
    by false = h

left_out_in_order : (n : Name) (fs : Fields) → in_order fs ≡ true → in_order (left_out n fs) ≡ true
unfolding left_out in_order pick
left_out_in_order n no_field h = refl
left_out_in_order n (field m d fs) h = by (same_text n m) (left_out_in_order n fs o)
  where
    o : in_order fs ≡ true
    o = and_r (after_name m fs) (in_order fs) h

    by : (b : Bool) → in_order (left_out n fs) ≡ true → in_order (pick b fs (field m d (left_out n fs))) ≡ true
    by true ih = o
    by false ih = and_i (after_name m (left_out n fs)) (in_order (left_out n fs)) (left_out_after m n fs (and_l (after_name m fs) (in_order fs) h) o) ih

only_after : (a : Name) (ns : List Name) (fs : Fields) → after_name a fs ≡ true → in_order fs ≡ true → after_name a (only ns fs) ≡ true
unfolding only after_name in_order pick
only_after a ns no_field h k = refl
only_after a ns (field m d fs) h k = by (one_of m ns) (only_after a ns fs (further a m fs h (and_l (after_name m fs) (in_order fs) k)) (and_r (after_name m fs) (in_order fs) k))
  where
    by : (b : Bool) → after_name a (only ns fs) ≡ true → after_name a (pick b (field m d (only ns fs)) (only ns fs)) ≡ true
    by true ih = h
    by false ih = ih

only_in_order : (ns : List Name) (fs : Fields) → in_order fs ≡ true → in_order (only ns fs) ≡ true
unfolding only in_order pick
only_in_order ns no_field h = refl
only_in_order ns (field m d fs) h = by (one_of m ns) (only_in_order ns fs o)
  where
    o : in_order fs ≡ true
    o = and_r (after_name m fs) (in_order fs) h

    by : (b : Bool) → in_order (only ns fs) ≡ true → in_order (pick b (field m d (only ns fs)) (only ns fs)) ≡ true
    by true ih = and_i (after_name m (only ns fs)) (in_order (only ns fs)) (only_after m ns fs (and_l (after_name m fs) (in_order fs) h) o) ih
    by false ih = ih

pub left_out_stays_in_order : LeftOutStaysInOrder
unfolding LeftOutStaysInOrder
left_out_stays_in_order n fs h = left_out_in_order n fs h

pub only_stays_in_order : OnlyStaysInOrder
unfolding OnlyStaysInOrder
only_stays_in_order ns fs h = only_in_order ns fs h
