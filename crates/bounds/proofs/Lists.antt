-- Names in lists of names, and distinct names among them.
use mathlib.Core.Path.{◌≡◌, refl}
use mathlib.Core.Bool.{Bool, true, false, ◌||◌, false≢true}
use mathlib.Core.List.{List, [], ◌∷◌, ◌++◌}
use Rattle.query.specs.Data.{Name, same_text, one_of}
use Rattle.query.proofs.Tests.{and_l, and_r, and_i}
use Rattle.bounds.specs.Names.{all_in}

or_right : (a b : Bool) → b ≡ true → (a || b) ≡ true
or_right true b h = refl
or_right false b h = h

or_left : (a b : Bool) → a ≡ true → (a || b) ≡ true
or_left true b h = refl
or_left false b h = absurd (false≢true h)

pub one_of_right : (n : Name) (ms ns : List Name) → one_of n ns ≡ true → one_of n (ms ++ ns) ≡ true
unfolding one_of
one_of_right n [] ns h = h
one_of_right n (m ∷ ms) ns h = or_right (same_text n m) (one_of n (ms ++ ns)) (one_of_right n ms ns h)

pub one_of_left : (n : Name) (ms ns : List Name) → one_of n ms ≡ true → one_of n (ms ++ ns) ≡ true
unfolding one_of
one_of_left n [] ns h = absurd (false≢true h)
one_of_left n (m ∷ ms) ns h = go (same_text n m) (one_of n ms) (one_of_left n ms ns) h
  where
    go : (a b : Bool) → (b ≡ true → one_of n (ms ++ ns) ≡ true) → (a || b) ≡ true → (a || one_of n (ms ++ ns)) ≡ true
    go true b f h = refl
    go false b f h = f h

pub all_in_right : (xs ms ns : List Name) → all_in xs ns ≡ true → all_in xs (ms ++ ns) ≡ true
unfolding all_in
all_in_right [] ms ns h = refl
all_in_right (x ∷ xs) ms ns h = and_i (one_of x (ms ++ ns)) (all_in xs (ms ++ ns)) (one_of_right x ms ns (and_l (one_of x ns) (all_in xs ns) h)) (all_in_right xs ms ns (and_r (one_of x ns) (all_in xs ns) h))

pub all_in_left : (xs ms ns : List Name) → all_in xs ms ≡ true → all_in xs (ms ++ ns) ≡ true
unfolding all_in
all_in_left [] ms ns h = refl
all_in_left (x ∷ xs) ms ns h = and_i (one_of x (ms ++ ns)) (all_in xs (ms ++ ns)) (one_of_left x ms ns (and_l (one_of x ms) (all_in xs ms) h)) (all_in_left xs ms ns (and_r (one_of x ms) (all_in xs ms) h))

-- of two lists in one
pub all_in_first : (xs ys ns : List Name) → all_in (xs ++ ys) ns ≡ true → all_in xs ns ≡ true
unfolding all_in
all_in_first [] ys ns h = refl
all_in_first (x ∷ xs) ys ns h = and_i (one_of x ns) (all_in xs ns) (and_l (one_of x ns) (all_in (xs ++ ys) ns) h) (all_in_first xs ys ns (and_r (one_of x ns) (all_in (xs ++ ys) ns) h))

pub all_in_second : (xs ys ns : List Name) → all_in (xs ++ ys) ns ≡ true → all_in ys ns ≡ true
unfolding all_in
all_in_second [] ys ns h = h
all_in_second (x ∷ xs) ys ns h = all_in_second xs ys ns (and_r (one_of x ns) (all_in (xs ++ ys) ns) h)
