-- A guide to a query's bytes: for each place at which a part of it begins, where the last part of that begins.
use Rattle.std.specs.Prelude.{◌≡◌, ℕ, ◌+◌, List, ◌++◌, length, slice_index}
use Rattle.query.specs.Query.{Query, table, it, env, just, two, one, each, keep, product, matched, default, as_left, as_right, either, then, with_env}
use Rattle.format.specs.Coding.{name}
use Rattle.format.specs.Wire.{write_ty, write_1, write_query}

-- Where the first part of a query begins, and where its last, counted from its own beginning. Of what is written out the last is the datum.
unfoldable pub first_part : Query → ℕ
first_part (table n) = 0
first_part it = 0
first_part env = 0
first_part (just t d) = 1
first_part (two o p q) = 1
first_part (one o q) = length (write_1 o)
first_part (each p q) = 1
first_part (keep p q) = 1
first_part (product p q) = 1
first_part (matched m n p q) = 1 + length (name.write m ++ name.write n)
first_part (default p q) = 1
first_part (as_left t q) = 1 + length (write_ty t)
first_part (as_right t q) = 1 + length (write_ty t)
first_part (either p q) = 1
first_part (then p q) = 1
first_part (with_env p q) = 1

unfoldable pub last_part : Query → ℕ
last_part (table n) = 0
last_part it = 0
last_part env = 0
last_part (just t d) = 1 + length (write_ty t)
last_part (two o p q) = 1 + length (write_query p)
last_part (one o q) = length (write_1 o)
last_part (each p q) = 1 + length (write_query p)
last_part (keep p q) = 1 + length (write_query p)
last_part (product p q) = 1 + length (write_query p)
last_part (matched m n p q) = first_part (matched m n p q) + length (write_query p)
last_part (default p q) = 1 + length (write_query p)
last_part (as_left t q) = 1 + length (write_ty t)
last_part (as_right t q) = 1 + length (write_ty t)
last_part (either p q) = 1 + length (write_query p)
last_part (then p q) = 1 + length (write_query p)
last_part (with_env p q) = 1 + length (write_query p)

-- the guide is right for a query whose bytes begin at a place
unfoldable pub Guided : List ℕ → ℕ → Query → Type 0
Guided g at (table n) = Unit {0}
Guided g at it = Unit {0}
Guided g at env = Unit {0}
Guided g at (just t d) = slice_index g at ≡ last_part (just t d)
Guided g at (two o p q) = (slice_index g at ≡ last_part (two o p q)) × Guided g (at + 1) p × Guided g (at + last_part (two o p q)) q
Guided g at (one o q) = (slice_index g at ≡ last_part (one o q)) × Guided g (at + last_part (one o q)) q
Guided g at (each p q) = (slice_index g at ≡ last_part (each p q)) × Guided g (at + 1) p × Guided g (at + last_part (each p q)) q
Guided g at (keep p q) = (slice_index g at ≡ last_part (keep p q)) × Guided g (at + 1) p × Guided g (at + last_part (keep p q)) q
Guided g at (product p q) = (slice_index g at ≡ last_part (product p q)) × Guided g (at + 1) p × Guided g (at + last_part (product p q)) q
Guided g at (matched m n p q) = (slice_index g at ≡ last_part (matched m n p q)) × Guided g (at + first_part (matched m n p q)) p × Guided g (at + last_part (matched m n p q)) q
Guided g at (default p q) = (slice_index g at ≡ last_part (default p q)) × Guided g (at + 1) p × Guided g (at + last_part (default p q)) q
Guided g at (as_left t q) = (slice_index g at ≡ last_part (as_left t q)) × Guided g (at + last_part (as_left t q)) q
Guided g at (as_right t q) = (slice_index g at ≡ last_part (as_right t q)) × Guided g (at + last_part (as_right t q)) q
Guided g at (either p q) = (slice_index g at ≡ last_part (either p q)) × Guided g (at + 1) p × Guided g (at + last_part (either p q)) q
Guided g at (then p q) = (slice_index g at ≡ last_part (then p q)) × Guided g (at + 1) p × Guided g (at + last_part (then p q)) q
Guided g at (with_env p q) = (slice_index g at ≡ last_part (with_env p q)) × Guided g (at + 1) p × Guided g (at + last_part (with_env p q)) q
