-- Which number each thing has that a query writes out.
use Rattle.std.specs.Prelude.{◌≡◌, ℕ, zero, suc, ◌+◌, List, [], ◌∷◌, slice_index}
use Rattle.query.specs.Data.{Data, Datas, none, more}
use Rattle.query.specs.Query.{Query, table, it, env, just, two, one, each, keep, product, matched, default, as_left, as_right, either, then, with_env}
use Rattle.guide.specs.Guide.{first_part, last_part}

unfoldable pub thing_at : Datas → ℕ → List Data
thing_at none n = []
thing_at (more d ds) zero = d ∷ []
thing_at (more d ds) (suc n) = thing_at ds n

-- at each place where something is written out stands its number among the data that were loaded
unfoldable pub Numbered : List ℕ → Datas → ℕ → Query → Type 0
Numbered l ds at (table n) = Unit {0}
Numbered l ds at it = Unit {0}
Numbered l ds at env = Unit {0}
Numbered l ds at (just t d) = thing_at ds (slice_index l at) ≡ d ∷ []
Numbered l ds at (two o p q) = Numbered l ds (at + first_part (two o p q)) p × Numbered l ds (at + last_part (two o p q)) q
Numbered l ds at (one o q) = Numbered l ds (at + last_part (one o q)) q
Numbered l ds at (each p q) = Numbered l ds (at + first_part (each p q)) p × Numbered l ds (at + last_part (each p q)) q
Numbered l ds at (keep p q) = Numbered l ds (at + first_part (keep p q)) p × Numbered l ds (at + last_part (keep p q)) q
Numbered l ds at (product p q) = Numbered l ds (at + first_part (product p q)) p × Numbered l ds (at + last_part (product p q)) q
Numbered l ds at (matched m n p q) = Numbered l ds (at + first_part (matched m n p q)) p × Numbered l ds (at + last_part (matched m n p q)) q
Numbered l ds at (default p q) = Numbered l ds (at + first_part (default p q)) p × Numbered l ds (at + last_part (default p q)) q
Numbered l ds at (as_left t q) = Numbered l ds (at + last_part (as_left t q)) q
Numbered l ds at (as_right t q) = Numbered l ds (at + last_part (as_right t q)) q
Numbered l ds at (either p q) = Numbered l ds (at + first_part (either p q)) p × Numbered l ds (at + last_part (either p q)) q
Numbered l ds at (then p q) = Numbered l ds (at + first_part (then p q)) p × Numbered l ds (at + last_part (then p q)) q
Numbered l ds at (with_env p q) = Numbered l ds (at + first_part (with_env p q)) p × Numbered l ds (at + last_part (with_env p q)) q
