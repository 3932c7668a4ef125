-- What it is to write a query's guide.
use Rattle.std.specs.Prelude.{◌≡◌, ℕ, suc, ◌+◌, ◌^◌, ◌<◌, ◌≤◌, max, ◌⊎◌, List, ◌++◌, length, IsSomeAnd, IfSome, Some, None, Option, slice_index, slice_set}
use Rattle.query.specs.Query.{Query, table, it, env, just, two, one, each, keep, product, matched, default, as_left, as_right, either, then, with_env}
use Rattle.format.specs.Wire.{write_query, FitsQuery}
use Rattle.guide.specs.Guide.{Guided}

-- how many queries stand in one another at most
unfoldable pub nesting : Query → ℕ
nesting (table n) = 1
nesting it = 1
nesting env = 1
nesting (just t d) = 1
nesting (two o p q) = suc (max (nesting p) (nesting q))
nesting (one o q) = suc (nesting q)
nesting (each p q) = suc (max (nesting p) (nesting q))
nesting (keep p q) = suc (max (nesting p) (nesting q))
nesting (product p q) = suc (max (nesting p) (nesting q))
nesting (matched m n p q) = suc (max (nesting p) (nesting q))
nesting (default p q) = suc (max (nesting p) (nesting q))
nesting (as_left t q) = suc (nesting q)
nesting (as_right t q) = suc (nesting q)
nesting (either p q) = suc (max (nesting p) (nesting q))
nesting (then p q) = suc (max (nesting p) (nesting q))
nesting (with_env p q) = suc (max (nesting p) (nesting q))

-- A query stands in front of the bytes, a guide of so many numbers has room for it from a place on, and it is nested no deeper than a limit.
pub record Markable (xs : List ℕ) (room at limit : ℕ) (q : Query) (rest : List ℕ) : Type 0 where
  pub fits : FitsQuery q
  pub is : xs ≡ write_query q ++ rest
  pub within : at + length (write_query q) ≤ room
  pub short : length (write_query q) < 2 ^ 32
  pub shallow : nesting q ≤ limit

-- The guide, g before and h after, was written for the query in front, whichever that is; outside of its bytes nothing changed.
pub record Marked (xs g h : List ℕ) (at limit : ℕ) (r : Option ℕ) : Type 0 where
  pub marks : (q : Query) (rest : List ℕ) → Markable xs (length g) at limit q rest → IsSomeAnd r (λ e. (e ≡ length (write_query q)) × Guided h at q)
  pub within : IfSome r (λ e. e ≤ length xs)
  pub same_length : length h ≡ length g
  pub kept : IfSome r (λ e. (i : ℕ) → (i < at) ⊎ (at + e ≤ i) → slice_index h i ≡ slice_index g i)

-- one number was written into the guide, or there is no room for it
abbrev pub Noted : List ℕ → List ℕ → ℕ → ℕ → ℕ → Option ℕ → Type 0
Noted g h at last end None = (2 ^ 32 ≤ last) ⊎ (length g ≤ at)
Noted g h at last end (Some e) = (e ≡ end) × (last < 2 ^ 32) × (at < length g) × (h ≡ slice_set g at last)
