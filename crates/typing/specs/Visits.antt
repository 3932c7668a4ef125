-- What is seen of a query in its bytes.
use Rattle.std.specs.Prelude.{◌≡◌, ℕ, ◌+◌, ◌<◌, ◌≤◌, List, ◌++◌, length, drop, Some, None, Option, slice_index}
use Rattle.query.specs.Query.{Query}
use Rattle.format.specs.Wire.{write_query, FitsQuery}
use Rattle.guide.specs.Guide.{first_part, Guided}
use Rattle.guide.specs.Visits.{IsQuery}
use Rattle.typing.specs.declared.visit.Seen.{Seen}

abbrev pub Sees : List ℕ → ℕ → Query → Option Seen → Type 0
Sees g pos q None = ⊥
Sees g pos q (Some s) = IsQuery s.node q × (s.first ≡ first_part q) × (s.last ≡ slice_index g pos)

abbrev pub InBytes : List ℕ → ℕ → Option Seen → Type 0
InBytes xs at None = Unit {0}
InBytes xs at (Some s) = at < length xs

-- whichever guided query stands at a place: which one it is, and where its parts begin
pub record SeenAt (xs g : List ℕ) (base pos : ℕ) (r : Option Seen) : Type 0 where
  pub within : InBytes xs (base + pos) r
  pub sees : (q : Query) (rest : List ℕ) → FitsQuery q → base + pos ≤ length xs → drop (base + pos) xs ≡ write_query q ++ rest → Guided g pos q → Sees g pos q r
