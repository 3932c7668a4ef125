-- What the checks of a request say.
use Rattle.std.specs.Prelude.{◌≡◌, ℕ, ◌+◌, ◌<◌, ◌≤◌, true, List, [], ◌∷◌, Some, None, Ok, Err, Option, Result}
use Rattle.query.specs.Query.{Ty, Query}
use Rattle.query.specs.Types.{Schema, type_asked}
use Rattle.query.specs.Size.{size_s, size_q, all_sound}
use Rattle.query.specs.Promise.{Asked, turned, place, thin}
use Rattle.format.specs.Wire.{to_ask, write_request, FitsRequest}
use Rattle.format.specs.Reading.{Asks}
use Rattle.format.specs.declared.node.Ask.{Ask}
use Rattle.checks.specs.Checks.{SchemaAt, QueryAt}
use Rattle.guide.specs.Guide.{Guided}
use Rattle.asking.specs.Passed.{Passed}
use Rattle.refusals.specs.Numbers.{number_of}
use Rattle.refusals.specs.declared.Refusal.{Refusal}

-- a query has a type, and the guide is right for it; or it has none
abbrev pub TypedSo : Schema → Query → List ℕ → Option ℕ → Type 0
TypedSo ss q g None = type_asked ss q ≡ []
TypedSo ss q g (Some k) = (t : Ty) × (type_asked ss q ≡ t ∷ []) × Guided g 0 q

-- whichever schema and query the request has
pub record TypeTold (xs g : List ℕ) (a : Ask) (r : Option ℕ) : Type 0 where
  pub tells : (ss : Schema) (q : Query) → SchemaAt xs 5 a.types ss → QueryAt xs a.query_at q → size_s ss + size_q q ≤ 8192 → all_sound ss ≡ true → TypedSo ss q g r

-- the bytes ask something that is refused by that number, with that place
pub record RefusedBy (xs : List ℕ) (lent number at : ℕ) : Type 0 where
  pub asked : Asked
  pub asks : Asks xs lent asked
  pub number_is : number ≡ turned thin asked
  pub some : 0 < number
  pub place_is : at ≡ place asked

-- the bytes are a request to ask that has passed
pub record LetThrough (xs g : List ℕ) (a : Ask) : Type 0 where
  pub passed : Passed xs g a
  pub fits : FitsRequest (to_ask passed.schema passed.tables passed.query a.work)
  pub is : xs ≡ write_request (to_ask passed.schema passed.tables passed.query a.work)

abbrev pub Checked : List ℕ → List ℕ → Result Ask (Refusal × ℕ) → Type 0
Checked xs g (Ok a) = LetThrough xs g a
Checked xs g (Err r) = (lent : ℕ) → RefusedBy xs lent (number_of r.0) r.1
