-- What is told of the type of a query that is asked of tables of a schema.
use Rattle.std.specs.Prelude.{◌≡◌, ℕ, ◌+◌, ◌≤◌, true, List, Option}
use Rattle.query.specs.Data.{Name}
use Rattle.query.specs.Query.{Query}
use Rattle.query.specs.Types.{Schema, type_asked}
use Rattle.query.specs.Size.{size_s, size_q, all_sound}
use Rattle.checks.specs.Checks.{SchemaAt, QueryAt}
use Rattle.guide.specs.Guide.{Guided}
use Rattle.ranks.specs.Ranks.{names_of}
use Rattle.types.specs.Shapes.{Shape}
use Rattle.types.specs.Outcomes.{look_in, told}
use Rattle.typing.specs.declared.memory.Memory.{Memory}

-- Whichever schema and query stand at two places, if the guide is right for the query, both are within the limit of parts and the schema's names are
-- in order: the number is that of the query's type among some shapes, or there is none.
abbrev pub TypedAmong : List ℕ → List ℕ → List Name → List Shape → ℕ → ℕ → ℕ → Option ℕ → Type 0
TypedAmong xs g ns shapes schema_at count query_at r =
    (ss : Schema) (q : Query) → SchemaAt xs schema_at count ss → QueryAt xs query_at q → Guided g 0 q → size_s ss + size_q q ≤ 8192 → all_sound ss ≡ true → type_asked ss q ≡ told ns shapes r

-- the same among the shapes of the memory's table, by the memory's names
pub record QueryTyped (xs g : List ℕ) (m : Memory) (schema_at count query_at : ℕ) (r : Option ℕ) : Type 0 where
  pub tells : TypedAmong xs g (names_of xs m.names) (look_in m.table) schema_at count query_at r
