-- What the walk over a query is given, and what it tells.
use Rattle.std.specs.Prelude.{◌≡◌, ℕ, ◌+◌, ◌*◌, ◌<◌, ◌≤◌, List, ◌++◌, length, drop, Some, None, Option, slice_index, slice_index_or}
use Rattle.query.specs.Data.{Name}
use Rattle.query.specs.Query.{Ty, Query}
use Rattle.query.specs.Types.{type_of}
use Rattle.query.specs.Size.{size_q}
use Rattle.format.specs.Wire.{write_query, FitsQuery}
use Rattle.guide.specs.Guide.{first_part, last_part, Guided}
use Rattle.guide.specs.Marks.{nesting}
use Rattle.ranks.specs.Ranks.{names_of, Listed}
use Rattle.ranks.specs.Known.{Knows}
use Rattle.ranks.specs.declared.names.Names.{Names}
use Rattle.types.specs.Shapes.{type_at}
use Rattle.types.specs.Operators.{NamesOf, types_of}
use Rattle.types.specs.Outcomes.{look, size, Tidy, Meant}
use Rattle.types.specs.declared.table.Table.{Table}
use Rattle.typing.specs.Costs.{wide}
use Rattle.typing.specs.Loads.{Fit}
use Rattle.typing.specs.declared.work.Work.{Work}
use Rattle.typed.specs.Shaped.{Shaped, IsLeaf, IsSingle, Made1, one_query, one_type, one_types, one_fields, IsJoint, Made2, two_query, two_type}
use Rattle.typed.specs.declared.scene.Lent.{Lent}
use Rattle.typed.specs.declared.shape.Leaf.{Leaf}
use Rattle.typed.specs.declared.shape.Single.{Single}
use Rattle.typed.specs.declared.shape.Joint.{Joint}
use Rattle.typed.specs.declared.step.Step.{Step}

-- the request's bytes, its names, the numbers of the schema's types, the guide, and where the query begins
pub record Setting : Type 0 where
  pub bytes : List ℕ
  pub names : Names
  pub schema : List ℕ
  pub guide : List ℕ
  pub base : ℕ

abbrev pub setting : List ℕ → Names → List ℕ → List ℕ → ℕ → Setting
setting b n s g k = record { bytes = b; names = n; schema = s; guide = g; base = k }

abbrev pub scene : Lent → Setting
scene l = setting l.bytes.now l.names.now l.schema.now l.guide.now l.base

abbrev pub names_in : Setting → List Name
names_in S = names_of S.bytes S.names

-- a query stands at a place, counted from the whole query's beginning; its names are known, it nests no deeper than a depth, and is within the limit of parts
pub record Asked (S : Setting) (pos depth : ℕ) (q : Query) : Type 0 where
  pub rest : List ℕ
  pub fits : FitsQuery q
  pub within : S.base + pos ≤ length S.bytes
  pub stands : drop (S.base + pos) S.bytes ≡ write_query q ++ rest
  pub guided : Guided S.guide pos q
  pub knows : Knows (names_in S) q
  pub deep : nesting q ≤ depth
  pub few : size_q q ≤ 8192

-- the names are in order, the table and what is worked in too, and the schema's types are in the table
pub record Ready (S : Setting) (t : Table) (w : Work) : Type 0 where
  pub listed : Listed S.bytes S.names
  pub tidy : Tidy t
  pub same : t.names ≡ length (names_in S)
  pub fit : Fit w
  pub schema : NamesOf (size t) S.schema

-- the type of a query by a table: of what goes along and what is looked at there are the numbers
abbrev pub type_by : Setting → Table → Query → ℕ → ℕ → List Ty
type_by S t q env it = type_of (types_of (names_in S) (look t) S.schema) q (type_at (names_in S) (look t) env) (type_at (names_in S) (look t) it)

-- whichever query stands there: the number of its type, or none
pub record Walked (S : Setting) (t u : Table) (pos env it depth : ℕ) (r : Option ℕ) : Type 0 where
  pub tells : (q : Query) → Asked S pos depth q → Meant (names_in S) t u (2 * size_q q) (wide t.names q) r (type_by S t q env it)

-- how the parts of a query are put together, and where they begin
pub record RightStep (S : Setting) (pos : ℕ) (s : Step) (q : Query) : Type 0 where
  pub shaped : Shaped s.shape q
  pub first : s.first ≡ pos + first_part q
  pub last : slice_index_or S.guide pos 0 ≡ last_part q → s.last ≡ pos + last_part q

abbrev pub Steps : Setting → ℕ → Query → Option Step → Type 0
Steps S pos q None = ⊥
Steps S pos q (Some s) = RightStep S pos s q

-- the query and its parts are in the bytes
pub record StepWithin (S : Setting) (pos : ℕ) (s : Step) : Type 0 where
  pub here : S.base + pos < length S.bytes
  pub first : S.base + s.first ≤ length S.bytes
  pub last : S.base + s.last ≤ length S.bytes

abbrev pub StepsWithin : Setting → ℕ → Option Step → Type 0
StepsWithin S pos None = Unit {0}
StepsWithin S pos (Some s) = StepWithin S pos s

pub record Stepped (S : Setting) (pos : ℕ) (r : Option Step) : Type 0 where
  pub within : StepsWithin S pos r
  pub steps : (q : Query) (depth : ℕ) → Asked S pos depth q → Steps S pos q r

-- what is told of what has no parts, and of what is done with the types of parts
abbrev pub LeafTold : Setting → Table → Table → ℕ → ℕ → Leaf → ℕ → ℕ → Option ℕ → Type 0
LeafTold S t u pos last l env it r =
    (q : Query) (depth : ℕ) → IsLeaf l q → Asked S pos depth q → (slice_index S.guide pos ≡ last_part q → last ≡ pos + last_part q) → Meant (names_in S) t u (2 * size_q q) (wide t.names q) r (type_by S t q env it)

abbrev pub SingleTold : Setting → Table → Table → ℕ → Single → ℕ → Option ℕ → Type 0
SingleTold S t u pos s x r =
    (k : Made1) (p : Query) (depth : ℕ) → IsSingle s k → Asked S pos depth (one_query k p) → Meant (names_in S) t u (one_types k) (one_fields t.names k) r (one_type k (type_at (names_in S) (look t) x))

abbrev pub JointTold : Setting → Table → Table → ℕ → Joint → ℕ → ℕ → Option ℕ → Type 0
JointTold S t u pos j x y r =
    (k : Made2) (p q : Query) (depth : ℕ) → IsJoint j k → Asked S pos depth (two_query k p q) → Meant (names_in S) t u 2 t.names r (two_type k (type_at (names_in S) (look t) x) (type_at (names_in S) (look t) y))
