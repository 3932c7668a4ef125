-- A request to ask that has passed every check, and what was loaded for it.
use Rattle.std.specs.Prelude.{◌≡◌, ℕ, ◌+◌, ◌*◌, ◌<◌, ◌≤◌, true, List, [], ◌∷◌, length, Some, None, Option}
use Rattle.query.specs.Data.{Datas, how_many}
use Rattle.query.specs.Query.{Ty, Query, Tables}
use Rattle.query.specs.Types.{Schema, type_asked, tables_are}
use Rattle.query.specs.Size.{size_s, size_q, size_tables, all_sound}
use Rattle.format.specs.Heads.{as_datas}
use Rattle.format.specs.declared.node.Ask.{Ask}
use Rattle.checks.specs.Checks.{SchemaAt, QueryAt, TablesAt}
use Rattle.guide.specs.Guide.{Guided}
use Rattle.values.specs.Memory.{Used, Under}
use Rattle.literals.specs.Numbered.{Numbered}
use Rattle.literals.specs.Literals.{Literals}
use Rattle.eval.specs.Ready.{Row}

-- schema, tables and query that the bytes have where the request says, within the limit and typed, with a guide to the query
pub record Passed (xs g : List ℕ) (a : Ask) : Type 0 where
  pub schema : Schema
  pub tables : Tables
  pub query : Query
  pub type : Ty
  pub schema_at : SchemaAt xs 5 a.types schema
  pub tables_at : TablesAt xs a.tables_at a.tables tables
  pub query_at : QueryAt xs a.query_at query
  pub small : size_s schema + size_q query ≤ 8192
  pub sound : all_sound schema ≡ true
  pub typed : type_asked schema query ≡ type ∷ []
  pub are : tables_are tables schema ≡ true
  pub guided : Guided g 0 query
  pub guide_long : 73728 ≤ length g

-- tables and what the query writes out lie in memory in rows of slots, within five words for each part
pub record LoadedUp (xs : List ℕ) (ts : Tables) (q : Query) (count : ℕ) (marks m : List ℕ) (l : Literals) : Type 0 where
  pub used : Used
  pub datas : Datas
  pub tables : Row xs m used (as_datas ts) 0 count
  pub literals : Row xs m used datas l.start (how_many datas)
  pub numbered : Numbered marks datas 0 q
  pub low : Under used l.top
  pub within : l.top ≤ length m
  pub thrifty : l.top ≤ 5 * (size_tables ts + size_q q)

-- or there are fewer words
abbrev pub Loading : List ℕ → Tables → Query → ℕ → List ℕ → List ℕ → Option Literals → Type 0
Loading xs ts q count marks m (Some l) = LoadedUp xs ts q count marks m l
Loading xs ts q count marks m None = length m < 5 * (size_tables ts + size_q q)

pub record LoadsUp (xs g : List ℕ) (a : Ask) (marks m : List ℕ) (r : Option Literals) : Type 0 where
  pub means : (p : Passed xs g a) → Loading xs p.tables p.query a.tables marks m r
