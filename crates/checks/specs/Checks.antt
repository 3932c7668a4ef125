-- What the checks say of the schema, the query and the tables that stand in a request's bytes, whichever they are.
use Rattle.std.specs.Prelude.{◌≡◌, ℕ, ◌+◌, ◌<◌, ◌≤◌, Bool, List, Some, None, Option}
use Rattle.query.specs.Query.{Query, Tables}
use Rattle.query.specs.Types.{Schema, tables_are}
use Rattle.query.specs.Size.{size_s, size_q, all_sound}
use Rattle.format.specs.Coding.{many}
use Rattle.format.specs.Wire.{types, data_of, queries, FitsQuery}
use Rattle.format.specs.Nodes.{Stands}

-- a schema of so many types stands at a place, and so for a query and for tables
pub record SchemaAt (xs : List ℕ) (at count : ℕ) (ss : Schema) : Type 0 where
  pub fits : (many types count).Fits ss
  pub stands : Stands (many types count) xs at ss

pub record QueryAt (xs : List ℕ) (at : ℕ) (q : Query) : Type 0 where
  pub fits : FitsQuery q
  pub stands : Stands queries xs at q

pub record TablesAt (xs : List ℕ) (at count : ℕ) (ts : Tables) : Type 0 where
  pub fits : (many data_of count).Fits ts
  pub stands : Stands (many data_of count) xs at ts

abbrev pub Limited : ℕ → Option ℕ → Type 0
Limited size None = 8192 < size
Limited size (Some n) = (n ≡ size) × (size ≤ 8192)

pub record WithinLimit (xs : List ℕ) (schema_at count query_at : ℕ) (r : Option ℕ) : Type 0 where
  pub tells : (ss : Schema) (q : Query) → SchemaAt xs schema_at count ss → QueryAt xs query_at q → Limited (size_s ss + size_q q) r

pub record InOrder (xs : List ℕ) (schema_at count : ℕ) (r : Bool) : Type 0 where
  pub tells : (ss : Schema) → SchemaAt xs schema_at count ss → size_s ss ≤ 8192 → r ≡ all_sound ss

pub record OfSchema (xs : List ℕ) (schema_at types tables_at tables : ℕ) (r : Bool) : Type 0 where
  pub tells : (ss : Schema) (ts : Tables) → SchemaAt xs schema_at types ss → TablesAt xs tables_at tables ts → size_s ss ≤ 8192 → r ≡ tables_are ts ss
