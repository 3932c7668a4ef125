-- The room of the desk's own memory.
use Rattle.std.specs.Prelude.{◌≤◌, vec_capacity}
use Rattle.typing.specs.Loads.{Fit}
use Rattle.typing.specs.declared.memory.Memory.{Memory}

-- room for names, types, fields, and what is worked in
pub record Roomy (m : Memory) : Type 0 where
  pub places : 8200 ≤ vec_capacity m.names.places
  pub entries : 16400 ≤ vec_capacity m.table.entries
  pub fields : 16793600 ≤ vec_capacity m.table.fields
  pub work : Fit m.work

-- and room for the types of a request's schema
pub record Spacious (m : Memory) : Type 0 where
  pub roomy : Roomy m
  pub schema : 8200 ≤ vec_capacity m.schema
