-- What an operation on a table says of types.
use Rattle.std.specs.Prelude.{◌≡◌, ℕ, ◌+◌, ◌<◌, ◌≤◌, Bool, true, false, List, [], ◌∷◌, length, Some, None, vec_items, vec_len, vec_capacity, Option}
use Rattle.query.specs.Data.{Name}
use Rattle.query.specs.Query.{Ty}
use Rattle.types.specs.Shapes.{Shape, shapes, type_at, Ranked, Grown}
use Rattle.types.specs.Tables.{Sound}
use Rattle.types.specs.declared.table.Rows.{Rows}
use Rattle.types.specs.declared.table.Table.{Table}

abbrev pub look : Table → List Shape
look t = shapes (vec_items t.fields) (vec_items t.entries)

-- what stands in rows, as a table of them has it
abbrev pub look_in : Rows → List Shape
look_in t = shapes (vec_items t.fields) (vec_items t.entries)

-- rows are in order: a table of them would be
abbrev pub InOrder : Rows → Type 0
InOrder t = Sound t.names (vec_items t.entries) (vec_items t.fields)

-- how many types there are, and how many fields of records
abbrev pub size : Table → ℕ
size t = length (vec_items t.entries)

abbrev pub spread : Table → ℕ
spread t = length (vec_items t.fields)

-- a table is in order, and as large as it is to be: so is every table
pub record Tidy (t : Table) : Type 0 where
  pub sound : Sound t.names (vec_items t.entries) (vec_items t.fields)
  pub entries : 16400 ≤ vec_capacity t.entries
  pub fields : 16793600 ≤ vec_capacity t.fields

pub tidy : (t : Table) → Tidy t
tidy t = record { sound = t.sound; entries = t.types_fit; fields = t.fields_fit }

-- a table is as large, and has as many names
pub record Kept (t u : Table) : Type 0 where
  pub names : u.names ≡ t.names
  pub entries : vec_capacity u.entries ≡ vec_capacity t.entries
  pub fields : vec_capacity u.fields ≡ vec_capacity t.fields

-- there is room for one entry and so many fields
pub record Open (t : Table) (s : ℕ) : Type 0 where
  pub one : vec_len t.entries < 16400
  pub entries : 16400 ≤ vec_capacity t.entries
  pub some : vec_len t.fields + s ≤ 16793600
  pub fields : 16793600 ≤ vec_capacity t.fields

-- there is room for so many types and fields more
pub record Room (t : Table) (f s : ℕ) : Type 0 where
  pub entries : size t + f ≤ 16400
  pub fields : spread t + s ≤ 16793600

-- whether there is room for one type and so many fields
abbrev pub Spare : Bool → Table → ℕ → Type 0
Spare true t s = Open t s
Spare false t s = Room t 1 s → ⊥

-- the type of a number, if there is one
abbrev pub told : List Name → List Shape → Option ℕ → List Ty
told ns ss None = []
told ns ss (Some i) = type_at ns ss i ∷ []

abbrev pub Within : ℕ → Option ℕ → Type 0
Within n None = Unit {0}
Within n (Some i) = i < n

-- a table grew: what there was is there still, and the number is one of a type
pub record Grew (t u : Table) (r : Option ℕ) : Type 0 where
  pub names : u.names ≡ t.names
  pub tidy : Tidy u
  pub grown : Grown (look t) (look u)
  pub here : Within (size u) r

-- where there is room, it grew by no more than that, and the number is that of the type, or there is none
pub record Meant (ns : List Name) (t u : Table) (f s : ℕ) (r : Option ℕ) (T : List Ty) : Type 0 where
  pub few : Room t f s → size u ≤ size t + f
  pub slim : Room t f s → spread u ≤ spread t + s
  pub means : Room t f s → T ≡ told ns (look u) r

-- whatever the names are, in their order
abbrev pub Says : Table → Table → ℕ → ℕ → Option ℕ → (List Name → List Ty) → Type 0
Says t u f s r T = (ns : List Name) → Ranked ns t.names → Meant ns t u f s r (T ns)
