-- What it is to have loaded a datum, or tables, into free memory, or to lack the room for it.
use Rattle.std.specs.Prelude.{◌≡◌, ℕ, ◌+◌, ◌*◌, ◌<◌, ◌≤◌, true, List, ◌++◌, length, drop, Some, None, Option}
use Rattle.query.specs.Data.{Data, Datas, none, more, how_many}
use Rattle.query.specs.Query.{Ty, Tables}
use Rattle.query.specs.Types.{is_of, Schema, tables_are}
use Rattle.query.specs.Size.{size_d, size_ds, size_tables}
use Rattle.format.specs.Coding.{many}
use Rattle.format.specs.Wire.{write_ty, write_data, write_datas, data_of, types, FitsData, FitsDatas, FitsTy}
use Rattle.format.specs.Heads.{as_datas}
use Rattle.format.specs.Nodes.{Stands}
use Rattle.values.specs.Memory.{Used, Under, Grown, Run, Holds, HoldsAll}
use Rattle.values.specs.Height.{height_ty}
use Rattle.values.specs.declared.value.Value.{Value}
use Rattle.loading.specs.declared.loaded.Loaded.{Loaded}
use Rattle.loading.specs.declared.loaded.Slots.{Slots}
use Rattle.loading.specs.declared.loaded.Typing.{Typing}
use Rattle.loading.specs.declared.loaded.Typing.TheVariants.{Shared, Own}
use Rattle.loading.specs.declared.loaded.Part.{Part}
use Rattle.loading.specs.Fronts.{Tells}

-- a datum's place and its type's have so many bytes after them
pub record Placed (bs : List ℕ) (at i ty j : ℕ) : Type 0 where
  pub datum : at + i ≤ length bs
  pub type : ty + j ≤ length bs

-- a datum that was loaded, with where free memory begins after it
pub record Laid : Type 0 where
  pub value : Value
  pub top : ℕ
  pub length : ℕ
  pub typed : ℕ

abbrev pub laid : ℕ → Option Loaded → Option Laid
laid top (Some l) = Some (record { value = l.value; top = top; length = l.length; typed = l.typed })
laid top None = None

-- Of any bytes: what was loaded lies in memory above the old top, and what it was loaded from in the bytes.
pub record LiesInside (bs : List ℕ) (at ty top : ℕ) (m : List ℕ) (l : Laid) : Type 0 where
  pub above : top ≤ l.top
  pub within : l.top ≤ length m
  pub datum : at + l.length ≤ length bs
  pub type : ty + l.typed ≤ length bs

abbrev pub Inside : List ℕ → ℕ → ℕ → ℕ → List ℕ → Option Laid → Type 0
Inside bs at ty top m (Some l) = LiesInside bs at ty top m l
Inside bs at ty top m None = Unit {0}

-- a datum stands at a place and its type at another; the type nests less than `depth`; which words are in use below the top
pub record Ready (bs : List ℕ) (at ty depth top : ℕ) : Type 0 where
  pub datum : Data
  pub type : Ty
  pub used : Used
  pub stands : Stands data_of bs at datum
  pub stands_type : Stands types bs ty type
  pub fits : FitsData datum
  pub fits_type : FitsTy type
  pub is : is_of datum type ≡ true
  pub shallow : height_ty type < depth
  pub low : Under used top

-- a value that stands for it was made above old, in fewer than five words a part
pub record LoadedAs (bs : List ℕ) (d : Data) (t : Ty) (u : Used) (old : ℕ) (m : List ℕ) (l : Laid) : Type 0 where
  pub now_used : Used
  pub grown : Grown u now_used old l.top
  pub holds : Holds bs m now_used d l.value
  pub thrifty : l.top + 3 ≤ old + 5 * size_d d
  pub long : l.length ≡ length (write_data d)
  pub long_type : l.typed ≡ length (write_ty t)

-- or fewer were left
abbrev pub Comes : List ℕ → Data → Ty → Used → ℕ → List ℕ → Option Laid → Type 0
Comes bs d t u old m (Some l) = LoadedAs bs d t u old m l
Comes bs d t u old m None = length m + 3 < old + 5 * size_d d

-- whatever stands there was loaded
pub record Loads (bs : List ℕ) (at ty depth top : ℕ) (m : List ℕ) (r : Option Laid) : Type 0 where
  pub means : (g : Ready bs at ty depth top) → Comes bs g.datum g.type g.used top m r

-- the same, once it is known what stands in front
pub record LoadsPart (p : Part) (bs : List ℕ) (at ty depth top : ℕ) (m : List ℕ) (r : Option Laid) : Type 0 where
  pub means : (g : Ready bs at ty depth top) → Tells bs p g.datum → Comes bs g.datum g.type g.used top m r

-- where the next type stands, after one of so many bytes
abbrev pub next_type : Typing → ℕ → ℕ → ℕ
next_type Shared ty k = ty
next_type Own ty k = ty + k

-- each of some data is of its type, and these nest less than `depth`
unfoldable pub EachTyped : Typing → List ℕ → ℕ → ℕ → Datas → Type 0
EachTyped y bs ty depth none = Unit {0}
EachTyped y bs ty depth (more d ds) =
    (t : Ty) × Stands types bs ty t × FitsTy t × (is_of d t ≡ true) × (height_ty t < depth) × EachTyped y bs (next_type y ty (length (write_ty t))) depth ds

-- data stand one after the other, and their types; which words are in use below the top
pub record RowReady (y : Typing) (bs : List ℕ) (at ty count depth top : ℕ) : Type 0 where
  pub datas : Datas
  pub used : Used
  pub rest : List ℕ
  pub within : at ≤ length bs
  pub is : drop at bs ≡ write_datas datas ++ rest
  pub fits : FitsDatas datas
  pub typed : EachTyped y bs ty depth datas
  pub many : how_many datas ≡ count
  pub low : Under used top

-- a type that data in a row share has so many bytes
abbrev pub SharedLong : Typing → List ℕ → ℕ → ℕ → Type 0
SharedLong Shared bs ty k = (t : Ty) → Stands types bs ty t → FitsTy t → k ≡ length (write_ty t)
SharedLong Own bs ty k = Unit {0}

-- they were loaded: their slots lie in a row at the old top, and the last of them, if any, told how long its type is
pub record RowLoaded (y : Typing) (bs : List ℕ) (ty : ℕ) (ds : Datas) (u : Used) (old count : ℕ) (m : List ℕ) (top bytes typed : ℕ) : Type 0 where
  pub now_used : Used
  pub grown : Grown u now_used old top
  pub run : Run now_used old (3 * count)
  pub lie : HoldsAll bs m now_used ds old count
  pub thrifty : top ≤ old + 5 * size_ds ds
  pub long : bytes ≡ length (write_datas ds)
  pub shared : 0 < count → SharedLong y bs ty typed

-- or fewer words were left
abbrev pub RowComes : Typing → List ℕ → ℕ → Datas → Used → ℕ → ℕ → List ℕ → ℕ → Option Slots → Type 0
RowComes y bs ty ds u old count m top (Some r) = RowLoaded y bs ty ds u old count m top r.length r.typed
RowComes y bs ty ds u old count m top None = length m < old + 5 * size_ds ds

-- Of any bytes: the slots begin at the old top, and lie below the new one.
abbrev pub RowInside : List ℕ → ℕ → ℕ → ℕ → ℕ → ℕ → Option Slots → Type 0
RowInside bs at ty count old top (Some r) = (r.start ≡ old) × (old + 3 * count ≤ top) × (at + r.length ≤ length bs) × (ty + r.typed ≤ length bs)
RowInside bs at ty count old top None = Unit {0}

pub record LoadsRow (y : Typing) (bs : List ℕ) (at ty count depth old : ℕ) (m : List ℕ) (top : ℕ) (r : Option Slots) : Type 0 where
  pub means : (g : RowReady y bs at ty count depth old) → RowComes y bs ty g.datas g.used old count m top r

-- tables, each of the type that stands in its order
pub record TablesReady (bs : List ℕ) (at ty count top : ℕ) : Type 0 where
  pub tables : Tables
  pub schema : Schema
  pub used : Used
  pub stands : Stands (many data_of count) bs at tables
  pub stands_types : Stands (many types count) bs ty schema
  pub fit : (many data_of count).Fits tables
  pub fit_types : (many types count).Fits schema
  pub are : tables_are tables schema ≡ true
  pub low : Under used top

-- they were loaded: their slots lie in a row at the old top
pub record TablesLoaded (bs : List ℕ) (ts : Tables) (u : Used) (old count : ℕ) (m : List ℕ) (top : ℕ) : Type 0 where
  pub now_used : Used
  pub grown : Grown u now_used old top
  pub run : Run now_used old (3 * count)
  pub lie : HoldsAll bs m now_used (as_datas ts) old count
  pub thrifty : top ≤ old + 5 * size_tables ts

abbrev pub TablesCome : List ℕ → Tables → Used → ℕ → ℕ → List ℕ → Option ℕ → Type 0
TablesCome bs ts u old count m (Some top) = TablesLoaded bs ts u old count m top
TablesCome bs ts u old count m None = length m < old + 5 * size_tables ts

-- where free memory begins, if anything was made
abbrev pub reached : ℕ → Option ℕ → Option ℕ
reached top (Some start) = Some top
reached top None = None

-- what was made begins there
abbrev pub Begins : ℕ → Option ℕ → Type 0
Begins top (Some start) = start ≡ top
Begins top None = Unit {0}

abbrev pub RowsInside : ℕ → ℕ → List ℕ → Option ℕ → Type 0
RowsInside old count m (Some top) = (old + 3 * count ≤ top) × (top ≤ length m)
RowsInside old count m None = Unit {0}

pub record LoadsTables (bs : List ℕ) (at ty count top : ℕ) (m : List ℕ) (r : Option ℕ) : Type 0 where
  pub means : (g : TablesReady bs at ty count top) → TablesCome bs g.tables g.used top count m r
