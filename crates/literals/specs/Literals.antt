-- What it is to bring what a query writes out into memory: to number it, and to load it into slots in a row.
use Rattle.std.specs.Prelude.{◌≡◌, ℕ, ◌+◌, ◌*◌, ◌^◌, ◌<◌, ◌≤◌, true, List, ◌++◌, length, drop, Some, None, Option, slice_index, slice_set}
use Rattle.query.specs.Data.{Data, Datas, none, more, join, how_many}
use Rattle.query.specs.Query.{Ty, Query}
use Rattle.query.specs.Types.{is_of}
use Rattle.query.specs.Size.{size_d, size_q}
use Rattle.format.specs.Wire.{write_query, FitsQuery, data_of, types, FitsData, FitsTy}
use Rattle.format.specs.Nodes.{Stands}
use Rattle.guide.specs.Guide.{Guided}
use Rattle.values.specs.Memory.{Used, Under, Grown, Run, HoldsAll}
use Rattle.values.specs.declared.value.Place.{Place}
use Rattle.literals.specs.Numbered.{Numbered}
use Rattle.literals.specs.Written.{written_out, JustsTyped}
use Rattle.literals.specs.Steps.{Here}

-- a number was put at a place, if there is room for it and for a next one
pub record Put (l k : List ℕ) (at next r : ℕ) : Type 0 where
  pub kept : (i : ℕ) → i < at → slice_index k i ≡ slice_index l i
  pub put : at < length l → next + 1 < 2 ^ 32 → (r ≡ next + 1) × (k ≡ slice_set l at next)

-- what a query writes out has the numbers from `next` on: among any data with so many before
pub record NumberedOn (k : List ℕ) (at next : ℕ) (q : Query) (r : ℕ) : Type 0 where
  pub end : r ≡ next + how_many (written_out q)
  pub numbered : (before after : Datas) → how_many before ≡ next → Numbered k (join before (join (written_out q) after)) at q

-- Marks, l before and k after, have the numbers for whichever query stands there. Before its place nothing changed.
pub record Numbers (xs g l k : List ℕ) (at next r : ℕ) : Type 0 where
  pub kept : (i : ℕ) → i < at → slice_index k i ≡ slice_index l i
  pub numbers : (q : Query) → Here xs g at q → at + length (write_query q) ≤ length l → next + how_many (written_out q) < 2 ^ 32 → NumberedOn k at next q r

-- how many slots are filled, and where free memory begins
pub record Filled : Type 0 where
  pub next : ℕ
  pub top : ℕ

abbrev pub so_far : ℕ → ℕ → Filled
so_far top next = record { next = next; top = top }

abbrev pub filled : ℕ → Option ℕ → Option Filled
filled top (Some next) = Some (so_far top next)
filled top None = None

-- slots that were reserved lie in memory that is written to, and below what is free
pub record Reserved (s : Place) (low top : ℕ) : Type 0 where
  pub over : low ≤ s.start
  pub above : s.start + 3 * s.count ≤ top

-- The first slots hold some data, whose parts lie above all of the slots. The slots themselves are not in use yet: each may still be written.
pub record Filling (bs : List ℕ) (u : Used) (s : Place) (m : List ℕ) (f : Filled) (ds : Datas) : Type 0 where
  pub now_used : Used
  pub grown : Grown u now_used (s.start + 3 * s.count) f.top
  pub made : HoldsAll bs m now_used ds s.start f.next

-- Of any bytes: free memory begins no lower than before, and within memory.
abbrev pub FillInside : ℕ → List ℕ → Option Filled → Type 0
FillInside old m (Some f) = (old ≤ f.top) × (f.top ≤ length m)
FillInside old m None = Unit {0}

-- the next slots hold some more data, and with the slots that took at most five words for each of so many parts
pub record FillsMore (bs : List ℕ) (u : Used) (s : Place) (old : Filled) (ds new : Datas) (parts : ℕ) (m : List ℕ) (f : Filled) : Type 0 where
  pub next : f.next ≡ old.next + how_many new
  pub filling : Filling bs u s m f (join ds new)
  pub thrifty : f.top + 3 * how_many new ≤ old.top + 5 * parts

-- or fewer words were left
abbrev pub Fills : List ℕ → Used → Place → Filled → Datas → Datas → ℕ → List ℕ → Option Filled → Type 0
Fills bs u s old ds new parts m (Some f) = FillsMore bs u s old ds new parts m f
Fills bs u s old ds new parts m None = length m + 3 * how_many new < old.top + 5 * parts

-- a datum of a type, to be loaded into the next slot
pub record OneReady (bs : List ℕ) (at ty : ℕ) (s : Place) (f : Filled) (m : List ℕ) : Type 0 where
  pub datum : Data
  pub type : Ty
  pub used : Used
  pub earlier : Datas
  pub stands : Stands data_of bs at datum
  pub stands_type : Stands types bs ty type
  pub fits : FitsData datum
  pub fits_type : FitsTy type
  pub is : is_of datum type ≡ true
  pub low : Under used s.start
  pub filling : Filling bs used s m f earlier
  pub enough : f.next < s.count

pub record FillsOne (bs : List ℕ) (at ty : ℕ) (s : Place) (f : Filled) (m n : List ℕ) (r : Option Filled) : Type 0 where
  pub means : (g : OneReady bs at ty s f m) → Fills bs g.used s f g.earlier (more g.datum none) (size_d g.datum) n r

-- a query whose bytes begin at a place, and slots for all that it writes out
pub record FillReady (bs : List ℕ) (place : ℕ) (xs g : List ℕ) (at : ℕ) (s : Place) (f : Filled) (m : List ℕ) : Type 0 where
  pub query : Query
  pub used : Used
  pub earlier : Datas
  pub here : Here xs g at query
  pub spot : drop place bs ≡ xs
  pub typed : JustsTyped query
  pub low : Under used s.start
  pub filling : Filling bs used s m f earlier
  pub enough : f.next + how_many (written_out query) ≤ s.count

pub record FillsAll (bs : List ℕ) (place : ℕ) (xs g : List ℕ) (at : ℕ) (s : Place) (f : Filled) (m n : List ℕ) (r : Option Filled) : Type 0 where
  pub means : (y : FillReady bs place xs g at s f m) → Fills bs y.used s f y.earlier (written_out y.query) (size_q y.query) n r

-- A query of at most 8192 parts in the request's bytes, from a place on, with its guide; what it writes out is of a type each. Which words are
-- in use below the top.
pub record Ready (bs : List ℕ) (place : ℕ) (xs g l : List ℕ) (top : ℕ) : Type 0 where
  pub query : Query
  pub rest : List ℕ
  pub used : Used
  pub fits : FitsQuery query
  pub is : xs ≡ write_query query ++ rest
  pub spot : drop place bs ≡ xs
  pub guided : Guided g 0 query
  pub guide_long : length (write_query query) ≤ length g
  pub marks_long : length (write_query query) ≤ length l
  pub typed : JustsTyped query
  pub small : size_q query ≤ 8192
  pub low : Under used top

-- where the slots of what was written out begin, and where free memory begins after it
pub record Literals : Type 0 where
  pub start : ℕ
  pub top : ℕ

abbrev pub brought : ℕ → Option ℕ → Option Literals
brought top (Some start) = Some (record { start = start; top = top })
brought top None = None

-- Data lie in slots in a row, and the marks have their numbers: with the slots in at most five words for each part of the query.
pub record Brought (bs : List ℕ) (q : Query) (u : Used) (old : ℕ) (l m : List ℕ) (r : Literals) : Type 0 where
  pub datas : Datas
  pub numbered : Numbered l datas 0 q
  pub now_used : Used
  pub grown : Grown u now_used old r.top
  pub run : Run now_used r.start (3 * how_many datas)
  pub lie : HoldsAll bs m now_used datas r.start (how_many datas)
  pub above : old ≤ r.top
  pub within : r.top ≤ length m
  pub thrifty : r.top ≤ old + 5 * size_q q

-- or fewer words were left
abbrev pub Comes : List ℕ → Query → Used → ℕ → List ℕ → List ℕ → Option Literals → Type 0
Comes bs q u old l m (Some r) = Brought bs q u old l m r
Comes bs q u old l m None = length m < old + 5 * size_q q

-- whatever stands there was brought in; l and k are the marks before and after
pub record Brings (bs : List ℕ) (place : ℕ) (xs g l k : List ℕ) (top : ℕ) (m : List ℕ) (r : Option Literals) : Type 0 where
  pub means : (y : Ready bs place xs g l top) → Comes bs y.query y.used top k m r

abbrev pub BroughtInside : ℕ → List ℕ → Option Literals → Type 0
BroughtInside old m (Some r) = (old ≤ r.top) × (r.top ≤ length m)
BroughtInside old m None = Unit {0}
