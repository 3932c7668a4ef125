-- What working out a query is given, and what an outcome tells of it.
use Rattle.std.specs.Prelude.{◌≡◌, ℕ, ◌+◌, ◌*◌, ◌≤◌, true, List, [], ◌∷◌, ◌++◌, length, drop, Result}
use Rattle.query.specs.Data.{Name, Data, bag, Datas, how_many}
use Rattle.query.specs.Query.{Ty, Query, Tables, Got, came, eval, each_of, keep_of}
use Rattle.query.specs.Types.{is_of, all_of, Schema, type_of, tables_are}
use Rattle.query.specs.Size.{size_q, all_sound}
use Rattle.format.specs.Wire.{write_query, FitsQuery}
pub use Rattle.format.specs.Heads.{as_datas}
use Rattle.values.specs.Memory.{Used, Under, Run, Holds, HoldsAll}
use Rattle.values.specs.declared.value.Place.{Place}
use Rattle.values.specs.declared.value.Value.{Value}
use Rattle.bounds.specs.Names.{query_names, all_in, schema_named, schema_height}
use Rattle.guide.specs.Guide.{Guided}
use Rattle.literals.specs.Numbered.{Numbered}
use Rattle.operators.specs.Means.{Means}
use Rattle.operators.specs.Ready.{Fine}
use Rattle.operators.specs.Came.{Came}
use Rattle.operators.specs.declared.came.Stop.{Stop}
use Rattle.eval.specs.Shaped.{IsLeaf}
use Rattle.eval.specs.declared.scene.Scene.{Scene}
use Rattle.eval.specs.declared.shape.Leaf.{Leaf}

-- the scene, the request's bytes, the guide, and the numbers of what the query writes out
pub record Setting : Type 0 where
  pub scene : Scene
  pub bytes : List ℕ
  pub guide : List ℕ
  pub marks : List ℕ

abbrev pub setting : Scene → List ℕ → List ℕ → List ℕ → Setting
setting s b g l = record { scene = s; bytes = b; guide = g; marks = l }

-- Tables of a schema, the data that the query writes out, the names that records may have, and how many words a unit of work pays for:
-- enough for a slot and a record with all names.
pub record World : Type 0 where
  pub schema : Schema
  pub tables : Tables
  pub literals : Datas
  pub names : List Name
  pub rate : ℕ
  pub in_order : all_sound schema ≡ true
  pub are : tables_are tables schema ≡ true
  pub called : schema_named names schema ≡ true
  pub dear : 5 * length names + 3 ≤ rate

-- a query stands in front of some of the request's bytes, with its guide and its numbers
pub record Stands (S : Setting) (ls : Datas) (qs : List ℕ) (at : ℕ) (q : Query) : Type 0 where
  pub rest : List ℕ
  pub fits : FitsQuery q
  pub is : qs ≡ write_query q ++ rest
  pub spot : drop (S.scene.query_at + at) S.bytes ≡ qs
  pub guided : Guided S.guide at q
  pub guide_long : at + length (write_query q) ≤ length S.guide
  pub marks_long : at + length (write_query q) ≤ length S.marks
  pub numbered : Numbered S.marks ls at q

-- a query has a type, asked with what goes along and what is looked at; the types nest no deeper than the scene says, with two for each part
pub record Typed (w : World) (deep : ℕ) (q : Query) (te ti tu : Ty) : Type 0 where
  pub type : type_of w.schema q te ti ≡ tu ∷ []
  pub called : all_in (query_names q) w.names ≡ true
  pub high : ℕ
  pub schema_low : schema_height w.schema ≤ high
  pub fine_env : Fine w.names high te
  pub fine_it : Fine w.names high ti
  pub low : high + 2 * size_q q ≤ deep

-- so many data lie in slots in a row
pub record Row (bs m : List ℕ) (u : Used) (ds : Datas) (at count : ℕ) : Type 0 where
  pub run : Run u at (3 * count)
  pub lie : HoldsAll bs m u ds at count

-- tables, what is written out and what goes along lie in words in use below the top
pub record Held (S : Setting) (w : World) (along : Data) (e : Value) (m : List ℕ) (u : Used) (top : ℕ) : Type 0 where
  pub tables : Row S.bytes m u (as_datas w.tables) S.scene.tables S.scene.count
  pub literals : Row S.bytes m u w.literals S.scene.literals (how_many w.literals)
  pub goes : Holds S.bytes m u along e
  pub low : Under u top
  pub room : top ≤ length m

pub record Ready (S : Setting) (qs : List ℕ) (at : ℕ) (e i : Value) (m : List ℕ) (top : ℕ) : Type 0 where
  pub world : World
  pub query : Query
  pub stands : Stands S world.literals qs at query
  pub te : Ty
  pub ti : Ty
  pub tu : Ty
  pub typed : Typed world S.scene.deep query te ti tu
  pub along : Data
  pub looked : Data
  pub is_along : is_of along te ≡ true
  pub is_looked : is_of looked ti ≡ true
  pub used : Used
  pub held : Held S world along e m used top
  pub looks : Holds S.bytes m used looked i

-- whatever was asked, so an outcome tells what it comes to
pub record Answers (S : Setting) (qs : List ℕ) (at : ℕ) (e i : Value) (m : List ℕ) (top budget : ℕ) (n : List ℕ) (r : Result Came Stop) : Type 0 where
  pub means : (g : Ready S qs at e i m top) → Means S.bytes g.world.rate (eval g.world.tables g.query g.along g.looked) budget g.used top n r

-- what is at hand
pub record LeafReady (S : Setting) (qs : List ℕ) (at : ℕ) (l : Leaf) (e i : Value) (m : List ℕ) (top : ℕ) : Type 0 where
  pub ready : Ready S qs at e i m top
  pub leaf : IsLeaf l ready.query

pub record AtHand (bs m : List ℕ) (u : Used) (g : Got) (v : Value) : Type 0 where
  pub datum : Data
  pub is : g ≡ came 0 datum
  pub holds : Holds bs m u datum v

pub record LeafHolds (S : Setting) (qs : List ℕ) (at : ℕ) (l : Leaf) (e i : Value) (m : List ℕ) (top : ℕ) (v : Value) : Type 0 where
  pub holds : (g : LeafReady S qs at l e i m top) → AtHand S.bytes m g.ready.used (eval g.ready.world.tables g.ready.query g.ready.along g.ready.looked) v

-- a query to be asked of each of a bag
pub record EachReady (S : Setting) (qs : List ℕ) (at : ℕ) (e : Value) (p : Place) (m : List ℕ) (top : ℕ) : Type 0 where
  pub world : World
  pub query : Query
  pub stands : Stands S world.literals qs at query
  pub te : Ty
  pub ti : Ty
  pub tu : Ty
  pub typed : Typed world S.scene.deep query te ti tu
  pub along : Data
  pub items : Datas
  pub is_along : is_of along te ≡ true
  pub are_items : all_of items ti ≡ true
  pub used : Used
  pub held : Held S world along e m used top
  pub row : Row S.bytes m used items p.start p.count

pub record EachAnswers (S : Setting) (qs : List ℕ) (at : ℕ) (e : Value) (p : Place) (m : List ℕ) (top budget : ℕ) (n : List ℕ) (r : Result Came Stop) : Type 0 where
  pub means : (g : EachReady S qs at e p m top) → Means S.bytes g.world.rate (each_of (λ x. eval g.world.tables g.query g.along x) g.items (λ ys. came 0 (bag ys))) budget g.used top n r

pub record KeepAnswers (S : Setting) (qs : List ℕ) (at : ℕ) (e : Value) (p : Place) (m : List ℕ) (top budget : ℕ) (n : List ℕ) (r : Result Came Stop) : Type 0 where
  pub means : (g : EachReady S qs at e p m top) → Means S.bytes g.world.rate (keep_of (λ x. eval g.world.tables g.query g.along x) g.items (λ ys. came 0 (bag ys))) budget g.used top n r
