-- Bounds: what a query comes to nests no deeper, and its records are no wider, than schema and query allow.
use Rattle.std.specs.Prelude.{◌≡◌, true, List, [], ◌∷◌, ◌++◌, ℕ, ◌+◌, ◌*◌, ◌≤◌, length}
use Rattle.query.specs.Data.{Name, Data, Fields}
use Rattle.query.specs.Query.{Ty, Tys, Query}
use Rattle.query.specs.Types.{sounds, is_of, fields_are, Schema, type_of}
use Rattle.query.specs.Size.{size_q, size_s}
use Rattle.values.specs.Height.{height, height_ty}
use Rattle.bounds.specs.Names.{width, width_ty, named, nameds, schema_names, query_names, all_in, schema_named, schema_height}

-- data nest no deeper than their type
abbrev pub NoDeeper : Type 0
NoDeeper = (d : Data) (t : Ty) → is_of d t ≡ true → height d ≤ height_ty t

-- the type of a query nests no deeper than what it is asked of and two for each of its parts
abbrev pub TypeNoDeeper : Type 0
TypeNoDeeper =
    (ss : Schema) (q : Query) (e t u : Ty) (k : ℕ) → type_of ss q e t ≡ u ∷ [] → schema_height ss ≤ k → height_ty e ≤ k → height_ty t ≤ k → height_ty u ≤ k + 2 * size_q q

-- the records in the type of a query have only names of a list, if those of the schema, of what it is asked of and of the query are in it
abbrev pub StaysNamed : Type 0
StaysNamed =
    (ns : List Name) (ss : Schema) (q : Query) (e t u : Ty) → type_of ss q e t ≡ u ∷ [] → schema_named ns ss ≡ true → all_in (query_names q) ns ≡ true → named ns e ≡ true → named ns t ≡ true → named ns u ≡ true

-- a record whose names are in order and in a list has at most as many fields as the list has names
abbrev pub NoWider : Type 0
NoWider = (ns : List Name) (ts : Tys) → sounds ts ≡ true → nameds ns ts ≡ true → width_ty ts ≤ length ns

-- a record has as many fields as its type
abbrev pub AsWide : Type 0
AsWide = (fs : Fields) (ts : Tys) → fields_are fs ts ≡ true → width fs ≡ width_ty ts

-- there are at most as many names in schema and query as parts, and all of them are among them
abbrev pub FewNames : Type 0
FewNames =
    (ss : Schema) (q : Query) → (length (schema_names ss ++ query_names q) ≤ size_s ss + size_q q) × (schema_named (schema_names ss ++ query_names q) ss ≡ true) × (all_in (query_names q) (schema_names ss ++ query_names q) ≡ true)
