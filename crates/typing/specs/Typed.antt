-- What is told of types that are written out in a query, and of operators with names.
use Rattle.std.specs.Prelude.{◌≡◌, ℕ, ◌<◌, ◌≤◌, ◌&&◌, List, [], ◌∷◌, ◌++◌, length, drop, Some, None, Option, slice_index_or}
use Rattle.query.specs.Data.{Name, Data}
use Rattle.query.specs.Query.{Ty, Op1}
use Rattle.query.specs.Types.{sound, is_of, if_so, type1}
use Rattle.query.specs.Size.{size_t}
use Rattle.format.specs.Coding.{name}
use Rattle.format.specs.Wire.{write_ty, FitsTy, write_data, FitsData, write_1, Fits1}
use Rattle.format.specs.Nodes.{IsOp1}
use Rattle.format.specs.declared.node.Unary.{Unary}
use Rattle.ranks.specs.Ranks.{In, names_of}
use Rattle.ranks.specs.Known.{KnowsTy, Knows1, names_t, names_1}
use Rattle.ranks.specs.declared.names.Names.{Names}
use Rattle.types.specs.Shapes.{type_at}
use Rattle.types.specs.Operators.{matched_ty}
use Rattle.types.specs.Outcomes.{look, Meant}
use Rattle.types.specs.declared.table.Table.{Table}

-- whatever type stands at a place, if its names are known and it is not too large
abbrev pub TypeTold : List ℕ → Names → Table → Table → ℕ → Option ℕ → Type 0
TypeTold xs v t u at r = (y : Ty) (rest : List ℕ) → FitsTy y → drop at xs ≡ write_ty y ++ rest → KnowsTy (names_of xs v) y → size_t y ≤ 8192 → Meant (names_of xs v) t u (size_t y) (names_t y) r (if_so (sound y) (y ∷ []))

-- a number is that of a name
abbrev pub NameIs : List Name → Name → Option ℕ → Type 0
NameIs ns m None = ⊥
NameIs ns m (Some k) = slice_index_or ns k [] ≡ m

abbrev pub BelowNames : List Name → Option ℕ → Type 0
BelowNames ns None = Unit {0}
BelowNames ns (Some k) = k < length ns

-- whatever known name stands at a place
pub record NameTold (xs : List ℕ) (v : Names) (at n : ℕ) (r : Option ℕ) : Type 0 where
  pub below : BelowNames (names_of xs v) r
  pub tells : (m : Name) (rest : List ℕ) → name.Fits m → length m ≡ n → at ≤ length xs → drop at xs ≡ name.write m ++ rest → In (names_of xs v) m → NameIs (names_of xs v) m r

-- whatever operator of one stands at a place, if its names are known
abbrev pub OpTold : List ℕ → Names → Table → Table → ℕ → Unary → ℕ → Option ℕ → Type 0
OpTold xs v t u at k x r =
    (o : Op1) (rest : List ℕ) → IsOp1 k o → Fits1 o → at ≤ length xs → drop at xs ≡ write_1 o ++ rest → Knows1 (names_of xs v) o → names_1 o ≤ 8200 → Meant (names_of xs v) t u 1 t.names r (type1 o (type_at (names_of xs v) (look t) x))

-- whatever type and datum stand at two places
abbrev pub DatumTold : List ℕ → Names → Table → Table → ℕ → ℕ → Option ℕ → Type 0
DatumTold xs v t u at to r =
    (y : Ty) (d : Data) (rest more : List ℕ) → FitsTy y → FitsData d → drop at xs ≡ write_ty y ++ rest → drop to xs ≡ write_data d ++ more → KnowsTy (names_of xs v) y → size_t y ≤ 8192 → Meant (names_of xs v) t u (size_t y) (names_t y) r (if_so (sound y && is_of d y) (y ∷ []))

-- whatever two names stand after a tag at a place
abbrev pub MatchedTold : List ℕ → Names → Table → Table → ℕ → ℕ → ℕ → ℕ → ℕ → Option ℕ → Type 0
MatchedTold xs v t u at j k x y r =
    (tag : ℕ) (m n : Name) (rest : List ℕ) → name.Fits m → name.Fits n → length m ≡ j → length n ≡ k → drop at xs ≡ (tag ∷ (name.write m ++ name.write n)) ++ rest → In (names_of xs v) m → In (names_of xs v) n
    → Meant (names_of xs v) t u 2 t.names r (matched_ty m n (type_at (names_of xs v) (look t) x) (type_at (names_of xs v) (look t) y))
