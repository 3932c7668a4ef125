-- Operators by the numbers of names.
use Rattle.std.specs.Prelude.{ℕ, ◌<◌, List, [], ◌∷◌, slice_index_or}
use Rattle.query.specs.Data.{Name}
use Rattle.query.specs.Query.{Op1, not_so, in_bag, flat, count, sum, distinct, join_recs, Ty, Tys, no_ty, ty, a_bag, a_rec}
use Rattle.types.specs.Shapes.{Shape, type_at}
use Rattle.query.specs.Types.{on_ty, if_so, same_ty, fields_in, get_ty, both_tys, type1, type2}
use Rattle.format.specs.declared.node.Unary.{Unary}
use Rattle.format.specs.declared.node.Unary.TheVariants.{Not, InBag, Flat, Count, Sum, Distinct, Dot, AsField, Without, Only}

-- numbers of names
unfoldable pub NamesOf : ℕ → List ℕ → Type 0
NamesOf w [] = Unit {0}
NamesOf w (k ∷ ks) = (k < w) × NamesOf w ks

-- the names of some numbers
unfoldable pub named : List Name → List ℕ → List Name
named ns [] = []
named ns (k ∷ ks) = slice_index_or ns k [] ∷ named ns ks

-- an operator that has no name, and which it is
abbrev pub Plain1 : Unary → Type 0
Plain1 Not = Unit {0}
Plain1 InBag = Unit {0}
Plain1 Flat = Unit {0}
Plain1 Count = Unit {0}
Plain1 Sum = Unit {0}
Plain1 Distinct = Unit {0}
Plain1 (Dot k) = ⊥
Plain1 (AsField k) = ⊥
Plain1 (Without k) = ⊥
Plain1 (Only k) = ⊥

abbrev pub op_1 : Unary → Op1
op_1 Not = not_so
op_1 InBag = in_bag
op_1 Flat = flat
op_1 Count = count
op_1 Sum = sum
op_1 Distinct = distinct
op_1 (Dot k) = not_so
op_1 (AsField k) = not_so
op_1 (Without k) = not_so
op_1 (Only k) = not_so

-- the type of a product, and of a matching, by those of its two bags
abbrev pub product_ty : Ty → Ty → List Ty
product_ty a b = on_ty (fields_in a) (λ ts. on_ty (fields_in b) (λ us. a_bag (a_rec (both_tys ts us)) ∷ []))

abbrev pub matched_ty : Name → Name → Ty → Ty → List Ty
matched_ty m n a b =
    on_ty (fields_in a) (λ ts. on_ty (fields_in b) (λ us. on_ty (get_ty m ts) (λ x. on_ty (get_ty n us) (λ y. if_so (same_ty x y) (a_bag (a_rec (both_tys ts us)) ∷ [])))))

-- two records in one, in a bag
abbrev pub paired_ty : Ty → Ty → List Ty
paired_ty a b = on_ty (type2 join_recs a b) (λ r. type1 in_bag r)

-- the types of some numbers, and a record's of names and types one by one
unfoldable pub types_of : List Name → List Shape → List ℕ → List Ty
types_of ns ss [] = []
types_of ns ss (x ∷ xs) = type_at ns ss x ∷ types_of ns ss xs

unfoldable pub zip_ty : List Name → List Ty → Tys
zip_ty [] ts = no_ty
zip_ty (n ∷ ns) [] = no_ty
zip_ty (n ∷ ns) (t ∷ ts) = ty n t (zip_ty ns ts)
