-- Laws of records. Each is a statement; a function's contract that names it asks for its proof.
use Rattle.std.specs.Prelude.{◌≡◌, true, List}
use Rattle.query.specs.Data.{Name, Fields, left_out, only, both, in_order}
use Rattle.records.specs.Parts.{merged}

unfoldable pub LeftOutStaysInOrder : Type 0
LeftOutStaysInOrder = (n : Name) (fs : Fields) → in_order fs ≡ true → in_order (left_out n fs) ≡ true

unfoldable pub OnlyStaysInOrder : Type 0
OnlyStaysInOrder = (ns : List Name) (fs : Fields) → in_order fs ≡ true → in_order (only ns fs) ≡ true

-- the first need not be in order for this
unfoldable pub MergedIsBoth : Type 0
MergedIsBoth = (fs gs : Fields) → in_order gs ≡ true → merged fs gs ≡ both fs gs
