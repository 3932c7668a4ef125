use Rattle.std.proofs.Common.{rules}
use Rattle.std.proofs.lemmas.Slice.Eq.{slice_eq-Decides}
use Rattle.types.specs.declared.entry.Field.{Field}
use Rattle.types.proofs.Makes.{told_by}
use Rattle.types.proofs.intern.same_fields.Goals as goal

pub returns-then-eq-2 : goal.returns-then-eq-2
returns-then-eq-2 c = told_by _ (slice_eq-Decides (λ (a b : Field). search rules) _ _ _ c.eq-then-eq-2.ensures)
