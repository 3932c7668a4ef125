use Rattle.std.proofs.Common.{arith}
use Rattle.std.proofs.lemmas.Bool.Decides.{nat_tests}
use Rattle.refusals.specs.declared.Refusal.TheVariants.{NoRequest, TooManyParts, NotInOrder, NoType, NotOfSchema, CannotDo}
use Rattle.printing.specs.Lines.{words_for}
use Rattle.printing.proofs.line.what_is_wrong.Goals as goal

-- the number is that of no refusal
pub returns-in-Err : goal.returns-in-Err
unfolding words_for
returns-in-Err c = let other = c.in-Err.ensures.1 in grind (arith, nat_tests, other NoRequest, other TooManyParts, other NotInOrder, other NoType, other NotOfSchema, other CannotDo)
