use Rattle.std.proofs.Common.{arith}
use Rattle.std.proofs.lemmas.Bool.Decides.{nat_tests}
use Rattle.types.proofs.Both.{first_as, next_first, next_second, next_less, next_more, next_same}
use Rattle.types.proofs.table.Table.next.Goals as goal

pub returns-in-None-Some : goal.returns-in-None-Some
returns-in-None-Some c = next_second _ _ _ _ c.requires.rises c.requires.rising _ _ (first_as c.args.p _ _ _ _ c.deref.ensures.value c.in-None-Some.is-0 c.first.ensures) (first_as c.args.q _ _ _ _ c.deref-2.ensures.value c.in-None-Some.is-1 c.first-2.ensures) c.new.ensures

pub returns-in-Some-None : goal.returns-in-Some-None
returns-in-Some-None c = next_first _ _ _ _ c.requires.rises c.requires.rising _ _ (first_as c.args.p _ _ _ _ c.deref.ensures.value c.in-Some-None.is-0 c.first.ensures) (first_as c.args.q _ _ _ _ c.deref-2.ensures.value c.in-Some-None.is-1 c.first-2.ensures) c.new-in-Some-None.ensures

pub returns-in-Less : goal.returns-in-Less
returns-in-Less c = next_less _ _ _ _ c.requires.rises c.requires.rising _ _ _ (first_as c.args.p _ _ _ _ c.deref.ensures.value c.in-Some-Some.is-0 c.first.ensures) (first_as c.args.q _ _ _ _ c.deref-2.ensures.value c.in-Some-Some.is-1 c.first-2.ensures) (grind (arith, nat_tests)) c.new-in-Less.ensures

pub returns-in-Equal : goal.returns-in-Equal
returns-in-Equal c = next_same _ _ _ _ c.requires.rises c.requires.rising _ _ _ (first_as c.args.p _ _ _ _ c.deref.ensures.value c.in-Some-Some.is-0 c.first.ensures) (first_as c.args.q _ _ _ _ c.deref-2.ensures.value c.in-Some-Some.is-1 c.first-2.ensures) (grind (arith, nat_tests)) c.new-in-Equal.ensures

pub returns-in-Greater : goal.returns-in-Greater
returns-in-Greater c = next_more _ _ _ _ c.requires.rises c.requires.rising _ _ _ (first_as c.args.p _ _ _ _ c.deref.ensures.value c.in-Some-Some.is-0 c.first.ensures) (first_as c.args.q _ _ _ _ c.deref-2.ensures.value c.in-Some-Some.is-1 c.first-2.ensures) (grind (arith, nat_tests)) c.new-in-Greater.ensures
