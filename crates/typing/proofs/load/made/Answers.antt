use Rattle.std.proofs.Common.{None, arith}
use Rattle.types.specs.Shapes.{Below, meaning}
use Rattle.types.proofs.Meanings.{ranked_as}
use Rattle.typing.proofs.TypeMade.{ranked, first_below, second_below, unit_made, num_made, truth_made, text_made, bag_made, either_made, bag_short, either_short}
use Rattle.typing.proofs.load.made.Goals as goal

pub make-requires-clause-parts : goal.make-requires-clause-parts
unfolding Below
make-requires-clause-parts c = tt

pub make-requires-in-Number-clause-parts : goal.make-requires-in-Number-clause-parts
unfolding Below
make-requires-in-Number-clause-parts c = tt

pub make-requires-in-Truth-clause-parts : goal.make-requires-in-Truth-clause-parts
unfolding Below
make-requires-in-Truth-clause-parts c = tt

pub make-requires-in-Text-clause-parts : goal.make-requires-in-Text-clause-parts
unfolding Below
make-requires-in-Text-clause-parts c = tt

pub returns-in-Nothing-clause-says : goal.returns-in-Nothing-clause-says
unfolding meaning
returns-in-Nothing-clause-says c = unit_made c.args.bytes.now c.args.names.now c.args.table.now _ c.args.numbers.now c.args.at c.args.node _ c.in-Nothing.is (c.make.ensures.says _ (ranked_as c.requires.same (ranked _ c.requires.listed.ordered)))

pub returns-in-Number-clause-says : goal.returns-in-Number-clause-says
unfolding meaning
returns-in-Number-clause-says c = num_made c.args.bytes.now c.args.names.now c.args.table.now _ c.args.numbers.now c.args.at c.args.node _ c.in-Number.is (c.make-in-Number.ensures.says _ (ranked_as c.requires.same (ranked _ c.requires.listed.ordered)))

pub returns-in-Truth-clause-says : goal.returns-in-Truth-clause-says
unfolding meaning
returns-in-Truth-clause-says c = truth_made c.args.bytes.now c.args.names.now c.args.table.now _ c.args.numbers.now c.args.at c.args.node _ c.in-Truth.is (c.make-in-Truth.ensures.says _ (ranked_as c.requires.same (ranked _ c.requires.listed.ordered)))

pub returns-in-Text-clause-says : goal.returns-in-Text-clause-says
unfolding meaning
returns-in-Text-clause-says c = text_made c.args.bytes.now c.args.names.now c.args.table.now _ c.args.numbers.now c.args.at c.args.node _ c.in-Text.is (c.make-in-Text.ensures.says _ (ranked_as c.requires.same (ranked _ c.requires.listed.ordered)))

pub returns-in_default-clause-says : goal.returns-in_default-clause-says
returns-in_default-clause-says c = bag_short c.args.bytes.now c.args.names.now c.args.table.now c.args.table.now c.args.numbers.now c.args.at c.args.node None c.in-Bag.is c.in_default.len_below

pub make-requires-in-Bag-clause-parts : goal.make-requires-in-Bag-clause-parts
unfolding Below
make-requires-in-Bag-clause-parts c = first_below _ 0 c.args.numbers.now c.in-len1-up.len_at_least c.requires.numbers

pub returns-in-len1-up-clause-says : goal.returns-in-len1-up-clause-says
unfolding meaning
returns-in-len1-up-clause-says c = bag_made c.args.bytes.now c.args.names.now c.args.table.now _ c.args.numbers.now c.args.at c.args.node _ c.in-Bag.is c.in-len1-up.len_at_least (c.make-in-Bag.ensures.says _ (ranked_as c.requires.same (ranked _ c.requires.listed.ordered)))

pub returns-in_default-numbers-clause-says : goal.returns-in_default-numbers-clause-says
returns-in_default-numbers-clause-says c = either_short c.args.bytes.now c.args.names.now c.args.table.now c.args.table.now c.args.numbers.now c.args.at c.args.node None c.in-Either.is c.in_default-numbers.len_below

pub make-requires-in-Either-clause-parts : goal.make-requires-in-Either-clause-parts
unfolding Below
make-requires-in-Either-clause-parts c =
    let l = c.in-len2-up.len_at_least in
    let a = first_below _ 0 c.args.numbers.now (omega arith) c.requires.numbers in
    let b = second_below _ 0 c.args.numbers.now l c.requires.numbers in
    (omega (arith, a, b), omega (arith, a, b))

pub returns-in-len2-up-clause-says : goal.returns-in-len2-up-clause-says
unfolding meaning
returns-in-len2-up-clause-says c = either_made c.args.bytes.now c.args.names.now c.args.table.now _ c.args.numbers.now c.args.at c.args.node _ c.in-Either.is c.in-len2-up.len_at_least (c.make-in-Either.ensures.says _ (ranked_as c.requires.same (ranked _ c.requires.listed.ordered)))
