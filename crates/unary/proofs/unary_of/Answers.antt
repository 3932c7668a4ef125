use Rattle.std.proofs.Common.{◌≡◌, ◌+◌, rules, arith}
use Rattle.unary.proofs.Placed.{not_comes, in_bag_comes, flat_comes, count_comes, sum_comes, distinct_comes, dot_comes, as_field_comes, without_comes, only_comes, dot_in, as_field_in, without_in, only_in}
use Rattle.unary.proofs.unary_of.Goals as goal

pub named-requires-asks-overflow_add-result : goal.named-requires-asks-overflow_add-result
named-requires-asks-overflow_add-result c = omega (arith, dot_in c.args.bytes.now c.args.spot c.args.deep c.args.op c.args.v _ c.args.memory.now.top c.requires c.in-Dot.count c.in-Dot.is)

pub named-requires-in-AsField-asks-overflow_add-result : goal.named-requires-in-AsField-asks-overflow_add-result
named-requires-in-AsField-asks-overflow_add-result c = omega (arith, as_field_in c.args.bytes.now c.args.spot c.args.deep c.args.op c.args.v _ c.args.memory.now.top c.requires c.in-AsField.count c.in-AsField.is)

pub named-requires-in-Without-asks-overflow_add-result : goal.named-requires-in-Without-asks-overflow_add-result
named-requires-in-Without-asks-overflow_add-result c = omega (arith, without_in c.args.bytes.now c.args.spot c.args.deep c.args.op c.args.v _ c.args.memory.now.top c.requires c.in-Without.count c.in-Without.is)

pub named-requires-in-Only-asks-overflow_add-result : goal.named-requires-in-Only-asks-overflow_add-result
named-requires-in-Only-asks-overflow_add-result c = omega (arith, only_in c.args.bytes.now c.args.spot c.args.deep c.args.op c.args.v _ c.args.memory.now.top c.requires c.in-Only.many c.in-Only.is)

pub projected-requires-clause-names : goal.projected-requires-clause-names
projected-requires-clause-names c = let at : c.named-in-Only.result ≡ record { start = c.args.spot + 5; count = c.in-Only.many } = search rules in rw at (only_in c.args.bytes.now c.args.spot c.args.deep c.args.op c.args.v _ c.args.memory.now.top c.requires c.in-Only.many c.in-Only.is)

pub returns-in-Not-clause-ones : goal.returns-in-Not-clause-ones
returns-in-Not-clause-ones c = not_comes c.args.bytes.now c.args.spot c.args.deep c.args.v _ c.args.memory.now.top c.args.left _ _ c.args.op c.in-Not.is (c.negated.ensures _ _)

pub returns-in-InBag-clause-ones : goal.returns-in-InBag-clause-ones
returns-in-InBag-clause-ones c = in_bag_comes c.args.bytes.now c.args.spot c.args.deep c.args.v _ c.args.memory.now.top c.args.left _ _ c.args.op c.in-InBag.is c.in_a_bag.ensures.turns

pub returns-in-Flat-clause-ones : goal.returns-in-Flat-clause-ones
returns-in-Flat-clause-ones c = flat_comes c.args.bytes.now c.args.spot c.args.deep c.args.v _ c.args.memory.now.top c.args.left _ _ c.args.op c.in-Flat.is c.flattened.ensures.turns

pub returns-in-Count-clause-ones : goal.returns-in-Count-clause-ones
returns-in-Count-clause-ones c = count_comes c.args.bytes.now c.args.spot c.args.deep c.args.v _ c.args.memory.now.top c.args.left _ _ c.args.op c.in-Count.is (c.counted.ensures _ _)

pub returns-in-Sum-clause-ones : goal.returns-in-Sum-clause-ones
returns-in-Sum-clause-ones c = sum_comes c.args.bytes.now c.args.spot c.args.deep c.args.v _ c.args.memory.now.top c.args.left _ _ c.args.op c.in-Sum.is c.summed.ensures

pub returns-in-Distinct-clause-ones : goal.returns-in-Distinct-clause-ones
returns-in-Distinct-clause-ones c = distinct_comes c.args.bytes.now c.args.spot c.args.deep c.args.v _ c.args.memory.now.top c.args.left _ _ c.args.op c.in-Distinct.is c.once.ensures.turns

pub returns-in-Dot-clause-ones : goal.returns-in-Dot-clause-ones
returns-in-Dot-clause-ones c = let at : c.named.result ≡ record { start = c.args.spot + 5; count = c.in-Dot.count } = search rules in dot_comes c.args.bytes.now c.args.spot c.args.deep c.args.v _ c.args.memory.now.top c.args.left _ _ c.args.op c.in-Dot.count c.in-Dot.is (rw at at c.dotted.ensures)

pub returns-in-AsField-clause-ones : goal.returns-in-AsField-clause-ones
returns-in-AsField-clause-ones c = let at : c.named-in-AsField.result ≡ record { start = c.args.spot + 5; count = c.in-AsField.count } = search rules in as_field_comes c.args.bytes.now c.args.spot c.args.deep c.args.v _ c.args.memory.now.top c.args.left _ _ c.args.op c.in-AsField.count c.in-AsField.is (rw at at (c.fielded.ensures.turns c.args.bytes.now))

pub returns-in-Without-clause-ones : goal.returns-in-Without-clause-ones
returns-in-Without-clause-ones c = let at : c.named-in-Without.result ≡ record { start = c.args.spot + 5; count = c.in-Without.count } = search rules in without_comes c.args.bytes.now c.args.spot c.args.deep c.args.v _ c.args.memory.now.top c.args.left _ _ c.args.op c.in-Without.count c.in-Without.is (rw at at c.left_out.ensures.turns)

pub returns-in-Only-clause-ones : goal.returns-in-Only-clause-ones
returns-in-Only-clause-ones c = let at : c.named-in-Only.result ≡ record { start = c.args.spot + 5; count = c.in-Only.many } = search rules in only_comes c.args.bytes.now c.args.spot c.args.deep c.args.v _ c.args.memory.now.top c.args.left _ _ c.args.op c.in-Only.many c.in-Only.is (rw at at c.projected.ensures.turns)
