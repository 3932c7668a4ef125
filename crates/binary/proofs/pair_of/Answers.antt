use Rattle.std.proofs.Common.{arith}
use Rattle.binary.proofs.Joints.{operands_of, operated, product_values, product_done, bytes_enough, match_values, match_done}
use Rattle.binary.proofs.pair_of.Goals as goal

pub operate-requires : goal.operate-requires
operate-requires c = operands_of (rw c.in-Op.is at c.requires)

pub pair_up-requires : goal.pair_up-requires
pair_up-requires c = product_values (rw c.in-Product.is at c.requires)

pub overflow_add-first : goal.overflow_add-first
overflow_add-first c = omega (arith, bytes_enough (rw c.in-Matched.is at c.requires))

pub overflow_add-second : goal.overflow_add-second
overflow_add-second c = omega (arith, bytes_enough (rw c.in-Matched.is at c.requires))

pub overflow_add-second-in-Matched : goal.overflow_add-second-in-Matched
overflow_add-second-in-Matched c = omega (arith, bytes_enough (rw c.in-Matched.is at c.requires))

pub pair_up-requires-in-Matched : goal.pair_up-requires-in-Matched
pair_up-requires-in-Matched c = match_values (rw c.in-Matched.is at c.requires)

pub returns-in-Op : goal.returns-in-Op
returns-in-Op c = record { frozen = c.operate.ensures.frozen; same = c.operate.ensures.same; comes = rw c.in-Op.is (operated c.operate.ensures.does) }

pub returns-in-Product : goal.returns-in-Product
returns-in-Product c = record { frozen = c.pair_up.ensures.frozen; same = c.pair_up.ensures.same; comes = rw c.in-Product.is (product_done c.pair_up.ensures.pairs) }

pub returns-in-Matched : goal.returns-in-Matched
returns-in-Matched c = record { frozen = c.pair_up-in-Matched.ensures.frozen; same = c.pair_up-in-Matched.ensures.same; comes = rw c.in-Matched.is (match_done c.pair_up-in-Matched.ensures.pairs) }
