use Rattle.std.proofs.Common.{arith}
use Rattle.types.proofs.Makes.{bag_after, either_after}
use Rattle.types.proofs.intern.after_parts.Goals as goal

pub returns-in-Bag : goal.returns-in-Bag
returns-in-Bag c = λ w n fs b. omega (arith, bag_after w n fs _ _ c.in-Bag.is b)

pub returns-in-Either : goal.returns-in-Either
returns-in-Either c = λ w n fs b. let z = either_after w n fs _ _ c.in-Either.is b in omega (arith, c.max.ensures, z.0, z.1)
