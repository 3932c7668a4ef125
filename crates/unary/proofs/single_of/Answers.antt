use Rattle.std.proofs.Common.{rules}
use Rattle.query.specs.Data.{left, right}
use Rattle.unary.proofs.Slots.{left_side, right_side}
use Rattle.unary.proofs.Placed.{left_comes, right_comes}
use Rattle.unary.proofs.single_of.Goals as goal

pub returns-in-Left-clause-ones : goal.returns-in-Left-clause-ones
returns-in-Left-clause-ones c = left_comes c.args.bytes.now c.args.spot c.args.deep c.args.v _ c.args.memory.now.top c.args.left _ _ c.args.op c.in-Left.is (c.sided.ensures.turns left (left_side _ (λ at r t. search rules)))

pub returns-in-Right-clause-ones : goal.returns-in-Right-clause-ones
returns-in-Right-clause-ones c = right_comes c.args.bytes.now c.args.spot c.args.deep c.args.v _ c.args.memory.now.top c.args.left _ _ c.args.op c.in-Right.is (c.sided-in-Right.ensures.turns right (right_side _ (λ at r t. search rules)))
