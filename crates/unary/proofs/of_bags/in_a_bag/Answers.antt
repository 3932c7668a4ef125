use Rattle.std.proofs.lemmas.Result.{err_from_is_err_and}
use Rattle.operators.proofs.Refusing.{stopped}
use Rattle.operators.specs.declared.came.Stop.TheVariants as stops
use Rattle.unary.proofs.OfBags.{bagged_turns, bagged_short}
use Rattle.unary.proofs.of_bags.in_a_bag.Goals as goal

pub returns-in_err-value-clause-turns : goal.returns-in_err-value-clause-turns
returns-in_err-value-clause-turns c =
    let p = err_from_is_err_and c.from_residual.result c.from_residual.ensures.1 in
    let n = stopped c.in_bag.result stops.NoRoom _ c.in_err-value.ensures.value in
    rw (p.1, p.2, n.1) (bagged_short c.args.v _ c.args.memory.now.top c.args.left _ (rw n.0 at c.in_bag.ensures.makes))

pub returns-clause-turns : goal.returns-clause-turns
returns-clause-turns c = bagged_turns c.args.v _ c.args.memory.now.top c.args.left _ _ (rw c.in_ok-value.ensures.ok_part at c.in_bag.ensures.makes)
