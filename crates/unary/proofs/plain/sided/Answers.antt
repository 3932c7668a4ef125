use Rattle.std.proofs.lemmas.Result.{err_from_is_err_and}
use Rattle.values.proofs.Frame.{pushed_there}
use Rattle.operators.proofs.Refusing.{stopped}
use Rattle.operators.specs.declared.came.Stop.TheVariants as stops
use Rattle.unary.proofs.Slots.{side_turns, side_short}
use Rattle.unary.proofs.plain.sided.Goals as goal

pub returns-in_err-at-clause-turns : goal.returns-in_err-at-clause-turns
returns-in_err-at-clause-turns g c =
    let p = err_from_is_err_and c.from_residual.result c.from_residual.ensures.1 in
    let n = stopped c.put_next.result stops.NoRoom _ c.in_err-at.ensures.value in
    rw (p.1, p.2, n.1) (λ on s. side_short _ on s c.args.v c.args.left (rw n.0 at c.put_next.ensures))

pub returns-clause-turns : goal.returns-clause-turns
returns-clause-turns g c = λ on s. side_turns _ on s c.args.v c.args.left c.side.result c.side.ensures (pushed_there (rw c.in_ok-at.ensures.ok_part at c.put_next.ensures))
