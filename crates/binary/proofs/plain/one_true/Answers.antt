use Rattle.std.proofs.Common.{sym, refl}
use Rattle.std.proofs.lemmas.Result.{err_from_is_err_and}
use Rattle.binary.proofs.Simple.{or_first, or_second, or_comes}
use Rattle.binary.proofs.plain.one_true.Goals as goal

pub returns-in_err-x : goal.returns-in_err-x
returns-in_err-x c = λ top.
    let p = err_from_is_err_and c.from_residual.result c.from_residual.ensures.1 in
    rw (p.1, p.2) (or_first c.args.a c.args.b top c.args.left _ (sym c.in_err-x.ensures))

pub returns-in_err-y : goal.returns-in_err-y
returns-in_err-y c = λ top.
    let p = err_from_is_err_and c.from_residual-in_err-y.result c.from_residual-in_err-y.ensures.1 in
    rw (p.1, p.2) (or_second c.args.a c.args.b top c.args.left _ _ (sym c.in_ok-x.ensures) (sym c.in_err-y.ensures))

pub returns-then-x : goal.returns-then-x
returns-then-x c = λ top. or_comes c.args.a c.args.b top c.args.left _ _ _ (sym c.in_ok-x.ensures) (sym c.in_ok-y.ensures) (rw c.if-x.true refl)

pub returns-else-x : goal.returns-else-x
returns-else-x c = λ top. or_comes c.args.a c.args.b top c.args.left _ _ _ (sym c.in_ok-x.ensures) (sym c.in_ok-y.ensures) (rw c.if-x.false refl)
