use Rattle.std.proofs.Common.{sym}
use Rattle.std.proofs.lemmas.Result.{err_from_is_err_and}
use Rattle.unary.proofs.Slots.{no_truth_turns, not_turns}
use Rattle.unary.proofs.plain.negated.Goals as goal

pub returns-in_err-b : goal.returns-in_err-b
returns-in_err-b c =
    let p = err_from_is_err_and c.from_residual.result c.from_residual.ensures.1 in
    rw (p.1, p.2) (λ m top. no_truth_turns c.args.v m top c.args.left _ (sym c.in_err-b.ensures))

pub returns : goal.returns
returns c = λ m top. not_turns c.args.v m top c.args.left _ (sym c.in_ok-b.ensures)
