use Rattle.std.proofs.Common.{◌<◌, sym, mod-eq_of_lt, arith}
use Rattle.std.proofs.lemmas.Result.{err_from_is_err_and}
use Rattle.unary.proofs.OfBags.{count_no_bag, count_tired, count_turns}
use Rattle.unary.proofs.of_bags.counted.Goals as goal

pub returns-in_err-many : goal.returns-in_err-many
returns-in_err-many c =
    let p = err_from_is_err_and c.from_residual.result c.from_residual.ensures.1 in
    rw (p.1, p.2) (λ m top. count_no_bag c.args.v m top c.args.left _ (sym c.in_err-many.ensures))

pub returns-in_err-left : goal.returns-in_err-left
returns-in_err-left c =
    let p = err_from_is_err_and c.from_residual-in_err-left.result c.from_residual-in_err-left.ensures.1 in
    rw (p.1, p.2, c.in_err-left.ensures.0) (λ m top. count_tired c.args.v m top c.args.left _ (sym c.in_ok-many.ensures) c.in_err-left.ensures.1)

pub returns : goal.returns
returns c = λ m top. rw c.in_ok-left.ensures.1 (count_turns c.args.v m top c.args.left c.in_ok-many.field-0 (sym c.in_ok-many.ensures) c.in_ok-left.ensures.0 (let h : c.in_ok-many.field-0.count < 18446744073709551616 = omega arith in mod-eq_of_lt h))
