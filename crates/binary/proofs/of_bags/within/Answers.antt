use Rattle.std.proofs.Common.{sym}
use Rattle.std.proofs.lemmas.Result.{err_from_is_err_and}
use Rattle.binary.proofs.TwoBags.{within_wrong, within_readable, within_tired, within_came}
use Rattle.binary.proofs.of_bags.within.Goals as goal

pub returns-in_err-y : goal.returns-in_err-y
returns-in_err-y c = λ top.
    let p = err_from_is_err_and c.from_residual.result c.from_residual.ensures.1 in
    rw (p.1, p.2) (within_wrong c.args.bytes.now c.args.deep c.args.a c.args.b _ top c.args.left _ (sym c.in_err-y.ensures))

pub returns-in_err-rest : goal.returns-in_err-rest
returns-in_err-rest c = λ top.
    let p = err_from_is_err_and c.from_residual-in_err-rest.result c.from_residual-in_err-rest.ensures.1 in
    rw (p.1, p.2, c.in_err-rest.ensures.0) (within_tired c.args.bytes.now c.args.deep c.args.a c.args.b _ top c.args.left _ (sym c.in_ok-y.ensures) c.in_err-rest.ensures.1)

pub is_in-requires : goal.is_in-requires
is_in-requires c = within_readable c.args.bytes.now c.args.deep c.args.a c.args.b _ c.requires.top c.args.left _ (sym c.in_ok-y.ensures) c.requires.given

pub returns : goal.returns
returns c = λ top. rw c.in_ok-rest.ensures.1 (within_came c.args.bytes.now c.args.deep c.args.a c.args.b _ top c.args.left _ (sym c.in_ok-y.ensures) _ c.in_ok-rest.ensures.0 c.is_in.ensures)
