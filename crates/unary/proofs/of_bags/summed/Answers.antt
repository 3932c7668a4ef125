use Rattle.std.proofs.Common.{sym}
use Rattle.std.proofs.lemmas.Result.{err_from_is_err_and}
use Rattle.operators.proofs.Refusing.{stopped}
use Rattle.operators.specs.declared.came.Stop.TheVariants as stops
use Rattle.bags.proofs.Things.{readable_more}
use Rattle.unary.proofs.OfBags.{bag_reads, sum_no_bag, sum_tired, sum_turns, sum_wrong}
use Rattle.unary.proofs.of_bags.summed.Goals as goal

pub returns-in_err-place : goal.returns-in_err-place
returns-in_err-place c =
    let p = err_from_is_err_and c.from_residual.result c.from_residual.ensures.1 in
    rw (p.1, p.2) (sum_no_bag c.args.v _ c.args.memory.now.top c.args.left _ (sym c.in_err-place.ensures))

pub returns-in_err-left : goal.returns-in_err-left
returns-in_err-left c =
    let p = err_from_is_err_and c.from_residual-in_err-left.result c.from_residual-in_err-left.ensures.1 in
    rw (p.1, p.2, c.in_err-left.ensures.0) (sum_tired c.args.v _ c.args.memory.now.top c.args.left c.in_ok-place.place (sym c.in_ok-place.ensures) c.in_err-left.ensures.1)

pub sum-requires : goal.sum-requires
sum-requires c = rw c.row.ensures (readable_more (bag_reads c.args.v _ c.args.memory.now.top c.args.left c.in_ok-place.place (sym c.in_ok-place.ensures) c.requires) c.requires.room)

pub returns-in_err-total : goal.returns-in_err-total
returns-in_err-total c =
    let p = err_from_is_err_and c.from_residual-in_err-total.result c.from_residual-in_err-total.ensures.1 in
    let n = stopped c.sum.result stops.Wrong _ c.in_err-total.ensures.value in
    rw (p.1, p.2, n.1) (sum_wrong c.args.v _ c.args.memory.now.top c.args.left c.in_ok-place.place (sym c.in_ok-place.ensures) (rw (c.row.ensures, n.0) at c.sum.ensures))

pub returns : goal.returns
returns c = rw c.in_ok-left.ensures.1 (sum_turns c.args.v _ c.args.memory.now.top c.args.left c.in_ok-place.place (sym c.in_ok-place.ensures) c.in_ok-total.total c.in_ok-left.ensures.0 (rw (c.row.ensures, c.in_ok-total.ensures.ok_part) at c.sum.ensures))
