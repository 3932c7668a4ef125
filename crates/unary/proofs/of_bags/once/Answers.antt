use Rattle.std.proofs.Common.{sym}
use Rattle.std.proofs.lemmas.Result.{err_from_is_err_and}
use Rattle.operators.proofs.Refusing.{stopped}
use Rattle.operators.specs.declared.came.Stop.TheVariants as stops
use Rattle.unary.proofs.OfBags.{bag_reads, once_no_bag, once_tired, once_turns, once_short}
use Rattle.unary.proofs.of_bags.once.Goals as goal

pub returns-in_err-place-clause-turns : goal.returns-in_err-place-clause-turns
returns-in_err-place-clause-turns c =
    let p = err_from_is_err_and c.from_residual.result c.from_residual.ensures.1 in
    rw (p.1, p.2) (once_no_bag c.args.v _ c.args.memory.now.top c.args.left _ (sym c.in_err-place.ensures) c.args.bytes.now c.args.deep)

pub returns-in_err-left-clause-turns : goal.returns-in_err-left-clause-turns
returns-in_err-left-clause-turns c =
    let p = err_from_is_err_and c.from_residual-in_err-left.result c.from_residual-in_err-left.ensures.1 in
    rw (p.1, p.2, c.in_err-left.ensures.0) (once_tired c.args.v _ c.args.memory.now.top c.args.left c.in_ok-place.place (sym c.in_ok-place.ensures) c.args.bytes.now c.args.deep c.in_err-left.ensures.1)

pub distinct-requires : goal.distinct-requires
distinct-requires c = bag_reads c.args.v _ c.args.memory.now.top c.args.left c.in_ok-place.place (sym c.in_ok-place.ensures) c.requires

pub returns-in_err-value-clause-turns : goal.returns-in_err-value-clause-turns
returns-in_err-value-clause-turns c =
    let p = err_from_is_err_and c.from_residual-in_err-value.result c.from_residual-in_err-value.ensures.1 in
    let n = stopped c.distinct.result stops.NoRoom _ c.in_err-value.ensures.value in
    rw (p.1, p.2, n.1) (once_short c.args.v _ c.args.memory.now.top c.args.left c.in_ok-place.place (sym c.in_ok-place.ensures) c.args.bytes.now c.args.deep _ c.in_ok-left.ensures.0 (rw n.0 at c.distinct.ensures.makes))

pub returns-clause-turns : goal.returns-clause-turns
returns-clause-turns c = rw c.in_ok-left.ensures.1 (once_turns c.args.v _ c.args.memory.now.top c.args.left c.in_ok-place.place (sym c.in_ok-place.ensures) c.args.bytes.now c.args.deep _ _ c.in_ok-left.ensures.0 (rw c.in_ok-value.ensures.ok_part at c.distinct.ensures.makes))
