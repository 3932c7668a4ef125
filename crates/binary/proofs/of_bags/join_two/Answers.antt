use Rattle.std.proofs.Common.{sym, arith}
use Rattle.std.proofs.lemmas.Result.{err_from_is_err_and}
use Rattle.operators.proofs.Refusing.{stopped}
use Rattle.operators.specs.declared.came.Stop.TheVariants as stops
use Rattle.binary.proofs.TwoBags.{join_first, join_second, first_readable, second_readable, count_small, join_tired, join_came, join_no_room}
use Rattle.binary.proofs.of_bags.join_two.Goals as goal

pub returns-in_err-x-clause-does : goal.returns-in_err-x-clause-does
returns-in_err-x-clause-does c =
    let p = err_from_is_err_and c.from_residual.result c.from_residual.ensures.1 in
    rw (p.1, p.2) (join_first c.args.a c.args.b _ c.args.memory.now.top c.args.left _ (sym c.in_err-x.ensures))

pub returns-in_err-y-clause-does : goal.returns-in_err-y-clause-does
returns-in_err-y-clause-does c =
    let p = err_from_is_err_and c.from_residual-in_err-y.result c.from_residual-in_err-y.ensures.1 in
    rw (p.1, p.2) (join_second c.args.a c.args.b _ c.args.memory.now.top c.args.left _ _ (sym c.in_ok-x.ensures) (sym c.in_err-y.ensures))

pub overflow_add-x : goal.overflow_add-x
overflow_add-x c = omega (arith, c.args.memory.now.fits, c.args.memory.now.within, count_small c.args.a c.args.b _ c.args.memory.now.top c.args.left _ _ (sym c.in_ok-x.ensures) (sym c.in_ok-y.ensures) c.requires)

pub returns-in_err-rest-clause-does : goal.returns-in_err-rest-clause-does
returns-in_err-rest-clause-does c =
    let p = err_from_is_err_and c.from_residual-in_err-rest.result c.from_residual-in_err-rest.ensures.1 in
    rw (p.1, p.2, c.in_err-rest.ensures.0) (join_tired c.args.a c.args.b _ c.args.memory.now.top c.args.left _ _ (sym c.in_ok-x.ensures) (sym c.in_ok-y.ensures) c.in_err-rest.ensures.1)

pub join_bags-requires-clause-first : goal.join_bags-requires-clause-first
join_bags-requires-clause-first c = first_readable c.args.a c.args.b _ c.args.memory.now.top c.args.left _ _ (sym c.in_ok-x.ensures) (sym c.in_ok-y.ensures) c.requires

pub join_bags-requires-clause-second : goal.join_bags-requires-clause-second
join_bags-requires-clause-second c = second_readable c.args.a c.args.b _ c.args.memory.now.top c.args.left _ _ (sym c.in_ok-x.ensures) (sym c.in_ok-y.ensures) c.requires

pub returns-in_err-value-clause-does : goal.returns-in_err-value-clause-does
returns-in_err-value-clause-does c =
    let p = err_from_is_err_and c.from_residual-in_err-value.result c.from_residual-in_err-value.ensures.1 in
    let n = stopped c.join_bags.result stops.NoRoom _ c.in_err-value.ensures.value in
    rw (p.1, p.2, n.1) (join_no_room c.args.a c.args.b _ c.args.memory.now.top c.args.left _ _ (sym c.in_ok-x.ensures) (sym c.in_ok-y.ensures) _ c.in_ok-rest.ensures.0 (rw n.0 at c.join_bags.ensures.makes))

pub returns-clause-does : goal.returns-clause-does
returns-clause-does c = rw c.in_ok-rest.ensures.1 (join_came c.args.a c.args.b _ c.args.memory.now.top c.args.left _ _ (sym c.in_ok-x.ensures) (sym c.in_ok-y.ensures) _ _ c.in_ok-rest.ensures.0 (rw c.in_ok-value.ensures.ok_part at c.join_bags.ensures.makes))
