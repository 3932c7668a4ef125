use Rattle.std.proofs.Common.{sym, arith}
use Rattle.std.proofs.lemmas.Result.{err_from_is_err_and}
use Rattle.operators.proofs.Refusing.{stopped}
use Rattle.operators.specs.declared.came.Stop.TheVariants as stops
use Rattle.binary.proofs.TwoRecords.{fields_below, join_first, join_second, first_record, second_record, join_came, join_no_room}
use Rattle.binary.proofs.of_records.join_two.Goals as goal

pub returns-in_err-x-clause-does : goal.returns-in_err-x-clause-does
returns-in_err-x-clause-does c =
    let p = err_from_is_err_and c.from_residual.result c.from_residual.ensures.1 in
    rw (p.1, p.2) (join_first c.args.bytes.now c.args.deep c.args.a c.args.b _ c.args.memory.now.top c.args.left _ (sym c.in_err-x.ensures))

pub returns-in_err-y-clause-does : goal.returns-in_err-y-clause-does
returns-in_err-y-clause-does c =
    let p = err_from_is_err_and c.from_residual-in_err-y.result c.from_residual-in_err-y.ensures.1 in
    rw (p.1, p.2) (join_second c.args.bytes.now c.args.deep c.args.a c.args.b _ c.args.memory.now.top c.args.left _ _ (sym c.in_ok-x.ensures) (sym c.in_err-y.ensures))

pub joined-requires-clause-first : goal.joined-requires-clause-first
joined-requires-clause-first c = fields_below (first_record c.args.bytes.now c.args.deep c.args.a c.args.b _ c.args.memory.now.top c.args.left _ (sym c.in_ok-x.ensures) c.requires).lies

pub joined-requires-clause-second : goal.joined-requires-clause-second
joined-requires-clause-second c = fields_below (second_record c.args.bytes.now c.args.deep c.args.a c.args.b _ c.args.memory.now.top c.args.left _ (sym c.in_ok-y.ensures) c.requires).lies

pub returns-in_err-value-clause-does : goal.returns-in_err-value-clause-does
returns-in_err-value-clause-does c =
    let p = err_from_is_err_and c.from_residual-in_err-value.result c.from_residual-in_err-value.ensures.1 in
    let n = stopped c.joined.result stops.NoRoom _ c.in_err-value.ensures.value in
    rw (p.1, p.2, n.1) (join_no_room c.args.bytes.now c.args.deep c.args.a c.args.b _ c.args.memory.now.top c.args.left _ _ (sym c.in_ok-x.ensures) (sym c.in_ok-y.ensures) _ (rw n.0 at c.joined.ensures.makes))

pub returns-clause-does : goal.returns-clause-does
returns-clause-does c = join_came c.args.bytes.now c.args.deep c.args.a c.args.b _ c.args.memory.now.top c.args.left _ _ (sym c.in_ok-x.ensures) (sym c.in_ok-y.ensures) _ _ (rw c.in_ok-value.ensures.ok_part at c.joined.ensures.makes)
