use Rattle.std.proofs.Common.{sym}
use Rattle.std.proofs.lemmas.Result.{err_from_is_err_and}
use Rattle.operators.proofs.Refusing.{stopped}
use Rattle.operators.specs.declared.came.Stop.TheVariants as stops
use Rattle.unary.proofs.OfRecords.{record_reads, only_no_record, only_turns, only_short}
use Rattle.unary.proofs.of_records.projected.Goals as goal

pub returns-in_err-place-clause-turns : goal.returns-in_err-place-clause-turns
returns-in_err-place-clause-turns c =
    let p = err_from_is_err_and c.from_residual.result c.from_residual.ensures.1 in
    rw (p.1, p.2) (only_no_record c.args.bytes.now c.args.v _ c.args.memory.now.top c.args.left _ (sym c.in_err-place.ensures) c.args.names.start c.args.names.count)

pub only-requires-clause-below : goal.only-requires-clause-below
only-requires-clause-below c = record_reads c.args.v _ c.args.memory.now.top c.args.left c.in_ok-place.place (sym c.in_ok-place.ensures) c.requires.lies

pub returns-in_err-value-clause-turns : goal.returns-in_err-value-clause-turns
returns-in_err-value-clause-turns c =
    let p = err_from_is_err_and c.from_residual-in_err-value.result c.from_residual-in_err-value.ensures.1 in
    let n = stopped c.only.result stops.NoRoom _ c.in_err-value.ensures.value in
    rw (p.1, p.2, n.1) (only_short c.args.v _ c.args.memory.now.top c.args.left c.in_ok-place.place (sym c.in_ok-place.ensures) c.args.bytes.now c.args.names.start c.args.names.count _ (rw n.0 at c.only.ensures.makes))

pub returns-clause-turns : goal.returns-clause-turns
returns-clause-turns c = only_turns c.args.v _ c.args.memory.now.top c.args.left c.in_ok-place.place (sym c.in_ok-place.ensures) c.args.bytes.now c.args.names.start c.args.names.count _ _ (rw c.in_ok-value.ensures.ok_part at c.only.ensures.makes)
