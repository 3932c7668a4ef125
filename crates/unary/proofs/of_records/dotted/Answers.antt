use Rattle.std.proofs.Common.{sym}
use Rattle.std.proofs.lemmas.Result.{err_from_is_err_and}
use Rattle.operators.proofs.Refusing.{stopped}
use Rattle.operators.specs.declared.came.Stop.TheVariants as stops
use Rattle.records.proofs.Fields.{below_more}
use Rattle.unary.proofs.OfRecords.{record_reads, dot_no_record, dot_turns, dot_wrong}
use Rattle.unary.proofs.of_records.dotted.Goals as goal

pub returns-in_err-place : goal.returns-in_err-place
returns-in_err-place c =
    let p = err_from_is_err_and c.from_residual.result c.from_residual.ensures.1 in
    rw (p.1, p.2) (dot_no_record c.args.bytes.now c.args.v _ c.args.memory.now.top c.args.left _ (sym c.in_err-place.ensures) c.args.name)

pub field-requires : goal.field-requires
field-requires c = rw c.row.ensures (below_more (record_reads c.args.v _ c.args.memory.now.top c.args.left c.in_ok-place.place (sym c.in_ok-place.ensures) c.requires) c.requires.room)

pub returns-in_err-value : goal.returns-in_err-value
returns-in_err-value c =
    let p = err_from_is_err_and c.from_residual-in_err-value.result c.from_residual-in_err-value.ensures.1 in
    let n = stopped c.field.result stops.Wrong _ c.in_err-value.ensures.value in
    rw (p.1, p.2, n.1) (dot_wrong c.args.v _ c.args.memory.now.top c.args.left c.in_ok-place.place (sym c.in_ok-place.ensures) c.args.bytes.now c.args.name (rw (c.row.ensures, n.0) at c.field.ensures))

pub returns : goal.returns
returns c = dot_turns c.args.v _ c.args.memory.now.top c.args.left c.in_ok-place.place (sym c.in_ok-place.ensures) c.args.bytes.now c.args.name c.in_ok-value.value (rw (c.row.ensures, c.in_ok-value.ensures.ok_part) at c.field.ensures)
