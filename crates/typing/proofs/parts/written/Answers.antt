use Rattle.typing.proofs.DatumTold.{datum_none, datum_not}
use Rattle.typing.proofs.parts.written.Goals as goal

pub returns-in_err-x-clause-told : goal.returns-in_err-x-clause-told
returns-in_err-x-clause-told c = rw c.from_residual.ensures (datum_none c.args.bytes.now c.args.names.now c.args.table.now _ c.args.at c.args.datum_at c.in_err-x.ensures.told)

pub returns-in_err-is_of-clause-told : goal.returns-in_err-is_of-clause-told
returns-in_err-is_of-clause-told c = rw c.from_residual-in_err-is_of.ensures (datum_not c.args.bytes.now c.args.names.now c.args.table.now _ c.args.at c.args.datum_at c.in_ok-x.x c.in_ok-x.ensures.told c.in_err-is_of.ensures)
