use Rattle.records.proofs.Finding.{this_one, not_there}
use Rattle.records.proofs.field.field.Goals as goal

pub returns-in_err-i : goal.returns-in_err-i
returns-in_err-i c = rw c.from_residual.ensures (not_there c.args.bytes.now c.args.name c.args.place _ c.in_err-i.ensures)

pub returns : goal.returns
returns c = this_one c.args.bytes.now c.args.name c.args.place _ c.in_ok-i.i c.nth.result c.in_ok-i.ensures c.nth.ensures
