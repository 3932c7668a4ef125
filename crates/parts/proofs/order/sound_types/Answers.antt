use Rattle.parts.proofs.Sounds.{types_fail, types_found}
use Rattle.parts.proofs.order.sound_types.Goals as goal

pub returns-in_err-found : goal.returns-in_err-found
returns-in_err-found c = rw c.from_residual.ensures (types_fail c.args.count c.args.limit c.args.bytes.now c.in_err-found.ensures)

pub returns : goal.returns
returns c = types_found c.args.count c.args.limit c.args.bytes.now c.in_ok-found.found c.in_ok-found.ensures
