use Rattle.query.specs.Size.{size_d, size_t}
use Rattle.format.specs.Wire.{types, data_of}
use Rattle.parts.proofs.Owns.{pair_over, pair_second, pair_done}
use Rattle.parts.proofs.queries.just_parts.Goals as goal

pub returns-in_err-typed : goal.returns-in_err-typed
returns-in_err-typed c = rw c.from_residual.ensures (pair_over types data_of size_t size_d c.args.limit c.args.bytes.now c.in_err-typed.ensures)

pub returns-in_err-datum : goal.returns-in_err-datum
returns-in_err-datum c =
    rw c.from_residual-in_err-datum.ensures (pair_second types data_of size_t size_d c.args.limit c.args.bytes.now c.in_ok-typed.typed c.in_ok-typed.ensures c.in_err-datum.ensures)

pub returns : goal.returns
returns c = pair_done types data_of size_t size_d c.args.limit c.args.bytes.now c.in_ok-typed.typed c.in_ok-typed.ensures c.in_ok-datum.datum c.in_ok-datum.ensures
