use Rattle.query.specs.Size.{size_q}
use Rattle.format.specs.Wire.{queries}
use Rattle.parts.proofs.Walk.{counted_one}
use Rattle.parts.proofs.queries.query_parts.Goals as goal

pub returns : goal.returns
returns c = counted_one queries size_q c.args.limit c.args.bytes.now _ c.measure.ensures
