use Rattle.query.specs.Size.{size_d}
use Rattle.format.specs.Wire.{data_of}
use Rattle.parts.proofs.Walk.{counted_one}
use Rattle.parts.proofs.data.data_parts.Goals as goal

pub returns : goal.returns
returns c = counted_one data_of size_d c.args.limit c.args.bytes.now _ c.measure.ensures
