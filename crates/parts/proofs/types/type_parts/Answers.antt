use Rattle.query.specs.Size.{size_t}
use Rattle.format.specs.Wire.{types}
use Rattle.parts.proofs.Walk.{counted_one}
use Rattle.parts.proofs.types.type_parts.Goals as goal

pub returns : goal.returns
returns c = counted_one types size_t c.args.limit c.args.bytes.now _ c.measure.ensures
