use Rattle.parts.proofs.Sounds.{schema_by_types}
use Rattle.parts.proofs.order.sound_schema.Goals as goal

pub returns : goal.returns
returns c = rw c.is_some.ensures (schema_by_types c.args.count c.args.limit c.args.bytes.now _ c.sound_types.ensures)
