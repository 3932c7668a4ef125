use Rattle.parts.proofs.Sounds.{type_told}
use Rattle.parts.proofs.order.sound_type.Goals as goal

pub returns : goal.returns
returns c = type_told c.args.limit c.args.bytes.now _ c.sound_types.ensures
