use Rattle.query.proofs.types_are_sound_holds.Goals as goal
use Rattle.query.proofs.SoundTypes.{types_are_sound}

pub returns : goal.returns
returns c = types_are_sound
