use Rattle.query.proofs.comes_to_its_type_holds.Goals as goal
use Rattle.query.proofs.SoundTypes.{comes_to_its_type}

pub returns : goal.returns
returns c = comes_to_its_type
