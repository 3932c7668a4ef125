use Rattle.format.specs.Wire.{requests}
use Rattle.format.specs.Codings.{one_place}
use Rattle.format.proofs.laws.one_place_holds.Goals as goal

pub returns : goal.returns
returns c = one_place requests
