use Rattle.format.specs.RequestLaws.{read_back}
use Rattle.format.proofs.laws.read_back_holds.Goals as goal

pub returns : goal.returns
returns c = read_back
