use Rattle.format.specs.RequestLaws.{asks_one}
use Rattle.format.proofs.laws.asks_one_holds.Goals as goal

pub returns : goal.returns
returns c = asks_one
