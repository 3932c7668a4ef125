use Rattle.format.specs.RequestLaws.{requests_way}
use Rattle.format.proofs.laws.one_way_holds.Goals as goal

pub returns : goal.returns
returns c = requests_way
