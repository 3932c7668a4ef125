use Rattle.query.proofs.not_looked_at_it_holds.Goals as goal
use Rattle.query.proofs.ItUnseen.{not_looked_at_it}

pub returns : goal.returns
returns c = not_looked_at_it
