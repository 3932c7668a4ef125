use Rattle.query.proofs.not_looked_at_holds.Goals as goal
use Rattle.query.proofs.EnvUnseen.{not_looked_at}

pub returns : goal.returns
returns c = not_looked_at
