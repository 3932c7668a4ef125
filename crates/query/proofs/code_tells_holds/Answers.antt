use Rattle.query.proofs.code_tells_holds.Goals as goal
use Rattle.query.proofs.Codes.{code_tells}

pub returns : goal.returns
returns c = code_tells
