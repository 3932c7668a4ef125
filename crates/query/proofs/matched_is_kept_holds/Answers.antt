use Rattle.query.proofs.matched_is_kept_holds.Goals as goal
use Rattle.query.proofs.Matching.{matched_is_kept}

pub returns : goal.returns
returns c = matched_is_kept
