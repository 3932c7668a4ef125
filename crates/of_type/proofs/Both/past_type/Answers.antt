use Rattle.std.proofs.Common.{refl}
use Rattle.of_type.proofs.Taken.{taken, not_taken}
use Rattle.of_type.proofs.Walks.{past_read, past_none}
use Rattle.of_type.proofs.Both.past_type.Goals as goal

pub returns-in_err-long : goal.returns-in_err-long
returns-in_err-long c = let s = not_taken _ _ _ c.in_err-long.ensures.value c.scan.ensures in rw c.from_residual.ensures (past_none c.args.self s.0 s.1)

pub returns : goal.returns
returns c = past_read c.args.self c.in_ok-long.long _ (taken _ _ _ _ c.in_ok-long.ensures.value c.scan.ensures) refl refl
