use Rattle.typed.proofs.Steps.{step_is}
use Rattle.typed.proofs.step.step_at.Goals as goal

pub returns : goal.returns
returns c = step_is _ c.args.pos c.in_ok-seen.seen c.shape_of.result c.further.result c.further-2.result c.in_ok-seen.ensures c.shape_of.ensures c.further.ensures.is c.further.ensures.within c.further-2.ensures.is c.further-2.ensures.within
