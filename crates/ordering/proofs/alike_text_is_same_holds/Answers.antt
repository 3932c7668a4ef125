use Rattle.ordering.proofs.alike_text_is_same_holds.Goals as goal
use Rattle.ordering.proofs.Texts.{alike_text_is_same}

pub returns : goal.returns
returns c = alike_text_is_same
