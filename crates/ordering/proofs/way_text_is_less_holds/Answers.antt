use Rattle.ordering.proofs.way_text_is_less_holds.Goals as goal
use Rattle.ordering.proofs.Texts.{way_text_is_less}

pub returns : goal.returns
returns c = way_text_is_less
