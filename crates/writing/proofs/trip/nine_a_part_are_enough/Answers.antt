use Rattle.writing.proofs.Sizes.{short}
use Rattle.writing.proofs.trip.nine_a_part_are_enough.Goals as goal

pub returns : goal.returns
returns c = short
