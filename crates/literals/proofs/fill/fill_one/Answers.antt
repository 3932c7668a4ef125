use Rattle.std.proofs.Common.{arith}
use Rattle.literals.proofs.Slots as slots
use Rattle.literals.proofs.fill.fill_one.Goals as goal

pub returns-in_err-l-clause-means : goal.returns-in_err-l-clause-means
returns-in_err-l-clause-means g c =
    rw c.from_residual.ensures (slots.one_none c.args.spot.bytes.now c.args.spot.at c.args.spot.ty c.args.slots _ _ _ c.requires.room _ c.in_err-l.ensures.means)

pub returns-clause-means : goal.returns-clause-means
returns-clause-means g c =
    let e = c.in_ok-l.ensures in
    let s = c.put_nth.ensures in
    rw s.steady.top (slots.one_filled c.args.spot.bytes.now c.args.spot.at c.args.spot.ty c.args.slots _ _ _ c.requires.room _ _ _ (omega arith) e.kept e.inside e.means s.put)
