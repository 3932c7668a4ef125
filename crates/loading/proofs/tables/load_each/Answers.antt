use Rattle.loading.proofs.Tabled as tabled
use Rattle.loading.proofs.tables.load_each.Goals as goal

pub returns-in_err-slots-clause-means : goal.returns-in_err-slots-clause-means
returns-in_err-slots-clause-means g c = rw c.from_residual.ensures (tabled.tables_none c.args.spot.bytes.now c.args.spot.at c.args.spot.ty c.args.count c.args.memory.now.top _ _ c.in_err-slots.ensures.means)

pub returns-clause-means : goal.returns-clause-means
returns-clause-means g c = tabled.tables_loaded c.args.spot.bytes.now c.args.spot.at c.args.spot.ty c.args.count c.args.memory.now.top _ _ c.in_ok-slots.slots c.in_ok-slots.ensures.means
