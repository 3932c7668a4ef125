use Rattle.std.proofs.Common.{rules}
use Rattle.records.proofs.Choosing.{leaves_out}
use Rattle.records.proofs.choose.without.Goals as goal

pub returns-clause-makes : goal.returns-clause-makes
returns-clause-makes c = leaves_out c.args.bytes.now c.args.name c.args.place _ _ _ _ _ c.index_of-gone.result (rw c.row.ensures at c.index_of-gone.ensures) (λ i q b t. search rules) c.chosen.ensures.makes
