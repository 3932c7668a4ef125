use Rattle.std.proofs.Common.{refl}
use Rattle.types.proofs.table.Table.seal.Goals as goal

pub returns : goal.returns
returns c = record { kept = record { names = refl; entries = c.seal.ensures.kept.0; fields = c.seal.ensures.kept.1 }; made = c.seal.ensures.made }
