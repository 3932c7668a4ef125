use Rattle.std.proofs.Common.{refl}
use Rattle.types.proofs.table.Table.plain.Goals as goal

pub returns : goal.returns
returns c =
    let m = rw c.deref.ensures.value at c.plain.ensures.made in
    record { kept = record { names = refl; entries = c.plain.ensures.kept; fields = refl }; made = m }
