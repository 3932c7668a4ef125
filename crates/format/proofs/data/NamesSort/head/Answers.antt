use Rattle.std.proofs.Common.{◌+◌, refl, arith}
use Rattle.format.specs.Coding.{name}
use Rattle.format.specs.Trees.{opened, unopened}
use Rattle.format.specs.NameLaws.{no_parts, name_laws}
use Rattle.format.proofs.data.NamesSort.head.Goals as goal

pub returns-in_err-n-clause-opened : goal.returns-in_err-n-clause-opened
returns-in_err-n-clause-opened c = grind (arith, unopened name name (no_parts name) name_laws)

pub returns-clause-opened : goal.returns-clause-opened
returns-clause-opened c =
    let r = c.in_ok-n.ensures in
    opened name name (no_parts name) name_laws c.args.bytes.now (4 + c.in_ok-n.n) 0 r.thing r.begins refl (omega arith)
