use Rattle.std.proofs.Common.{refl, arith}
use Rattle.format.specs.Wire.{requests}
use Rattle.format.specs.Trees.{opened, unopened}
use Rattle.format.specs.NameLaws.{no_parts}
use Rattle.format.specs.RequestLaws.{request_laws}
use Rattle.format.proofs.requests.RequestsSort.head.Goals as goal

pub returns-in_err-head-clause-opened : goal.returns-in_err-head-clause-opened
returns-in_err-head-clause-opened c = grind (arith, unopened requests requests (no_parts requests) request_laws)

pub returns-clause-opened : goal.returns-clause-opened
returns-clause-opened c =
    let r = c.in_ok-head.ensures in
    opened requests requests (no_parts requests) request_laws c.args.bytes.now _ 0 r.thing r.begins refl (omega arith)
