use Rattle.std.proofs.Common.{◌≡◌, drop}
use Rattle.types.specs.Fields.{get_f}
use Rattle.types.proofs.record.get.Given as goal

abbrev pub invariant-loop-f : goal.invariant-loop-f
invariant-loop-f l = get_f l.name l.fields ≡ get_f l.name (drop l.f-index l.fields)
