use Rattle.std.proofs.Common.{◌≡◌}
use Rattle.types.specs.Fields.{rise}
use Rattle.types.proofs.Makings.{climb}
use Rattle.types.proofs.making.rises.Given as goal

abbrev pub invariant-loop-pair : goal.invariant-loop-pair
invariant-loop-pair l = (l.pair-iterator.size ≡ 2) × (rise 0 l.ranks ≡ climb l.pair-iterator.rest.now)
