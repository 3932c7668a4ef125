use Rattle.std.proofs.Common.{◌+◌, ◌*◌}
use Rattle.of_type.proofs.Walks.{BagSoFar, ValuesSoFar}
use Rattle.of_type.proofs.Both.+datum_and_parts.Given as goal

abbrev pub decreases-datum_is : goal.decreases-datum_is
decreases-datum_is l = 2 * l.limit

abbrev pub decreases-bag_is : goal.decreases-bag_is
decreases-bag_is l = 2 * l.limit + 1

abbrev pub decreases-values_are : goal.decreases-values_are
decreases-values_are l = 2 * l.limit + 1

abbrev pub invariant-bag_is-loop-i : goal.invariant-bag_is-loop-i
invariant-bag_is-loop-i l = BagSoFar l.limit l.count l.self l._i l.after

abbrev pub invariant-values_are-loop-i : goal.invariant-values_are-loop-i
invariant-values_are-loop-i l = ValuesSoFar l.limit l.count l.self l._i l.after
