use Rattle.std.proofs.Common.{◌*◌}
use Rattle.values.specs.Lent.{all, MovedThere}
use Rattle.bags.proofs.Distinct.{OnceFrom}
use Rattle.bags.proofs.once.distinct.Given as goal

abbrev pub invariant-loop-i : goal.invariant-loop-i
invariant-loop-i l = OnceFrom l.bytes l.place (all l.fn.memory) l.depth l.fn.memory.top (all l.memory) l.i l.found.start l.found.count × MovedThere l.fn.memory l.memory (3 * l.place.count)
