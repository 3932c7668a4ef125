use Rattle.std.proofs.Common.{◌*◌}
use Rattle.values.specs.Memory.{Copied}
use Rattle.values.specs.Lent.{all, MovedThere}
use Rattle.values.proofs.lent.Memory.append.Given as goal

abbrev pub invariant-loop-i : goal.invariant-loop-i
invariant-loop-i l = Copied l.from l.start l.i (all l.initial.self) (all l.self) × MovedThere l.fn.self l.self (3 * l.from.count)
