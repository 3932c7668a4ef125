use Rattle.std.proofs.Common.{◌-◌}
use Rattle.records.proofs.Names.{Looking}
use Rattle.records.proofs.choose.one_of.Given as goal

abbrev pub invariant-loop : goal.invariant-loop
invariant-loop l = Looking l.bytes l.fn.names.start l.fn.names.count l.name (l.fn.names.count - l.counter) l.here
