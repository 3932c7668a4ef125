use Rattle.std.proofs.Common.{ℕ, ◌<◌, false}
use Rattle.values.specs.Lent.{words}
use Rattle.records.specs.Records.{IsNamed}
use Rattle.records.proofs.field.index_of.Given as goal

abbrev pub invariant-loop-i : goal.invariant-loop-i
invariant-loop-i l = (k : ℕ) → k < l.i → IsNamed l.bytes l.name l.place (words l.row) k false
