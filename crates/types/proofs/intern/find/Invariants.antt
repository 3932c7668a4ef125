use Rattle.std.proofs.Common.{◌≡◌, ℕ, ◌+◌, ◌<◌, get_or}
use Rattle.types.specs.Shapes.{shape}
use Rattle.types.specs.declared.entry.Entry.TheVariants.{Unit as Unit'}
use Rattle.types.proofs.intern.find.Given as goal

abbrev pub invariant-loop-i : goal.invariant-loop-i
invariant-loop-i l = (k : ℕ) → k < l.from + l.i → shape l.fields (get_or l.entries k Unit') ≡ shape l.fields l.e → ⊥
