use Rattle.std.proofs.Common.{◌≡◌, length, vec_items, vec_capacity}
use Rattle.types.proofs.Keeps.{Keeping}
use Rattle.types.proofs.table.Table.kept.Given as goal

abbrev pub invariant-loop-i : goal.invariant-loop-i
invariant-loop-i l =
    Keeping l.initial.self.names (length (vec_items l.initial.self.entries)) (vec_items l.initial.self.fields) l.fn.p.start l.fn.p.count l.names l.keep (vec_items l.self.fields) l.i
    × (l.self.names ≡ l.initial.self.names) × (l.self.entries ≡ l.initial.self.entries) × (vec_capacity l.self.fields ≡ vec_capacity l.initial.self.fields)
