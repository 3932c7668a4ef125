use Rattle.std.proofs.Common.{◌≡◌, ◌+◌, length, vec_items, vec_capacity}
use Rattle.types.specs.Shapes.{held}
use Rattle.types.proofs.Tops.{Merging}
use Rattle.types.proofs.table.Table.both.Given as goal

abbrev pub invariant-loop-next : goal.invariant-loop-next
invariant-loop-next l =
    Merging l.initial.self.names (length (vec_items l.initial.self.entries)) (vec_items l.initial.self.fields)
    (held (vec_items l.initial.self.fields) l.initial.p) (held (vec_items l.initial.self.fields) l.initial.q)
    (vec_items l.self.fields) l.p.start l.p.count l.q.start l.q.count
    × (l.self.names ≡ l.initial.self.names) × (l.self.entries ≡ l.initial.self.entries) × (vec_capacity l.self.fields ≡ vec_capacity l.initial.self.fields)

abbrev pub decreases-loop-next : goal.decreases-loop-next
decreases-loop-next l = l.p.count + l.q.count
