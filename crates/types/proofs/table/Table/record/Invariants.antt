use Rattle.std.proofs.Common.{◌≡◌, ◌++◌, length, vec_items, vec_capacity}
use Rattle.types.specs.Fields.{zip_f}
use Rattle.types.proofs.table.Table.record.Given as goal

abbrev pub invariant-loop-name : goal.invariant-loop-name
invariant-loop-name l =
    (vec_items l.self.fields ++ zip_f l.name-iterator.a.rest.now l.name-iterator.b.rest.now ≡ vec_items l.initial.self.fields ++ zip_f l.ranks l.of)
    × (length l.name-iterator.b.rest.now ≡ length l.name-iterator.a.rest.now)
    × (l.self.names ≡ l.initial.self.names) × (l.self.entries ≡ l.initial.self.entries) × (vec_capacity l.self.fields ≡ vec_capacity l.initial.self.fields)
