use Rattle.std.proofs.Common.{◌≡◌, vec_items}
use Rattle.std.specs.List.{between}
use Rattle.serving.specs.Buffers.{Longer}
use Rattle.serving.proofs.requests.Requests.hold.Given as goal

abbrev pub invariant-loop : goal.invariant-loop
invariant-loop l =
    (l.self.from ≡ l.self.to)
    × Longer (between l.initial.self.to l.initial.self.end (vec_items l.initial.self.buffer)) (between l.self.to l.self.end (vec_items l.self.buffer))
