use Rattle.std.proofs.Common.{◌≤◌, vec_items, vec_capacity}
use Rattle.typing.proofs.RankReads.{Ranking}
use Rattle.typing.proofs.ranked.ranks_of.Given as goal

abbrev pub invariant-loop-i : goal.invariant-loop-i
invariant-loop-i l = Ranking l.bytes l.names (vec_items l.ranks) l.at l.count l.i l.pos × (8200 ≤ vec_capacity l.ranks)
