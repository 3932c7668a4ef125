use Rattle.std.proofs.Common.{arith}
use Rattle.eval.proofs.Seen.{in_marks}
use Rattle.eval.proofs.Leaves.{table_spot_at, table_holds, it_holds, env_holds, just_spot_at, just_holds}
use Rattle.eval.proofs.work.leaf_of.Goals as goal

pub nth-requires : goal.nth-requires
nth-requires c = let g = table_spot_at c.in-Table.n c.in-Table.is c.requires in omega (arith, g, c.requires.ready.held.room)

pub bounds-lent-at : goal.bounds-lent-at
bounds-lent-at c = in_marks c.requires.ready.stands

pub nth-requires-in-Just : goal.nth-requires-in-Just
nth-requires-in-Just c = let g = just_spot_at c.in-Just.is c.requires in omega (arith, g, c.requires.ready.held.room)

pub returns-in-Table : goal.returns-in-Table
returns-in-Table c = simp (c.in-Table.is, c.nth.ensures) (table_holds c.in-Table.n)

pub returns-in-It : goal.returns-in-It
returns-in-It c = simp c.in-It.is it_holds

pub returns-in-Env : goal.returns-in-Env
returns-in-Env c = simp c.in-Env.is env_holds

pub returns-in-Just : goal.returns-in-Just
returns-in-Just c = simp (c.in-Just.is, c.nth-in-Just.ensures) just_holds
