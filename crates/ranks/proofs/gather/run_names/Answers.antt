use Rattle.std.proofs.Common.{refl, arith}
use Rattle.ranks.proofs.Runs.{going_stuck, going_on}
use Rattle.ranks.proofs.gather.run_names.Goals as goal

pub returns-in_default-clause-taken : goal.returns-in_default-clause-taken
returns-in_default-clause-taken g c = going_stuck _ _ _ _ g.met.S.HasNames.laws _ _ _ _ _ _ _ c.loop-pending.invariant (omega arith) _ c.in_default.ensures.opened

pub loop-pending-preserved : goal.loop-pending-preserved
loop-pending-preserved g c =
    going_on _ _ _ _ g.met.S.HasNames.laws _ _ _ _ _ _ _ c.loop-pending.invariant _ _ c.in-Ok.o.parts c.in-Ok.o.length c.in-Ok.o.head (omega arith) refl c.in-Ok.ensures.opened c.in-Ok.ensures.says c.head_names.ensures.kept c.head_names.ensures.taken
