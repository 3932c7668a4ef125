use Rattle.ranks.proofs.Gathers.{naming_on, naming_stuck, naming_end}
use Rattle.ranks.proofs.gather.put_names.Goals as goal

pub returns-in_default-clause-taken : goal.returns-in_default-clause-taken
returns-in_default-clause-taken c = naming_stuck _ _ _ c.loop-i.names _ _ c.loop-i.i c.loop-i.pos 0 c.loop-i-test.true c.loop-i.invariant _ c.in_default.ensures

pub loop-i-preserved : goal.loop-i-preserved
loop-i-preserved c = naming_on _ _ _ _ _ _ c.loop-i.i c.loop-i.pos c.in-Ok.n c.loop-i-test.true c.loop-i.invariant c.in-Ok.ensures c.put.ensures

pub returns-clause-taken : goal.returns-clause-taken
returns-clause-taken c = naming_end _ _ _ _ _ c.loop-i.i c.loop-i.pos c.loop-i-test.false c.loop-i.auto.i-end c.loop-i.invariant
