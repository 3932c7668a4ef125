use Rattle.std.proofs.Common.{sym, subst, ◌∙◌}
use Rattle.values.specs.Memory.{Readable}
use Rattle.values.proofs.Copy.{copied_more}
use Rattle.values.proofs.lent.Memory.append.Goals as goal

pub loop-i-preserved : goal.loop-i-preserved
loop-i-preserved c = (
  copied_more c.args.from c.in_ok-start.start c.loop-i.i _ _ _ _ (subst (Readable c.args.from) (sym c.in_ok-start.ensures.begins) c.requires) c.loop-i-test.true c.loop-i.invariant.0 c.nth-value.ensures c.put_nth.ensures.put,
  record {
    frozen = c.put_nth.ensures.steady.frozen ∙ c.loop-i.invariant.1.frozen;
    same = c.put_nth.ensures.steady.same ∙ c.loop-i.invariant.1.same;
    top = c.put_nth.ensures.steady.top ∙ c.loop-i.invariant.1.top;
  },
)
