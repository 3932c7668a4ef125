use Rattle.std.proofs.Common.{Some, None, ap, ◌∙◌}
use Rattle.query.specs.Types.{type1}
use Rattle.types.specs.Shapes.{type_at}
use Rattle.types.specs.Outcomes.{look, tidy}
use Rattle.types.proofs.Meanings.{stay, stays, meant_as}
use Rattle.types.proofs.Operators.{if_yes, if_no}
use Rattle.typed.specs.Shaped.{over_type}
use Rattle.typed.specs.declared.shape.Over.{Over}
use Rattle.typed.proofs.part.over_type.Goals as goal

pub returns-in-Each : goal.returns-in-Each
unfolding type1
returns-in-Each c = record {
  grew = c.in_bag.ensures.grew;
  says = λ ns rk. meant_as (c.in_bag.ensures.says ns rk) _ (ap (λ (z : Over). over_type z (type_at ns (look c.args.table.now) c.args.x) (type_at ns (look c.args.table.now) c.args.v)) c.in-Each.is);
}

pub returns-then-is_truth : goal.returns-then-is_truth
returns-then-is_truth c = record {
  grew = stay (Some c.args.x) (tidy _) c.requires.bag;
  says = λ ns rk. stays 1 0 (Some c.args.x) _
      (ap (λ (z : Over). over_type z (type_at ns (look c.args.table.now) c.args.x) (type_at ns (look c.args.table.now) c.args.v)) c.in-Keep.is ∙ if_yes _ _ (c.if-is_truth.ensures ns));
}

pub returns-else-is_truth : goal.returns-else-is_truth
returns-else-is_truth c = record {
  grew = stay None (tidy _) tt;
  says = λ ns rk. stays 1 0 None _
      (ap (λ (z : Over). over_type z (type_at ns (look c.args.table.now) c.args.x) (type_at ns (look c.args.table.now) c.args.v)) c.in-Keep.is ∙ if_no _ _ (c.if-is_truth.ensures ns));
}
