use Rattle.std.proofs.Common.{ℕ, Some, None, ap}
use Rattle.types.specs.Shapes.{type_at}
use Rattle.types.specs.Outcomes.{look, tidy}
use Rattle.types.proofs.Meanings.{stay, stays, differ}
use Rattle.types.proofs.Operators.{if_yes, if_no, alike_yes, apart_no}
use Rattle.typed.proofs.part.same_type.Goals as goal

pub returns-then-x-y : goal.returns-then-x-y
returns-then-x-y c = record {
  grew = stay (Some c.args.x) (tidy _) c.requires.first;
  says = λ ns rk. stays 0 0 (Some c.args.x) _ (if_yes _ _ (alike_yes _ _ (ap (λ (z : ℕ). type_at ns (look c.args.table.now) z) c.if-x-y.true)));
}

pub returns-else-x-y : goal.returns-else-x-y
returns-else-x-y c = record {
  grew = stay None (tidy _) tt;
  says = λ ns rk. stays 0 0 None _ (if_no _ _ (apart_no _ _ (differ c.args.table.now (tidy _) c.args.x c.args.y c.requires.first c.requires.second c.if-x-y.false ns rk)));
}
