use Rattle.std.proofs.Common.{Some, None}
use Rattle.types.specs.Shapes.{type_at}
use Rattle.types.specs.Outcomes.{tidy, look}
use Rattle.types.proofs.Meanings.{stay, stays_if, seen}
use Rattle.types.proofs.Operators.{sum_yes, sum_no, sum_none}
use Rattle.types.proofs.table.Table.sum.Goals as goal

pub returns-in_err-u : goal.returns-in_err-u
returns-in_err-u c = rw c.from_residual.ensures (record { grew = stay None (tidy c.args.self.now) tt; says = λ ns rk. stays_if 0 0 None _ (λ o. sum_none (type_at ns (look c.args.self.now) c.args.x) (seen (c.in_err-u.ensures.says ns rk) o)) })

pub returns-then-is_num : goal.returns-then-is_num
returns-then-is_num c = record { grew = stay (Some c.in_ok-u.u) (tidy c.args.self.now) c.in_ok-u.ensures.grew.here; says = λ ns rk. stays_if 0 0 (Some c.in_ok-u.u) _ (λ o. sum_yes (type_at ns (look c.args.self.now) c.args.x) _ (seen (c.in_ok-u.ensures.says ns rk) o) (c.if-is_num.ensures ns)) }

pub returns-else-is_num : goal.returns-else-is_num
returns-else-is_num c = record { grew = stay None (tidy c.args.self.now) tt; says = λ ns rk. stays_if 0 0 None _ (λ o. sum_no (type_at ns (look c.args.self.now) c.args.x) _ (seen (c.in_ok-u.ensures.says ns rk) o) (c.if-is_num.ensures ns)) }
