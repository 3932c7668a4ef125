use Rattle.std.proofs.Common.{Some, None, ap}
use Rattle.types.specs.Shapes.{type_at}
use Rattle.types.specs.Outcomes.{tidy, look}
use Rattle.types.proofs.Meanings.{stay, stays_if, seen, differ}
use Rattle.types.proofs.Operators.{bags_yes, bags_no, bags_none}
use Rattle.types.proofs.table.Table.join_bags.Goals as goal

pub returns-in_err-elem_of : goal.returns-in_err-elem_of
returns-in_err-elem_of c = rw c.from_residual.ensures (record { grew = stay None (tidy c.args.self.now) tt; says = λ ns rk. stays_if 0 0 None _ (λ o. bags_none (type_at ns (look c.args.self.now) c.args.x) (type_at ns (look c.args.self.now) c.args.y) (seen (c.in_err-elem_of.ensures.says ns rk) o)) })

pub returns-then-x-y : goal.returns-then-x-y
returns-then-x-y c = record { grew = stay (Some c.args.x) (tidy c.args.self.now) c.requires.first; says = λ ns rk. stays_if 0 0 (Some c.args.x) _ (λ o. bags_yes (type_at ns (look c.args.self.now) c.args.x) (type_at ns (look c.args.self.now) c.args.y) _ (seen (c.in_ok-elem_of.ensures.says ns rk) o) (ap (λ z. type_at ns (look c.args.self.now) z) c.if-x-y.true)) }

pub returns-else-x-y : goal.returns-else-x-y
returns-else-x-y c = record { grew = stay None (tidy c.args.self.now) tt; says = λ ns rk. stays_if 0 0 None _ (λ o. bags_no (type_at ns (look c.args.self.now) c.args.x) (type_at ns (look c.args.self.now) c.args.y) _ (seen (c.in_ok-elem_of.ensures.says ns rk) o) (differ c.args.self.now (tidy c.args.self.now) c.args.x c.args.y c.requires.first c.requires.second c.if-x-y.false ns rk)) }
