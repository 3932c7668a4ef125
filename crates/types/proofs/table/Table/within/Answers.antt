use Rattle.std.proofs.Common.{None, ap}
use Rattle.types.specs.Shapes.{Below, meaning, type_at}
use Rattle.types.specs.Outcomes.{tidy, look}
use Rattle.types.proofs.Meanings.{stay, stays_if, meant_if, seen, differ}
use Rattle.types.proofs.Operators.{within_yes, within_no, within_none}
use Rattle.types.proofs.table.Table.within.Goals as goal

pub returns-in_err-v : goal.returns-in_err-v
returns-in_err-v c = rw c.from_residual.ensures (record { grew = stay None (tidy c.args.self.now) tt; says = λ ns rk. stays_if 1 0 None _ (λ o. within_none (type_at ns (look c.args.self.now) c.args.x) (type_at ns (look c.args.self.now) c.args.y) (seen (c.in_err-v.ensures.says ns rk) o)) })

pub make-requires : goal.make-requires
unfolding Below
make-requires c = record { plain = tt; parts = tt }

pub returns-then-x-v : goal.returns-then-x-v
unfolding meaning
returns-then-x-v c = record { grew = c.make.ensures.grew; says = λ ns rk. meant_if (c.make.ensures.says ns rk) _ (λ o. within_yes (type_at ns (look c.args.self.now) c.args.x) (type_at ns (look c.args.self.now) c.args.y) _ (seen (c.in_ok-v.ensures.says ns rk) o) (ap (λ z. type_at ns (look c.args.self.now) z) c.if-x-v.true)) }

pub returns-else-x-v : goal.returns-else-x-v
returns-else-x-v c = record { grew = stay None (tidy c.args.self.now) tt; says = λ ns rk. stays_if 1 0 None _ (λ o. within_no (type_at ns (look c.args.self.now) c.args.x) (type_at ns (look c.args.self.now) c.args.y) _ (seen (c.in_ok-v.ensures.says ns rk) o) (differ c.args.self.now (tidy c.args.self.now) c.args.x c.in_ok-v.v c.requires.first c.in_ok-v.ensures.grew.here c.if-x-v.false ns rk)) }
