use Rattle.std.proofs.Common.{None, ap}
use Rattle.types.specs.Shapes.{Below, meaning, type_at}
use Rattle.types.specs.Outcomes.{tidy, look}
use Rattle.types.proofs.Meanings.{stay, stays, meant_as, differ}
use Rattle.types.proofs.Operators.{equal_yes, equal_no}
use Rattle.types.proofs.table.Table.equal.Goals as goal

pub make-requires : goal.make-requires
unfolding Below
make-requires c = record { plain = tt; parts = tt }

pub returns-then-x-y : goal.returns-then-x-y
unfolding meaning
returns-then-x-y c = record { grew = c.make.ensures.grew; says = λ ns rk. meant_as (c.make.ensures.says ns rk) _ (equal_yes (type_at ns (look c.args.self.now) c.args.x) (type_at ns (look c.args.self.now) c.args.y) (ap (λ z. type_at ns (look c.args.self.now) z) c.if-x-y.true)) }

pub returns-else-x-y : goal.returns-else-x-y
returns-else-x-y c = record { grew = stay None (tidy c.args.self.now) tt; says = λ ns rk. stays 1 0 None _ (equal_no (type_at ns (look c.args.self.now) c.args.x) (type_at ns (look c.args.self.now) c.args.y) (differ c.args.self.now (tidy c.args.self.now) c.args.x c.args.y c.requires.first c.requires.second c.if-x-y.false ns rk)) }
