use Rattle.std.proofs.Common.{None}
use Rattle.types.specs.Shapes.{Below, meaning, type_at}
use Rattle.types.specs.Outcomes.{tidy, look}
use Rattle.types.proofs.Meanings.{stay, stays_if, meant_if, seen}
use Rattle.types.proofs.Operators.{count_is, count_none}
use Rattle.types.proofs.table.Table.count.Goals as goal

pub returns-in_err-elem_of : goal.returns-in_err-elem_of
returns-in_err-elem_of c = rw c.from_residual.ensures (record { grew = stay None (tidy c.args.self.now) tt; says = λ ns rk. stays_if 1 0 None _ (λ o. count_none (type_at ns (look c.args.self.now) c.args.x) (seen (c.in_err-elem_of.ensures.says ns rk) o)) })

pub make-requires : goal.make-requires
unfolding Below
make-requires c = record { plain = tt; parts = tt }

pub returns : goal.returns
unfolding meaning
returns c = record { grew = c.make.ensures.grew; says = λ ns rk. meant_if (c.make.ensures.says ns rk) _ (λ o. count_is (type_at ns (look c.args.self.now) c.args.x) _ (seen (c.in_ok-elem_of.ensures.says ns rk) o)) }
