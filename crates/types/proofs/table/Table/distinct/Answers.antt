use Rattle.std.proofs.Common.{Some, None}
use Rattle.types.specs.Shapes.{type_at}
use Rattle.types.specs.Outcomes.{tidy, look}
use Rattle.types.proofs.Meanings.{stay, stays_if, seen}
use Rattle.types.proofs.Operators.{distinct_is, distinct_none}
use Rattle.types.proofs.table.Table.distinct.Goals as goal

pub returns-in_err-elem_of : goal.returns-in_err-elem_of
returns-in_err-elem_of c = rw c.from_residual.ensures (record { grew = stay None (tidy c.args.self.now) tt; says = λ ns rk. stays_if 0 0 None _ (λ o. distinct_none (type_at ns (look c.args.self.now) c.args.x) (seen (c.in_err-elem_of.ensures.says ns rk) o)) })

pub returns : goal.returns
returns c = record { grew = stay (Some c.args.x) (tidy c.args.self.now) c.requires.within; says = λ ns rk. stays_if 0 0 (Some c.args.x) _ (λ o. distinct_is (type_at ns (look c.args.self.now) c.args.x) _ (seen (c.in_ok-elem_of.ensures.says ns rk) o)) }
