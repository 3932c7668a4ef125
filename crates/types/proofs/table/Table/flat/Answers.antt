use Rattle.std.proofs.Common.{Some, None}
use Rattle.types.specs.Shapes.{type_at}
use Rattle.types.specs.Outcomes.{tidy, look}
use Rattle.types.proofs.Meanings.{stay, stays_if, seen}
use Rattle.types.proofs.Operators.{flat_is, flat_none, flat_none_in}
use Rattle.types.proofs.table.Table.flat.Goals as goal

pub returns-in_err-u : goal.returns-in_err-u
returns-in_err-u c = rw c.from_residual.ensures (record { grew = stay None (tidy c.args.self.now) tt; says = λ ns rk. stays_if 0 0 None _ (λ o. flat_none (type_at ns (look c.args.self.now) c.args.x) (seen (c.in_err-u.ensures.says ns rk) o)) })

pub returns-in_err-elem_of : goal.returns-in_err-elem_of
returns-in_err-elem_of c = rw c.from_residual-in_err-elem_of.ensures (record { grew = stay None (tidy c.args.self.now) tt; says = λ ns rk. stays_if 0 0 None _ (λ o. flat_none_in (type_at ns (look c.args.self.now) c.args.x) _ (seen (c.in_ok-u.ensures.says ns rk) o) (seen (c.in_err-elem_of.ensures.says ns rk) o)) })

pub returns : goal.returns
returns c = record { grew = stay (Some c.in_ok-u.u) (tidy c.args.self.now) c.in_ok-u.ensures.grew.here; says = λ ns rk. stays_if 0 0 (Some c.in_ok-u.u) _ (λ o. flat_is (type_at ns (look c.args.self.now) c.args.x) _ _ (seen (c.in_ok-u.ensures.says ns rk) o) (seen (c.in_ok-elem_of.ensures.says ns rk) o)) }
