use Rattle.std.proofs.Common.{[], get_or, None, ap}
use Rattle.types.specs.Shapes.{type_at}
use Rattle.types.specs.Outcomes.{tidy, look}
use Rattle.types.proofs.Meanings.{stay, differ}
use Rattle.types.proofs.Operators.{apart_no, alike_yes}
use Rattle.types.proofs.Products.{matched_none, matched_none_second, matched_no_field, matched_no_field_second, matched_apart, matched_some}
use Rattle.types.proofs.table.Table.matched.Goals as goal

pub returns-in_err-a : goal.returns-in_err-a
returns-in_err-a c = rw c.from_residual.ensures (record { grew = stay None (tidy c.args.self.now) tt; says = λ ns rk. matched_none (type_at ns (look c.args.self.now) c.args.x) (type_at ns (look c.args.self.now) c.args.y) (get_or ns c.args.m []) (get_or ns c.args.n []) (c.in_err-a.ensures.says ns rk) })

pub returns-in_err-b : goal.returns-in_err-b
returns-in_err-b c = rw c.from_residual-in_err-b.ensures (record { grew = stay None (tidy c.args.self.now) tt; says = λ ns rk. matched_none_second (type_at ns (look c.args.self.now) c.args.x) (type_at ns (look c.args.self.now) c.args.y) (get_or ns c.args.m []) (get_or ns c.args.n []) (c.in_err-b.ensures.says ns rk) })

pub returns-in_err-u : goal.returns-in_err-u
returns-in_err-u c = rw c.from_residual-in_err-u.ensures (record { grew = stay None (tidy c.args.self.now) tt; says = λ ns rk. matched_no_field (type_at ns (look c.args.self.now) c.args.x) (type_at ns (look c.args.self.now) c.args.y) (get_or ns c.args.m []) (get_or ns c.args.n []) (c.in_ok-a.ensures.says ns rk) (c.in_ok-b.ensures.says ns rk) (c.in_err-u.ensures.says ns rk) })

pub returns-in_err-v : goal.returns-in_err-v
returns-in_err-v c = rw c.from_residual-in_err-v.ensures (record { grew = stay None (tidy c.args.self.now) tt; says = λ ns rk. matched_no_field_second (type_at ns (look c.args.self.now) c.args.x) (type_at ns (look c.args.self.now) c.args.y) (get_or ns c.args.m []) (get_or ns c.args.n []) (c.in_ok-a.ensures.says ns rk) (c.in_ok-b.ensures.says ns rk) (c.in_ok-u.ensures.says ns rk) (c.in_err-v.ensures.says ns rk) })

pub returns-then-u-v : goal.returns-then-u-v
returns-then-u-v c = record { grew = stay None (tidy c.args.self.now) tt; says = λ ns rk. matched_apart (type_at ns (look c.args.self.now) c.args.x) (type_at ns (look c.args.self.now) c.args.y) (get_or ns c.args.m []) (get_or ns c.args.n []) (c.in_ok-a.ensures.says ns rk) (c.in_ok-b.ensures.says ns rk) (c.in_ok-u.ensures.says ns rk) (c.in_ok-v.ensures.says ns rk) (apart_no _ _ (differ c.args.self.now (tidy c.args.self.now) c.in_ok-u.u c.in_ok-v.v c.in_ok-u.ensures.grew.here c.in_ok-v.ensures.grew.here c.if-u-v.true ns rk)) }

pub returns : goal.returns
returns c = record { grew = c.paired.ensures.grew; says = λ ns rk. matched_some (type_at ns (look c.args.self.now) c.args.x) (type_at ns (look c.args.self.now) c.args.y) (get_or ns c.args.m []) (get_or ns c.args.n []) (c.in_ok-a.ensures.says ns rk) (c.in_ok-b.ensures.says ns rk) (c.in_ok-u.ensures.says ns rk) (c.in_ok-v.ensures.says ns rk) (alike_yes _ _ (ap (λ z. type_at ns (look c.args.self.now) z) c.if-u-v.false)) (c.paired.ensures.says ns rk) }
