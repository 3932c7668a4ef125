use Rattle.std.proofs.Common.{None}
use Rattle.types.specs.Shapes.{type_at}
use Rattle.types.specs.Outcomes.{tidy, look}
use Rattle.types.proofs.Meanings.{stay}
use Rattle.types.proofs.Products.{product_none, product_none_second, product_some}
use Rattle.types.proofs.table.Table.product.Goals as goal

pub returns-in_err-a : goal.returns-in_err-a
returns-in_err-a c = rw c.from_residual.ensures (record { grew = stay None (tidy c.args.self.now) tt; says = λ ns rk. product_none (type_at ns (look c.args.self.now) c.args.x) (type_at ns (look c.args.self.now) c.args.y) (c.in_err-a.ensures.says ns rk) })

pub returns-in_err-b : goal.returns-in_err-b
returns-in_err-b c = rw c.from_residual-in_err-b.ensures (record { grew = stay None (tidy c.args.self.now) tt; says = λ ns rk. product_none_second (type_at ns (look c.args.self.now) c.args.x) (type_at ns (look c.args.self.now) c.args.y) (c.in_err-b.ensures.says ns rk) })

pub returns : goal.returns
returns c = record { grew = c.paired.ensures.grew; says = λ ns rk. product_some (type_at ns (look c.args.self.now) c.args.x) (type_at ns (look c.args.self.now) c.args.y) (c.in_ok-a.ensures.says ns rk) (c.in_ok-b.ensures.says ns rk) (c.paired.ensures.says ns rk) }
