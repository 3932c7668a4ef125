use Rattle.types.specs.Shapes.{type_at}
use Rattle.types.specs.Outcomes.{look}
use Rattle.types.proofs.Meanings.{grew_two}
use Rattle.types.proofs.Products.{paired_none, paired_some}
use Rattle.types.proofs.Meanings.{ranked_as}
use Rattle.types.proofs.table.Table.paired.Goals as goal

pub returns-in_err-r : goal.returns-in_err-r
returns-in_err-r c = rw c.from_residual.ensures (record { grew = c.in_err-r.ensures.grew; says = λ ns rk. paired_none (type_at ns (look c.args.self.now) c.args.x) (type_at ns (look c.args.self.now) c.args.y) (c.in_err-r.ensures.says ns rk) })

pub in_bag-requires : goal.in_bag-requires
in_bag-requires c = record { within = c.in_ok-r.ensures.grew.here }

pub returns : goal.returns
returns c = record { grew = grew_two c.in_ok-r.ensures.grew c.in_bag.ensures.grew; says = λ ns rk. paired_some (type_at ns (look c.args.self.now) c.args.x) (type_at ns (look c.args.self.now) c.args.y) (c.in_ok-r.ensures.says ns rk) (c.in_bag.ensures.says ns (ranked_as c.in_ok-r.ensures.grew.names rk)) }
