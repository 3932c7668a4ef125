use Rattle.std.proofs.Common.{None}
use Rattle.types.specs.Shapes.{Below, meaning, type_at}
use Rattle.types.specs.Outcomes.{tidy, look}
use Rattle.types.proofs.Meanings.{stay, stays, meant_as}
use Rattle.types.proofs.Operators.{less_yes, less_first, less_second}
use Rattle.types.proofs.table.Table.less.Goals as goal
use Rattle.types.proofs.table.Table.less.Goals.{then-not-is_num-via-else-not-is_num+then-not-is_num-2, then-not-is_num-via-then-not-is_num}

pub make-requires : goal.make-requires
unfolding Below
make-requires c = record { plain = tt; parts = tt }

pub returns : goal.returns
unfolding meaning
returns c = record { grew = c.make.ensures.grew; says = λ ns rk. meant_as (c.make.ensures.says ns rk) _ (less_yes (type_at ns (look c.args.self.now) c.args.x) (type_at ns (look c.args.self.now) c.args.y) (c.if-not-is_num.ensures ns) (c.if-not-is_num-2.ensures ns)) }

pub returns-then-not-is_num : goal.returns-then-not-is_num
returns-then-not-is_num c = record {
  grew = stay None (tidy c.args.self.now) tt;
  says = λ ns rk. elim c.then-not-is_num.branch [
    | then-not-is_num-via-else-not-is_num+then-not-is_num-2 w ↦ stays 1 0 None _ (less_second (type_at ns (look c.args.self.now) c.args.x) (type_at ns (look c.args.self.now) c.args.y) (w.if-not-is_num-2.ensures ns))
    | then-not-is_num-via-then-not-is_num w ↦ stays 1 0 None _ (less_first (type_at ns (look c.args.self.now) c.args.x) (type_at ns (look c.args.self.now) c.args.y) (w.if-not-is_num.ensures ns))
  ];
}
