use Rattle.std.proofs.Common.{Some, None}
use Rattle.types.specs.Shapes.{type_at}
use Rattle.types.specs.Outcomes.{tidy, look}
use Rattle.types.proofs.Meanings.{stay, stays}
use Rattle.types.proofs.Operators.{plus_yes, plus_first, plus_second}
use Rattle.types.proofs.table.Table.plus.Goals as goal
use Rattle.types.proofs.table.Table.plus.Goals.{else-is_num-via-then-is_num+else-is_num-2, else-is_num-via-else-is_num}

pub returns-then-is_num-2 : goal.returns-then-is_num-2
returns-then-is_num-2 c = record { grew = stay (Some c.args.x) (tidy c.args.self.now) c.requires.first; says = λ ns rk. stays 0 0 (Some c.args.x) _ (plus_yes (type_at ns (look c.args.self.now) c.args.x) (type_at ns (look c.args.self.now) c.args.y) (c.if-is_num.ensures ns) (c.if-is_num-2.ensures ns)) }

pub returns-else-is_num : goal.returns-else-is_num
returns-else-is_num c = record {
  grew = stay None (tidy c.args.self.now) tt;
  says = λ ns rk. elim c.else-is_num.branch [
    | else-is_num-via-then-is_num+else-is_num-2 w ↦ stays 0 0 None _ (plus_second (type_at ns (look c.args.self.now) c.args.x) (type_at ns (look c.args.self.now) c.args.y) (w.if-is_num-2.ensures ns))
    | else-is_num-via-else-is_num w ↦ stays 0 0 None _ (plus_first (type_at ns (look c.args.self.now) c.args.x) (type_at ns (look c.args.self.now) c.args.y) (w.if-is_num.ensures ns))
  ];
}
