use Rattle.std.proofs.Common.{Some, None}
use Rattle.types.specs.Shapes.{type_at}
use Rattle.types.specs.Outcomes.{tidy, look}
use Rattle.types.proofs.Meanings.{stay, stays}
use Rattle.types.proofs.Operators.{and_yes, and_first, and_second}
use Rattle.types.proofs.table.Table.both_truths.Goals as goal
use Rattle.types.proofs.table.Table.both_truths.Goals.{else-is_truth-via-then-is_truth+else-is_truth-2, else-is_truth-via-else-is_truth}

pub returns-then-is_truth-2 : goal.returns-then-is_truth-2
returns-then-is_truth-2 c = record { grew = stay (Some c.args.x) (tidy c.args.self.now) c.requires.first; says = λ ns rk. stays 0 0 (Some c.args.x) _ (and_yes (type_at ns (look c.args.self.now) c.args.x) (type_at ns (look c.args.self.now) c.args.y) (c.if-is_truth.ensures ns) (c.if-is_truth-2.ensures ns)) }

pub returns-else-is_truth : goal.returns-else-is_truth
returns-else-is_truth c = record {
  grew = stay None (tidy c.args.self.now) tt;
  says = λ ns rk. elim c.else-is_truth.branch [
    | else-is_truth-via-then-is_truth+else-is_truth-2 w ↦ stays 0 0 None _ (and_second (type_at ns (look c.args.self.now) c.args.x) (type_at ns (look c.args.self.now) c.args.y) (w.if-is_truth-2.ensures ns))
    | else-is_truth-via-else-is_truth w ↦ stays 0 0 None _ (and_first (type_at ns (look c.args.self.now) c.args.x) (type_at ns (look c.args.self.now) c.args.y) (w.if-is_truth.ensures ns))
  ];
}
