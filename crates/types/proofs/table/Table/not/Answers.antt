use Rattle.std.proofs.Common.{Some, None}
use Rattle.types.specs.Shapes.{type_at}
use Rattle.types.specs.Outcomes.{tidy, look}
use Rattle.types.proofs.Meanings.{stay, stays}
use Rattle.types.proofs.Operators.{not_yes, not_no}
use Rattle.types.proofs.table.Table.not.Goals as goal

pub returns-then-is_truth : goal.returns-then-is_truth
returns-then-is_truth c = record { grew = stay (Some c.args.x) (tidy c.args.self.now) c.requires.within; says = λ ns rk. stays 0 0 (Some c.args.x) _ (not_yes (type_at ns (look c.args.self.now) c.args.x) (c.if-is_truth.ensures ns)) }

pub returns-else-is_truth : goal.returns-else-is_truth
returns-else-is_truth c = record { grew = stay None (tidy c.args.self.now) tt; says = λ ns rk. stays 0 0 None _ (not_no (type_at ns (look c.args.self.now) c.args.x) (c.if-is_truth.ensures ns)) }
