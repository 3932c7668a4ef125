use Rattle.std.proofs.Common.{rules}
use Rattle.types.proofs.Meanings.{truth_says}
use Rattle.types.proofs.table.Table.is_truth.Goals as goal
use Rattle.types.specs.Outcomes.{tidy}

pub returns : goal.returns
returns c = truth_says c.args.self.now (tidy c.args.self.now) c.args.x c.requires.within c.entry_at.result c.entry_at.ensures c.eq.result (search rules)
