use Rattle.std.proofs.Common.{ap, ◌∙◌}
use Rattle.types.specs.Tables.{bag_part}
use Rattle.types.proofs.Meanings.{elem_grew, elem_says}
use Rattle.types.proofs.table.Table.elem_of.Goals as goal
use Rattle.types.specs.Outcomes.{tidy}

pub returns : goal.returns
returns c =
    let e = c.as_bag.ensures ∙ ap bag_part c.entry_at.ensures in
    record { grew = elem_grew c.args.self.now (tidy c.args.self.now) c.args.x c.requires.within _ e; says = elem_says c.args.self.now (tidy c.args.self.now) c.args.x c.requires.within _ e }
