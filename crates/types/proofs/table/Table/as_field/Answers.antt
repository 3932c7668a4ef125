use Rattle.std.proofs.Common.{None}
use Rattle.types.proofs.Meanings.{stay, no_room, one_more, made_grew}
use Rattle.types.proofs.Records.{field_says}
use Rattle.types.proofs.table.Table.as_field.Goals as goal
use Rattle.types.specs.Outcomes.{tidy}

pub returns-then-not-spare : goal.returns-then-not-spare
returns-then-not-spare c = record { grew = stay None (tidy c.args.self.now) tt; says = λ ns rk. no_room 1 c.args.self.now.names _ (λ o. c.if-not-spare.ensures (record { entries = o.entries; fields = one_more c.args.self.now c.args.name c.requires.name o })) }

pub single-requires : goal.single-requires
single-requires c = record { name = c.requires.name; within = c.requires.within; spare = c.if-not-spare.ensures }

pub returns : goal.returns
returns c = record { grew = made_grew c.args.self.now _ (tidy c.args.self.now) c.single.ensures.kept _ 1 c.single.result c.single.ensures.made; says = field_says c.args.self.now _ c.args.name c.args.x c.single.result c.requires.name c.requires.within c.single.ensures.made }
