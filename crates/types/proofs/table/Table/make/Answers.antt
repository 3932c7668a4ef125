use Rattle.std.proofs.Common.{None, refl}
use Rattle.types.proofs.Meanings.{stay, no_room, made_grew, made_says}
use Rattle.types.proofs.table.Table.make.Goals as goal
use Rattle.types.specs.Outcomes.{tidy}

pub plain-requires : goal.plain-requires
plain-requires c = let o = c.if-not-spare.ensures in record { plain = c.requires.plain; parts = c.requires.parts; room = o.one }

pub returns-then-not-spare : goal.returns-then-not-spare
returns-then-not-spare c = record { grew = stay None (tidy c.args.self.now) tt; says = λ ns rk. no_room 1 0 _ c.if-not-spare.ensures }

pub returns : goal.returns
returns c = record {
  grew = made_grew c.args.self.now _ (tidy c.args.self.now) c.plain.ensures.kept _ 0 c.plain.result c.plain.ensures.made;
  says = λ ns rk. made_says c.args.self.now _ _ 0 c.plain.result c.requires.parts c.plain.ensures.made ns _ refl;
}
