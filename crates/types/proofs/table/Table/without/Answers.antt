use Rattle.std.proofs.Common.{None}
use Rattle.types.proofs.Meanings.{stay, no_room, has, made_grew}
use Rattle.types.proofs.Records.{without_says, without_none}
use Rattle.types.proofs.table.Table.without.Goals as goal
use Rattle.types.specs.Outcomes.{tidy}

pub returns-in_err-p : goal.returns-in_err-p
returns-in_err-p c = rw c.from_residual.ensures (record { grew = stay None (tidy c.args.self.now) tt; says = without_none c.args.self.now (tidy c.args.self.now) c.args.x c.args.name c.requires.within c.in_err-p.ensures })

pub returns-then-not-spare : goal.returns-then-not-spare
returns-then-not-spare c = record { grew = stay None (tidy c.args.self.now) tt; says = λ ns rk. no_room 1 c.args.self.now.names _ (λ o. c.if-not-spare.ensures o) }

pub kept-requires : goal.kept-requires
kept-requires c = let h = has c.args.self.now (tidy c.args.self.now) c.args.x c.requires.within c.in_ok-p.p c.in_ok-p.ensures in record { lies = h.lies; rises = h.rises; spare = c.if-not-spare.ensures }

pub returns : goal.returns
returns c = let h = has c.args.self.now (tidy c.args.self.now) c.args.x c.requires.within c.in_ok-p.p c.in_ok-p.ensures in record { grew = made_grew c.args.self.now _ (tidy c.args.self.now) c.kept.ensures.kept _ c.args.self.now.names c.kept.result c.kept.ensures.made; says = without_says c.args.self.now _ c.args.name c.args.x c.kept.result c.in_ok-p.p c.requires.name h c.kept.ensures.made }
