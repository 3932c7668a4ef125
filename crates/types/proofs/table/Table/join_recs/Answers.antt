use Rattle.std.proofs.Common.{None}
use Rattle.types.proofs.Meanings.{stay, no_room, has, made_grew}
use Rattle.types.proofs.Records.{join_says, join_none, join_none_second}
use Rattle.types.proofs.table.Table.join_recs.Goals as goal
use Rattle.types.specs.Outcomes.{tidy}

pub returns-in_err-p : goal.returns-in_err-p
returns-in_err-p c = rw c.from_residual.ensures (record { grew = stay None (tidy c.args.self.now) tt; says = join_none c.args.self.now (tidy c.args.self.now) c.args.x c.args.y c.requires.first c.in_err-p.ensures })

pub returns-in_err-q : goal.returns-in_err-q
returns-in_err-q c = rw c.from_residual-in_err-q.ensures (record { grew = stay None (tidy c.args.self.now) tt; says = join_none_second c.args.self.now (tidy c.args.self.now) c.args.x c.args.y c.requires.second c.in_err-q.ensures })

pub returns-then-not-spare : goal.returns-then-not-spare
returns-then-not-spare c = record { grew = stay None (tidy c.args.self.now) tt; says = λ ns rk. no_room 1 c.args.self.now.names _ (λ o. c.if-not-spare.ensures o) }

pub both-requires : goal.both-requires
both-requires c = let g = has c.args.self.now (tidy c.args.self.now) c.args.x c.requires.first c.in_ok-p.p c.in_ok-p.ensures in let h = has c.args.self.now (tidy c.args.self.now) c.args.y c.requires.second c.in_ok-q.q c.in_ok-q.ensures in record { first = g.lies; second = h.lies; rises = g.rises; rising = h.rises; spare = c.if-not-spare.ensures }

pub returns : goal.returns
returns c = let g = has c.args.self.now (tidy c.args.self.now) c.args.x c.requires.first c.in_ok-p.p c.in_ok-p.ensures in let h = has c.args.self.now (tidy c.args.self.now) c.args.y c.requires.second c.in_ok-q.q c.in_ok-q.ensures in record { grew = made_grew c.args.self.now _ (tidy c.args.self.now) c.both.ensures.kept _ c.args.self.now.names c.both.result c.both.ensures.made; says = join_says c.args.self.now _ c.args.x c.args.y c.both.result c.in_ok-p.p c.in_ok-q.q g h c.both.ensures.made }
