use Rattle.std.proofs.Common.{None, ◌+◌, ◌≤◌, length, sym, ap, ◌∙◌, subst}
use Rattle.types.proofs.Meanings.{stay, has}
use Rattle.types.proofs.Records.{dot_grew, dot_says, dot_none}
use Rattle.types.specs.Shapes.{held}
use Rattle.types.specs.Fields.{get_f}
use Rattle.types.proofs.table.Table.dot.Goals as goal
use Rattle.types.specs.Outcomes.{tidy}

pub among-requires : goal.among-requires
among-requires c = subst (λ z. c.in_ok-p.p.start + c.in_ok-p.p.count ≤ length z) (sym c.deref.ensures.value) (has c.args.self.now (tidy c.args.self.now) c.args.x c.requires.within c.in_ok-p.p c.in_ok-p.ensures).lies

pub returns : goal.returns
returns c = let h = has c.args.self.now (tidy c.args.self.now) c.args.x c.requires.within c.in_ok-p.p c.in_ok-p.ensures in let g = c.get.ensures ∙ ap (λ z. get_f c.args.name z) (c.among.ensures ∙ ap (λ z. held z c.in_ok-p.p) c.deref.ensures.value) in record { grew = dot_grew c.args.self.now (tidy c.args.self.now) c.args.x c.args.name c.in_ok-p.p h _ g; says = dot_says c.args.self.now c.args.x c.args.name c.requires.name c.in_ok-p.p h _ g }

pub returns-in_err-p : goal.returns-in_err-p
returns-in_err-p c = rw c.from_residual.ensures (record { grew = stay None (tidy c.args.self.now) tt; says = dot_none c.args.self.now (tidy c.args.self.now) c.args.x c.args.name c.requires.within c.in_err-p.ensures })
