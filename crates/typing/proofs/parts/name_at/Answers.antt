use Rattle.std.proofs.Common.{ℕ, List, take, drop, ap, ◌∙◌, subst, inl, inr, arith}
use Rattle.format.specs.Lists.{from_drop}
use Rattle.ranks.specs.Ranks.{names_of, RankOf}
use Rattle.typing.proofs.Results.{front}
use Rattle.typing.proofs.Written.{name_short, name_ranked}
use Rattle.typing.proofs.parts.name_at.Goals as goal

pub returns-in_err-get : goal.returns-in_err-get
returns-in_err-get c =
    let s = c.in_ok-start.ensures in
    rw c.from_residual-in_err-get.ensures (name_short c.args.bytes.now c.args.names.now c.args.at c.args.n (λ h. elim c.in_err-get.ensures.lookup.0 [ inl l ↦ omega (arith, s.1) | inr l ↦ omega arith ]))

pub returns-in_err-name : goal.returns-in_err-name
returns-in_err-name c =
    let s = c.in_ok-start.ensures in
    let g = c.in_ok-get.ensures.lookup in
    rw c.from_residual-in_err-name.ensures (name_short c.args.bytes.now c.args.names.now c.args.at c.args.n (λ h. elim c.in_err-name.ensures.lookup.0 [ inl l ↦ omega arith | inr l ↦ omega (arith, s.1, g.0.3) ]))

pub returns : goal.returns
returns c =
    let s = c.in_ok-start.ensures in
    let g = c.in_ok-get.ensures.lookup in
    let n = c.in_ok-name.ensures.lookup in
    name_ranked c.args.bytes.now c.args.names.now c.args.at c.args.n _
    (subst (λ (z : List ℕ). RankOf (names_of c.args.bytes.now c.args.names.now) z c.rank.result)
    (front _ _ _ n.0.2 ∙ (ap (λ (z : List ℕ). take c.args.n z) (g.0.2 ∙ from_drop c.in_ok-start.start c.args.bytes.now) ∙ ap (λ z. take c.args.n (drop z c.args.bytes.now)) s.1)) c.rank.ensures)
