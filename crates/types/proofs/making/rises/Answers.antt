use Rattle.std.proofs.Common.{take, sym, ap, ◌∙◌, arith}
use Rattle.types.proofs.Makings.{climb, climb_start, climb_on, climb_off, climb_end}
use Rattle.types.proofs.making.rises.Goals as goal

pub loop-pair-init : goal.loop-pair-init
loop-pair-init c =
    let e = c.into_iter-pair-iterator.ensures.into_iter_gives in
    let r = c.windows-pair-items.ensures.rest in
    (ap (λ z. z.size) e ∙ c.windows-pair-items.ensures.size, climb_start c.args.ranks.now ∙ sym (ap (λ z. climb z.rest.now) e ∙ ap climb r))

pub returns-then-pair : goal.returns-then-pair
returns-then-pair c =
    let s = c.in-Some.ensures.steps in
    let n = c.loop-pair.invariant.0 in
    climb_off _ c.in-Some.pair.now (omega arith) (s.1.1 ∙ ap (λ z. take z c.loop-pair.pair-iterator.rest.now) n) c.if-pair.true ∙ sym c.loop-pair.invariant.1

pub loop-pair-preserved : goal.loop-pair-preserved
loop-pair-preserved c =
    let s = c.in-Some.ensures.steps in
    let n = c.loop-pair.invariant.0 in
    (s.0 ∙ n, c.loop-pair.invariant.1 ∙ climb_on _ _ c.in-Some.pair.now (omega arith) (s.1.1 ∙ ap (λ z. take z c.loop-pair.pair-iterator.rest.now) n) s.1.2 c.if-pair.false)

pub returns : goal.returns
returns c =
    let s = c.in-None.ensures.steps in
    let n = c.loop-pair.invariant.0 in
    climb_end _ (omega arith) ∙ sym c.loop-pair.invariant.1
