use Rattle.std.proofs.Common.{◌+◌, sym, ◌∙◌, subst, arith}
use Rattle.ranks.specs.Ranks.{In, names_of}
use Rattle.ranks.proofs.Listings.{part_same}
use Rattle.typing.proofs.Results.{ok_some, ok_none}
use Rattle.typing.proofs.RankReads.{ranking_begin, ranking_stuck, ranking_absent, ranking_on}
use Rattle.typing.proofs.ranked.ranks_of.Goals as goal

pub loop-i-init : goal.loop-i-init
loop-i-init c = (ranking_begin _ _ _ _ _ c.requires.within c.clear.ensures.items, let h = c.requires.cap in let k = c.clear.ensures.capacity in omega arith)

pub returns-in_err-n-clause-read : goal.returns-in_err-n-clause-read
returns-in_err-n-clause-read c = rw c.from_residual.ensures (ranking_stuck _ _ _ _ _ c.loop-i.i c.loop-i.pos c.loop-i-test.true c.loop-i.invariant.0 _ (ok_none _ _ _ c.in_err-n.ensures.value c.read_name.ensures).1)

pub returns-in_err-k-clause-read : goal.returns-in_err-k-clause-read
returns-in_err-k-clause-read c =
    let r = ok_some _ _ _ _ c.in_ok-n.ensures.value c.read_name.ensures in
    rw c.from_residual-in_err-k.ensures (ranking_absent _ _ _ _ _ c.loop-i.i c.loop-i.pos c.loop-i-test.true c.loop-i.invariant.0 c.in_ok-n.n r (λ m. c.in_err-k.ensures (subst (λ z. In (names_of c.args.bytes.now c.args.names.now) z) (sym (part_same c.args.bytes.now (c.loop-i.pos + 4) c.in_ok-n.n)) m)))

pub loop-i-preserved : goal.loop-i-preserved
loop-i-preserved c =
    let r = ok_some _ _ _ _ c.in_ok-n.ensures.value c.read_name.ensures in
    let h = c.loop-i.invariant.1 in
    let k = c.push_reserved.ensures.capacity in
    (ranking_on _ _ _ _ _ c.loop-i.i c.loop-i.pos c.loop-i-test.true c.loop-i.invariant.0 c.in_ok-n.n r c.in_ok-k.k c.in_ok-k.ensures.0 (c.in_ok-k.ensures.1 ∙ part_same c.args.bytes.now (c.loop-i.pos + 4) c.in_ok-n.n) _ c.push_reserved.ensures.items _ (omega arith), omega arith)
