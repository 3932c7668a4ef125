use Rattle.std.proofs.Common.{rules, ◌≡◌, ℕ, ◌+◌, ◌<◌, ◌≤◌, List, length, take, refl, sym, subst, arith, length-drop}
use Rattle.format.specs.Coding.{Coding, many}
use Rattle.format.specs.Reading.{Stuck, Opened, Unopened}
use Rattle.format.specs.Lists.{from, from_drop}
use Rattle.format.proofs.Spans.{Spans, spans_none, spans_more, spans_all, spans_stuck}
use Rattle.format.proofs.Moved.{moved_ok, moved_err, handed_on}
use Rattle.format.proofs.sort.scan.Goals as goal

cut : (S : Coding) (c n e : ℕ) (xs : List ℕ) → 0 < n → e ≤ length xs → Spans S c n (take e xs) → (p : ℕ) → Unopened S (from e xs) p → Stuck (many S c) xs (e + p)
cut S c n e xs h l s p u = spans_stuck S c n e p xs h l s (subst (λ (v : List ℕ). Unopened S v p) (from_drop e xs) u)

pub loop-pending-init : goal.loop-pending-init
loop-pending-init g c = (omega arith, omega arith, spans_none g.S.Sort.coding c.args.count c.args.bytes.now)

pub loop-pending-preserved : goal.loop-pending-preserved
loop-pending-preserved g c =
    let xs = c.args.bytes.now in
    let inv = c.loop-pending.invariant in
    let e = c.loop-pending.end in
    let h = c.in_ok-o.o in
    let o = subst (λ (v : List ℕ). Opened g.S.Sort.coding v h.parts h.length) (from_drop e xs) (moved_ok _ _ _ _ _ _ c.head.ensures.opened c.map_err.ensures.cases c.in_ok-o.was) in
    (omega (arith, o.within, length-drop e xs, inv.0), omega (arith, o.few, o.some, inv.1), spans_more g.S.Sort.coding c.args.count c.loop-pending.pending _ h.parts e h.length xs (omega arith) refl inv.2 o.opens)

pub returns-in_err-o : goal.returns-in_err-o
returns-in_err-o g c =
    let xs = c.args.bytes.now in
    let inv = c.loop-pending.invariant in
    let e = c.loop-pending.end in
    let w = moved_err _ _ _ c.head.result c.map_err.result c.in_err-o.field-0.0 c.head.ensures.opened c.map_err.ensures.cases c.in_err-o.was in
    let q : c.in_err-o.field-0.0 ≡ e + w.0 = search (rules, w.2) in
    let k = cut g.S.Sort.coding c.args.count c.loop-pending.pending e xs (omega arith) inv.0 inv.2 w.0 w.1 in
    handed_on _ _ _ _ c.from_residual.ensures.1 (subst (λ (v : ℕ). Stuck (many g.S.Sort.coding c.args.count) xs v) (sym q) k)

pub returns : goal.returns
returns g c =
    let inv = c.loop-pending.invariant in
    spans_all g.S.Sort.coding c.args.count c.loop-pending.pending c.loop-pending.end c.args.bytes.now (omega arith) inv.0 inv.2
