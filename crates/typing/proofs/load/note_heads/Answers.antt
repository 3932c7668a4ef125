use Rattle.std.proofs.Common.{refl, arith}
use Rattle.typing.proofs.Results.{ok_some, ok_none}
use Rattle.typing.proofs.HeadNotes.{noting_begin, noting_stuck, noting_full, noting_lies, noting_on}
use Rattle.typing.proofs.load.note_heads.Goals as goal

pub loop-pending-init : goal.loop-pending-init
loop-pending-init c = (noting_begin _ _ _ _ c.requires.within (let e = c.requires.none in omega arith), c.requires.cap)

pub returns-in_err-o-clause-headed : goal.returns-in_err-o-clause-headed
returns-in_err-o-clause-headed c =
    rw c.from_residual.ensures (noting_stuck _ _ _ _ c.loop-pending.pending c.loop-pending.end (omega arith) c.loop-pending.invariant.0 _ (ok_none _ _ _ c.in_err-o.ensures.value c.type_node.ensures).1)

pub returns-then-len-ge-MOST-clause-headed : goal.returns-then-len-ge-MOST-clause-headed
returns-then-len-ge-MOST-clause-headed c = noting_full _ _ _ _ c.loop-pending.pending c.loop-pending.end (omega arith) c.loop-pending.invariant.0 (omega arith)

pub loop-pending-preserved : goal.loop-pending-preserved
loop-pending-preserved c =
    let r = ok_some _ _ _ _ c.in_ok-o.ensures.value c.type_node.ensures in
    (noting_on _ _ _ _ _ _ (omega arith) c.loop-pending.invariant.0 c.in_ok-o.o.head c.in_ok-o.o.parts c.in_ok-o.o.length r _ _ c.push_reserved.ensures.items refl, let h = c.loop-pending.invariant.1 in let k = c.push_reserved.ensures.capacity in omega arith)

pub loop-pending-smaller : goal.loop-pending-smaller
loop-pending-smaller c =
    let r = ok_some _ _ _ _ c.in_ok-o.ensures.value c.type_node.ensures in
    let l = noting_lies _ _ _ _ _ _ (omega arith) c.loop-pending.invariant.0 c.in_ok-o.o.head c.in_ok-o.o.parts c.in_ok-o.o.length r in
    omega (arith, l.0, l.1)
