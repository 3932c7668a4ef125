use Rattle.std.proofs.Common.{Some, None, vec_items, refl, arith}
use Rattle.format.specs.Lists.{none_of}
use Rattle.types.specs.Outcomes.{tidy}
use Rattle.typing.proofs.Results.{ok_some, ok_none}
use Rattle.typing.proofs.Loading.{making_begin, making_stuck, making_unmade, making_full, making_on, making_end, stack_as}
use Rattle.typing.proofs.load.load.Goals as goal

pub loop-p-init : goal.loop-p-init
loop-p-init c = (making_begin _ _ c.args.table.now _ _ (tidy _) _ c.in_ok-note_heads.ensures.headed _ c.clear-2.ensures, record { heads = c.in_ok-note_heads.ensures.cap; ranks = c.requires.fit.ranks })

pub returns-in_err-o : goal.returns-in_err-o
returns-in_err-o c =
    rw c.from_residual-in_err-o.ensures (making_stuck _ _ _ c.loop-p.table c.loop-p.work.stack (vec_items c.loop-p.work.heads) _ _ _ c.in-Some.p c.in-Some.ensures.items c.loop-p.invariant.0 _ _ (record { heads = let h = c.loop-p.invariant.1.heads in let k = c.in-Some.ensures.capacity in omega arith; ranks = c.loop-p.invariant.1.ranks }) (ok_none _ _ _ c.in_err-o.ensures.value c.type_node.ensures).1)

pub returns-in_err-x : goal.returns-in_err-x
returns-in_err-x c =
    let r = ok_some _ _ _ _ c.in_ok-o.ensures.value c.type_node.ensures in
    let e = c.in_err-x.ensures in
    rw c.from_residual-in_err-x.ensures (making_unmade _ _ _ c.loop-p.table c.loop-p.work.stack (vec_items c.loop-p.work.heads) _ _ _ c.in-Some.p c.in-Some.ensures.items c.loop-p.invariant.0 c.in_ok-o.o.head c.in_ok-o.o.parts c.in_ok-o.o.length r _ _ (record { heads = let h = c.loop-p.invariant.1.heads in let k = c.in-Some.ensures.capacity in omega arith; ranks = e.cap }) e.grew (stack_as c.args.bytes.now c.args.names.now _ _ _ _ c.numbers.ensures.is c.in-Some.p c.in_ok-o.o.head None e.says))

pub returns-in_err-put : goal.returns-in_err-put
returns-in_err-put c =
    let r = ok_some _ _ _ _ c.in_ok-o.ensures.value c.type_node.ensures in
    let e = c.in_ok-x.ensures in
    let l = c.in_err-put.ensures in
    rw c.from_residual-in_err-put.ensures (making_full _ _ _ c.loop-p.table c.loop-p.work.stack (vec_items c.loop-p.work.heads) _ _ _ c.in-Some.p c.in-Some.ensures.items c.loop-p.invariant.0 c.in_ok-o.o.head c.in_ok-o.o.parts c.in_ok-o.o.length r _ _ c.in_ok-x.x (record { heads = let h = c.loop-p.invariant.1.heads in let k = c.in-Some.ensures.capacity in omega arith; ranks = e.cap }) e.grew (l.none refl))

pub loop-p-preserved : goal.loop-p-preserved
loop-p-preserved c =
    let r = ok_some _ _ _ _ c.in_ok-o.ensures.value c.type_node.ensures in
    let e = c.in_ok-x.ensures in
    let l = c.in_ok-put.ensures in
    (making_on _ _ _ c.loop-p.table c.loop-p.work.stack (vec_items c.loop-p.work.heads) _ _ _ c.in-Some.p c.in-Some.ensures.items c.loop-p.invariant.0 c.in_ok-o.o.head c.in_ok-o.o.parts c.in_ok-o.o.length r _ c.in_ok-x.x _ e.grew (stack_as c.args.bytes.now c.args.names.now _ _ _ _ c.numbers.ensures.is c.in-Some.p c.in_ok-o.o.head (Some c.in_ok-x.x) e.says) l, record { heads = let h = c.loop-p.invariant.1.heads in let k = c.in-Some.ensures.capacity in omega arith; ranks = e.cap })

pub returns : goal.returns
returns c =
    making_end _ _ _ _ _ (vec_items c.loop-p.work.heads) _ _ (none_of (vec_items c.loop-p.work.heads) (let h = c.in_default.ensures.cases.0 in omega arith)) (record { heads = let h = c.loop-p.invariant.1.heads in let k = c.in_default.ensures.capacity in omega arith; ranks = c.loop-p.invariant.1.ranks }) c.loop-p.invariant.0
