use Rattle.std.proofs.Common.{ℕ, List, ◌++◌, length, drop, vec_items, ap, arith}
use Rattle.std.proofs.lemmas.List.{length-append, length-drop}
use Rattle.typed.proofs.Asking.{copied_on, copied_end}
use Rattle.typed.proofs.whole.copy.Goals as goal

pub loop-x-init : goal.loop-x-init
loop-x-init c = (let h = c.requires.cap in let k = c.clear.ensures.capacity in omega arith, ap (λ (z : List ℕ). z ++ c.args.numbers.now) c.clear.ensures.items)

pub push_reserved-requires : goal.push_reserved-requires
push_reserved-requires c =
    let h = c.loop-x.invariant.0 in
    let e = ap (λ (z : List ℕ). length z) c.loop-x.invariant.1 in
    let k = c.requires.few in
    omega (arith, length-append (vec_items c.loop-x.to) (drop c.loop-x.x-index c.args.numbers.now), length-drop c.loop-x.x-index c.args.numbers.now)

pub loop-x-preserved : goal.loop-x-preserved
loop-x-preserved c = (let h = c.loop-x.invariant.0 in let k = c.push_reserved.ensures.capacity in omega arith, copied_on c.args.numbers.now _ _ c.loop-x.x-index (omega arith) c.loop-x.invariant.1 c.push_reserved.ensures.items)

pub returns : goal.returns
returns c = record { cap = c.loop-x.invariant.0; is = copied_end c.args.numbers.now _ c.loop-x.x-index (omega arith) c.loop-x.invariant.1 }
