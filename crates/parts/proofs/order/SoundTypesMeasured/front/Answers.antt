use Rattle.std.proofs.Common.{◌<◌, length, sym, ◌∙◌, arith, rules}
use Rattle.format.specs.Nodes.{TellsType}
use Rattle.parts.proofs.Taken.{taken, not_taken}
use Rattle.parts.proofs.Sounds.{sound_weights, head_is}
use Rattle.parts.proofs.Fronts.{front_none, front_stuck, head_long, front_heavy, front_bad, front_done}
use Rattle.parts.proofs.order.SoundTypesMeasured.front.Goals as goal

pub returns-then-limit-eq0 : goal.returns-then-limit-eq0
returns-then-limit-eq0 c = front_none sound_weights c.args.limit c.args.bytes.now c.if-limit-eq0.true

pub returns-in_err-o : goal.returns-in_err-o
returns-in_err-o c = let s = not_taken _ _ _ c.in_err-o.ensures.value c.type_node.ensures in rw c.from_residual.ensures (front_stuck sound_weights c.args.limit s.0 c.args.bytes.now s.1)

pub slice_bounds-own_parts-count : goal.slice_bounds-own_parts-count
slice_bounds-own_parts-count c =
    let h : 0 < length c.args.bytes.now = head_long sound_weights TellsType c.args.limit c.args.bytes.now c.in_ok-o.o.head _ _ (taken _ _ _ _ c.in_ok-o.ensures.value c.type_node.ensures) in
    omega arith

pub slice_bounds-head_rises-count : goal.slice_bounds-head_rises-count
slice_bounds-head_rises-count c =
    let h : 0 < length c.args.bytes.now = head_long sound_weights TellsType c.args.limit c.args.bytes.now c.in_ok-o.o.head _ _ (taken _ _ _ _ c.in_ok-o.ensures.value c.type_node.ensures) in
    omega arith

pub slice_bounds-own_parts-start : goal.slice_bounds-own_parts-start
slice_bounds-own_parts-start c =
    let h : 0 < length c.args.bytes.now = head_long sound_weights TellsType c.args.limit c.args.bytes.now c.in_ok-o.o.head _ _ (taken _ _ _ _ c.in_ok-o.ensures.value c.type_node.ensures) in
    search rules

pub slice_bounds-head_rises-start : goal.slice_bounds-head_rises-start
slice_bounds-head_rises-start c =
    let h : 0 < length c.args.bytes.now = head_long sound_weights TellsType c.args.limit c.args.bytes.now c.in_ok-o.o.head _ _ (taken _ _ _ _ c.in_ok-o.ensures.value c.type_node.ensures) in
    search rules

pub returns-then-not-head_rises : goal.returns-then-not-head_rises
returns-then-not-head_rises c =
    let n = (taken _ _ _ _ c.in_ok-o.ensures.value c.type_node.ensures) in
    front_bad sound_weights TellsType c.args.limit c.args.bytes.now c.in_ok-o.o.head _ _ n (sym (head_is c.args.limit c.args.bytes.now c.in_ok-o.o.head _ _ n _ c.head_rises.ensures) ∙ c.if-not-head_rises.true)

pub returns-in_err-own : goal.returns-in_err-own
returns-in_err-own c =
    rw c.from_residual-in_err-own.ensures
    (front_heavy sound_weights TellsType c.args.limit c.args.bytes.now c.in_ok-o.o.head _ _ (taken _ _ _ _ c.in_ok-o.ensures.value c.type_node.ensures) (omega arith) c.in_err-own.ensures)

pub returns : goal.returns
returns c = front_done sound_weights TellsType c.args.limit c.args.bytes.now c.in_ok-o.o.head _ _ (taken _ _ _ _ c.in_ok-o.ensures.value c.type_node.ensures) (omega arith) _ c.in_ok-own.ensures (sym (head_is c.args.limit c.args.bytes.now c.in_ok-o.o.head _ _ (taken _ _ _ _ c.in_ok-o.ensures.value c.type_node.ensures) _ c.head_rises.ensures) ∙ c.if-not-head_rises.false)
