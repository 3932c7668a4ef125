use Rattle.std.proofs.Common.{◌<◌, length, refl, arith, rules}
use Rattle.format.specs.Nodes.{TellsData}
use Rattle.parts.proofs.Taken.{taken, not_taken}
use Rattle.parts.proofs.DataParts.{data_weights}
use Rattle.parts.proofs.Fronts.{front_none, front_stuck, head_long, front_heavy, front_done}
use Rattle.parts.proofs.data.DataMeasured.front.Goals as goal

pub returns-then-limit-eq0 : goal.returns-then-limit-eq0
returns-then-limit-eq0 c = front_none data_weights c.args.limit c.args.bytes.now c.if-limit-eq0.true

pub returns-in_err-o : goal.returns-in_err-o
returns-in_err-o c = let s = not_taken _ _ _ c.in_err-o.ensures.value c.data_node.ensures in rw c.from_residual.ensures (front_stuck data_weights c.args.limit s.0 c.args.bytes.now s.1)

pub slice_bounds-own_parts-count : goal.slice_bounds-own_parts-count
slice_bounds-own_parts-count c =
    let h : 0 < length c.args.bytes.now = head_long data_weights TellsData c.args.limit c.args.bytes.now c.in_ok-o.o.head _ _ (taken _ _ _ _ c.in_ok-o.ensures.value c.data_node.ensures) in
    omega arith

pub slice_bounds-own_parts-start : goal.slice_bounds-own_parts-start
slice_bounds-own_parts-start c =
    let h : 0 < length c.args.bytes.now = head_long data_weights TellsData c.args.limit c.args.bytes.now c.in_ok-o.o.head _ _ (taken _ _ _ _ c.in_ok-o.ensures.value c.data_node.ensures) in
    search rules

pub returns-in_err-own : goal.returns-in_err-own
returns-in_err-own c =
    rw c.from_residual-in_err-own.ensures
    (front_heavy data_weights TellsData c.args.limit c.args.bytes.now c.in_ok-o.o.head _ _ (taken _ _ _ _ c.in_ok-o.ensures.value c.data_node.ensures) (omega arith) c.in_err-own.ensures)

pub returns : goal.returns
returns c = front_done data_weights TellsData c.args.limit c.args.bytes.now c.in_ok-o.o.head _ _ (taken _ _ _ _ c.in_ok-o.ensures.value c.data_node.ensures) (omega arith) _ c.in_ok-own.ensures refl
