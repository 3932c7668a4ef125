use Rattle.std.proofs.Common.{arith}
use Rattle.of_type.proofs.Walks.{bag_more, bag_refused, bag_done, bag_empty, values_more, values_refused, values_done}
use Rattle.of_type.proofs.Judges.{no_limit, as_bag, as_record, not_left, as_left, as_right, right_open}
use Rattle.of_type.proofs.Both.+datum_and_parts.Goals as goal

pub bag_is-returns-then-count-eq0 : goal.bag_is-returns-then-count-eq0
bag_is-returns-then-count-eq0 t c = bag_empty c.args.limit c.args.count c.args.self _ c.if-count-eq0.true c.past_type.ensures

pub bag_is-returns-in_err-after : goal.bag_is-returns-in_err-after
bag_is-returns-in_err-after t c = rw c.from_residual.ensures (bag_refused c.args.limit c.args.count c.args.self c.loop-i._i c.loop-i.after c.loop-i.invariant c.loop-i-test.true c.in_err-after.ensures)

pub bag_is-loop-i-preserved : goal.bag_is-loop-i-preserved
bag_is-loop-i-preserved t c = bag_more c.args.limit c.args.count c.args.self c.loop-i._i c.loop-i.after c.loop-i.invariant c.in_ok-after.after c.loop-i-test.true c.in_ok-after.ensures

pub bag_is-returns : goal.bag_is-returns
bag_is-returns t c = bag_done c.args.limit c.args.count c.args.self c.loop-i._i c.loop-i.after c.loop-i.invariant (omega arith) (omega arith)

pub datum_is-returns-then-limit-eq0 : goal.datum_is-returns-then-limit-eq0
datum_is-returns-then-limit-eq0 t c = no_limit c.args.limit c.args.self c.if-limit-eq0.true

pub datum_is-returns-in-Bag : goal.datum_is-returns-in-Bag
datum_is-returns-in-Bag t c = as_bag c.args.limit c.args.self c.in_ok-heads.heads c.in_ok-heads.ensures c.in-Bag.count _ c.in-Bag.is c.bag_is.ensures

pub datum_is-returns-in-Record : goal.datum_is-returns-in-Record
datum_is-returns-in-Record t c = as_record c.args.limit c.args.self c.in_ok-heads.heads c.in_ok-heads.ensures c.in-Record.count _ c.in-Record.is c.values_are.ensures

pub datum_is-returns-in_err-datum_is-in-Left : goal.datum_is-returns-in_err-datum_is-in-Left
datum_is-returns-in_err-datum_is-in-Left t c = rw c.from_residual-in_err-datum_is-in-Left.ensures (not_left c.args.limit c.args.self c.in_ok-heads.heads c.in_ok-heads.ensures c.in-Left.is c.in_err-datum_is-in-Left.ensures)

pub datum_is-returns-in_ok-datum_is-in-Left : goal.datum_is-returns-in_ok-datum_is-in-Left
datum_is-returns-in_ok-datum_is-in-Left t c = as_left c.args.limit c.args.self c.in_ok-heads.heads c.in_ok-heads.ensures c.in_ok-datum_is-in-Left.field-0 _ c.in-Left.is c.in_ok-datum_is-in-Left.ensures c.past_type.ensures

pub datum_is-returns-in_err-past_type-in-Right : goal.datum_is-returns-in_err-past_type-in-Right
datum_is-returns-in_err-past_type-in-Right t c = rw c.from_residual-in_err-past_type-in-Right.ensures (right_open c.args.limit c.args.self c.in_ok-heads.heads c.in_ok-heads.ensures c.in-Right.is c.in_err-past_type-in-Right.ensures)

pub datum_is-returns-in_ok-past_type-in-Right : goal.datum_is-returns-in_ok-past_type-in-Right
datum_is-returns-in_ok-past_type-in-Right t c = as_right c.args.limit c.args.self c.in_ok-heads.heads c.in_ok-heads.ensures c.in-Right.is c.in_ok-past_type-in-Right.field-0 _ c.in_ok-past_type-in-Right.ensures c.datum_is-in-Right.ensures

pub values_are-returns-in_err-after : goal.values_are-returns-in_err-after
values_are-returns-in_err-after t c = rw c.from_residual.ensures (values_refused c.args.limit c.args.count c.args.self c.loop-i._i c.loop-i.after c.loop-i.invariant c.loop-i-test.true c.in_err-after.ensures)

pub values_are-loop-i-preserved : goal.values_are-loop-i-preserved
values_are-loop-i-preserved t c = values_more c.args.limit c.args.count c.args.self c.loop-i._i c.loop-i.after c.loop-i.invariant c.in_ok-after.after c.loop-i-test.true c.in_ok-after.ensures

pub values_are-returns : goal.values_are-returns
values_are-returns t c = values_done c.args.limit c.args.count c.args.self c.loop-i._i c.loop-i.after c.loop-i.invariant (omega arith)
