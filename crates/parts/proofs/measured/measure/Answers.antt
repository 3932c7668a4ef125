use Rattle.std.proofs.Common.{arith}
use Rattle.parts.proofs.Walk.{walk_none, walk_more, walk_fails, walk_done}
use Rattle.parts.proofs.measured.measure.Goals as goal

pub loop-pending-init : goal.loop-pending-init
loop-pending-init g c = walk_none g.M.Measured.coding g.M.Measured.size g.M.Measured.holds c.args.limit c.args.count c.args.bytes.now

pub returns-in_err-front : goal.returns-in_err-front
returns-in_err-front g c =
    rw c.from_residual.ensures
    (walk_fails g.M.Measured.coding g.M.Measured.size g.M.Measured.holds c.args.limit c.args.count c.args.bytes.now c.loop-pending.pending c.loop-pending.parts c.loop-pending.end c.loop-pending.invariant (omega arith) c.in_err-front.ensures)

pub loop-pending-preserved : goal.loop-pending-preserved
loop-pending-preserved g c =
    walk_more g.M.Measured.coding g.M.Measured.size g.M.Measured.holds c.args.limit c.args.count c.args.bytes.now c.loop-pending.pending c.loop-pending.parts c.loop-pending.end c.loop-pending.invariant c.in_ok-front.front (omega arith) c.in_ok-front.ensures

pub returns : goal.returns
returns g c =
    walk_done g.M.Measured.coding g.M.Measured.size g.M.Measured.holds c.args.limit c.args.count c.args.bytes.now c.loop-pending.pending c.loop-pending.parts c.loop-pending.end c.loop-pending.invariant (omega arith)
