use Rattle.std.proofs.Common.{◌≡◌, ◌+◌, ◌-◌, arith}
use Rattle.records.proofs.Names.{look_found, look_on, look_stuck, look_ends}
use Rattle.records.proofs.choose.one_of.Goals as goal

pub returns-in_default : goal.returns-in_default
returns-in_default c = look_stuck c.args.bytes.now _ _ c.args.name _ c.loop.here c.loop.invariant (omega arith) c.in_default.field-0 c.in_default.ensures

pub returns-then-is_named : goal.returns-then-is_named
returns-then-is_named c = look_found c.args.bytes.now _ _ c.args.name _ c.loop.here c.loop.invariant (omega arith) c.in-Ok.length c.in-Ok.ensures c.if-is_named.ensures

pub loop-preserved : goal.loop-preserved
loop-preserved c =
    let left : c.args.names.count - c.loop.counter - 1 ≡ c.args.names.count - (c.loop.counter + 1) = omega arith in
    rw (← left) (look_on c.args.bytes.now _ _ c.args.name _ c.loop.here c.loop.invariant (omega arith) c.in-Ok.length c.in-Ok.ensures c.if-is_named.ensures)

pub returns : goal.returns
returns c = look_ends c.args.bytes.now _ _ c.args.name _ c.loop.here c.loop.invariant (omega (arith, c.loop-test.false))
