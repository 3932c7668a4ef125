use Rattle.std.proofs.Common.{arith}
use Rattle.bags.proofs.Joining.{no_room_for_both, first_no_room, second_no_room, both_joined}
use Rattle.bags.proofs.join.join_bags.Goals as goal

pub returns-then-size-memory-clause-makes : goal.returns-then-size-memory-clause-makes
returns-then-size-memory-clause-makes c = no_room_for_both c.args.x c.args.y c.args.memory.now (omega (arith, c.if-size-memory.true, c.size.ensures))

pub returns-in_err-start-clause-makes : goal.returns-in_err-start-clause-makes
returns-in_err-start-clause-makes c = rw c.from_residual.ensures (first_no_room c.args.x c.args.y c.args.memory.now c.in_err-start.ensures)

pub returns-in_err-append-clause-makes : goal.returns-in_err-append-clause-makes
returns-in_err-append-clause-makes c = rw c.from_residual-in_err-append.ensures (second_no_room c.args.x c.args.y c.args.memory.now c.in_ok-start.ensures c.in_err-append.ensures)

pub returns-clause-makes : goal.returns-clause-makes
returns-clause-makes c = both_joined c.args.x c.args.y c.args.memory.now c.in_ok-start.ensures c.in_ok-append.ensures
