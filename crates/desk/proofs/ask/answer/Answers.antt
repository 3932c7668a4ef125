use Rattle.std.proofs.Common.{length}
use Rattle.desk.specs.Answered.{nothing}
use Rattle.desk.proofs.Refusals.{garbled_answered, not_done}
use Rattle.desk.proofs.ask.answer.Goals as goal

pub returns-in-Ok : goal.returns-in-Ok
returns-in-Ok c = not_done c.args.bytes.now (length c.args.lent.now) _ c.in-Ok.ensures

pub returns-in-Err : goal.returns-in-Err
returns-in-Err c = garbled_answered nothing c.args.bytes.now (length c.args.lent.now) c.in-Err.place c.in-Err.ensures
