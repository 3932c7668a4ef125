use Rattle.std.proofs.Common.{length, rules}
use Rattle.asking_desk.proofs.Answering.{refused_answer, outcome_answer}
use Rattle.asking_desk.proofs.ask.answer.Goals as goal

pub returns-in-Err-clause-answered : goal.returns-in-Err-clause-answered
returns-in-Err-clause-answered c = refused_answer c.args.bytes.now (length c.args.lent.now) c.in-Err.why c.in-Err.place (c.in-Err.ensures.checked (length c.args.lent.now))

pub ask_of-requires : goal.ask_of-requires
ask_of-requires c = let passed = rw (← c.deref.ensures.value) at c.in-Ok.ensures.checked in record { passed = passed.passed; marks = search rules }

pub returns-in-Ok-clause-answered : goal.returns-in-Ok-clause-answered
returns-in-Ok-clause-answered c =
    let passed = rw (← c.deref.ensures.value) at c.in-Ok.ensures.checked in
    rw c.from.ensures
    (outcome_answer c.args.bytes.now c.deref.result.now c.in-Ok.ask passed (length c.args.lent.now) c.ask_of.result (c.ask_of.ensures.means passed.passed))

pub returns-in-Ok-clause-in_order : goal.returns-in-Ok-clause-in_order
returns-in-Ok-clause-in_order c = c.checked.ensures.in_order
