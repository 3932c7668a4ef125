use Rattle.asking_desk.proofs.memory.make_desk.Goals as goal

pub returns : goal.returns
returns c = c.in_ok-memory.ensures.sound
