use Rattle.typing.proofs.Stacks.{put_there}
use Rattle.typing.proofs.stack.Stack.put.Goals as goal

pub returns : goal.returns
returns c =
    let i = c.self.invariant in
    let s = c.in_ok-at.ensures in
    rw (← c.self.view_is) (put_there c.self.inside.memory.items c.self.inside.top c.args.parts c.args.x c.in_ok-at.at i.1 c.if-self-parts.false i.0 s.0 s.1)
