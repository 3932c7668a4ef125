use Rattle.std.proofs.Common.{arith}
use Rattle.std.proofs.lemmas.List.{drop_all}
use Rattle.typing.proofs.stack.Stack.clear.Goals as goal

pub returns : goal.returns
returns c = let l = c.self.invariant in drop_all 8200 c.self.inside.memory.items (omega arith)
