use Rattle.std.proofs.Common.{arith}
use Rattle.std.proofs.lemmas.List.{drop_all}
use Rattle.typing.proofs.stack.Stack.over.Goals as goal

pub returns : goal.returns
returns c = drop_all 8200 c.args.memory.items (let l = c.requires in omega arith)
