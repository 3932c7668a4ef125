use Rattle.std.proofs.Common.{arith}
use Rattle.parts.proofs.Taken.{taken}
use Rattle.parts.proofs.Naming.{name_long, name_done}
use Rattle.parts.proofs.names.NamesMeasured.front.Goals as goal

pub returns-then-n-limit : goal.returns-then-n-limit
returns-then-n-limit c = name_long c.args.limit c.args.bytes.now c.in_ok-n.n (taken _ _ _ _ c.in_ok-n.ensures.value c.read_name.ensures) (omega arith)

pub returns : goal.returns
returns c = name_done c.args.limit c.args.bytes.now c.in_ok-n.n (taken _ _ _ _ c.in_ok-n.ensures.value c.read_name.ensures) (omega arith)
