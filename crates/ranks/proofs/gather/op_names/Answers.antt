use Rattle.std.proofs.Common.{arith}
use Rattle.ranks.proofs.QueryNames.{op_plain, by_name_taken, only_taken}
use Rattle.ranks.proofs.gather.op_names.Goals as goal

pub returns-in-Dot-clause-taken : goal.returns-in-Dot-clause-taken
returns-in-Dot-clause-taken c = by_name_taken _ _ _ c.args.at c.in-Dot.n _ c.args.o c.in-Dot.is c.named.ensures

pub returns-in-Only-clause-taken : goal.returns-in-Only-clause-taken
returns-in-Only-clause-taken c = only_taken _ _ _ c.args.at c.in-Only.k c.args.o c.in-Only.is (let h = c.requires.within in omega arith) c.counted_names.ensures.taken

pub returns-in_default-clause-taken : goal.returns-in_default-clause-taken
returns-in_default-clause-taken c = let n = c.in_default in op_plain _ _ c.args.at c.args.o n.not-Dot n.not-AsField n.not-Without n.not-Only
