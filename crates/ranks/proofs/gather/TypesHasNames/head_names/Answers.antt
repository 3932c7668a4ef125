use Rattle.std.proofs.Common.{arith}
use Rattle.ranks.proofs.TypeNames.{head_plain, head_rec}
use Rattle.ranks.proofs.gather.TypesHasNames.head_names.Goals as goal

pub returns-in-Record-clause-taken : goal.returns-in-Record-clause-taken
returns-in-Record-clause-taken c = head_rec _ _ _ c.args.at c.in-Record.k c.args.head c.in-Record.is (let h = c.requires.within in omega arith) c.counted_names.ensures.taken

pub returns-in_default-clause-taken : goal.returns-in_default-clause-taken
returns-in_default-clause-taken c = head_plain _ _ c.args.at c.args.head c.in_default.not-Record
