use Rattle.ranks.proofs.Gathers.{kept_none}
use Rattle.ranks.proofs.QueryNames.{head_plain, typed_taken, one_taken, matched_taken}
use Rattle.ranks.proofs.gather.QueriesHasNames.head_names.Goals as goal

pub returns-in-Just-clause-taken : goal.returns-in-Just-clause-taken
returns-in-Just-clause-taken c = typed_taken _ _ _ c.args.at c.args.head c.in-Just.is c.type_names.ensures.taken

pub returns-in-One-clause-taken : goal.returns-in-One-clause-taken
returns-in-One-clause-taken c = one_taken _ _ _ c.args.at c.args.head c.in-One.o c.in-One.is c.op_names.ensures.taken

pub returns-in-Matched-clause-taken : goal.returns-in-Matched-clause-taken
returns-in-Matched-clause-taken c = matched_taken _ _ _ _ c.args.at c.in-Matched.m c.in-Matched.n _ _ c.args.head c.in-Matched.is c.named-end.ensures c.named.ensures

pub returns-in_default : goal.returns-in_default
returns-in_default c = let n = c.in_default in record { kept = kept_none _ _ c.requires.listed; taken = head_plain _ _ c.args.at c.args.head n.not-Just n.not-OnLeft n.not-OnRight n.not-One n.not-Matched }
