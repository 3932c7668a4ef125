use Rattle.std.proofs.Common.{refl}
use Rattle.binary.proofs.operate.operate.Goals as goal

pub returns-in-Equal-clause-does : goal.returns-in-Equal-clause-does
returns-in-Equal-clause-does c = rw c.in-Equal.is (rw c.row.ensures at (c.equal.ensures c.args.memory.now.top))

pub returns-in-And : goal.returns-in-And
returns-in-And c = record { frozen = refl; same = refl; does = rw c.in-And.is ((c.both_true.ensures _).does c.args.bytes.now c.args.deep _) }

pub returns-in-Or : goal.returns-in-Or
returns-in-Or c = record { frozen = refl; same = refl; does = rw c.in-Or.is ((c.one_true.ensures _).does c.args.bytes.now c.args.deep _) }

pub returns-in-Plus : goal.returns-in-Plus
returns-in-Plus c = record { frozen = refl; same = refl; does = rw c.in-Plus.is ((c.plus.ensures _).does c.args.bytes.now c.args.deep _) }

pub returns-in-Less : goal.returns-in-Less
returns-in-Less c = record { frozen = refl; same = refl; does = rw c.in-Less.is ((c.less.ensures _).does c.args.bytes.now c.args.deep _) }

pub join_two-requires : goal.join_two-requires
join_two-requires c = record { bytes = c.args.bytes.now; deep = c.args.deep; given = rw c.in-JoinBags.is at c.requires }

pub returns-in-JoinBags : goal.returns-in-JoinBags
returns-in-JoinBags c = record { frozen = c.join_two.ensures.frozen; same = c.join_two.ensures.same; does = rw c.in-JoinBags.is (c.join_two.ensures.does.does c.args.bytes.now c.args.deep) }

pub returns-in-Within-clause-does : goal.returns-in-Within-clause-does
returns-in-Within-clause-does c = rw c.in-Within.is (rw c.row-in-Within.ensures at (c.within.ensures c.args.memory.now.top))
