use Rattle.std.proofs.Common.{arith}
use Rattle.ranks.proofs.QueryNames.{named_none, named_put}
use Rattle.ranks.proofs.gather.named.Goals as goal
use Rattle.ranks.proofs.gather.named.Goals.{then-rest-lt4-via-then-rest-lt4, then-rest-lt4-via-else-rest-lt4+then-rest-n}

pub returns-then-rest-lt4 : goal.returns-then-rest-lt4
returns-then-rest-lt4 c =
    named_none _ _ c.args.names.now c.args.at c.args.n c.requires.within c.requires.listed
    (λ h. elim c.then-rest-lt4.branch [ then-rest-lt4-via-then-rest-lt4 w ↦ omega arith | then-rest-lt4-via-else-rest-lt4+then-rest-n w ↦ omega arith ])

pub returns : goal.returns
returns c = named_put _ _ _ c.args.at c.args.n c.requires.within (let w = c.requires.within in omega arith) c.put.ensures
