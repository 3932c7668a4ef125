use Rattle.std.proofs.Common.{arith}
use Rattle.types.proofs.Meanings.{ranked_as}
use Rattle.typing.proofs.TypeMade.{ranked}
use Rattle.typing.proofs.DatumTold.{no_first, no_place, no_second, both_names}
use Rattle.typing.proofs.parts.matched_at.Goals as goal
use Rattle.typing.proofs.parts.matched_at.Goals.{then-rest-lt5-via-then-rest-lt5, then-rest-lt5-via-else-rest-lt5+then-rest-j}

pub returns-in_err-m-clause-told : goal.returns-in_err-m-clause-told
returns-in_err-m-clause-told c = rw c.from_residual.ensures (no_first c.args.bytes.now c.args.names.now c.args.table.now c.args.at c.args.j c.args.k c.args.x c.args.y c.requires.place c.in_err-m.ensures)

pub returns-then-rest-lt5-clause-told : goal.returns-then-rest-lt5-clause-told
returns-then-rest-lt5-clause-told c =
    no_place c.args.bytes.now c.args.names.now c.args.table.now c.args.at c.args.j c.args.k c.args.x c.args.y c.requires.place (λ h. elim c.then-rest-lt5.branch [ then-rest-lt5-via-then-rest-lt5 w ↦ omega arith | then-rest-lt5-via-else-rest-lt5+then-rest-j w ↦ omega arith ])

pub returns-in_err-n-clause-told : goal.returns-in_err-n-clause-told
returns-in_err-n-clause-told c = rw c.from_residual-in_err-n.ensures (no_second c.args.bytes.now c.args.names.now c.args.table.now c.args.at c.args.j c.args.k c.args.x c.args.y c.requires.place c.in_err-n.ensures)

pub returns-clause-told : goal.returns-clause-told
returns-clause-told c = both_names c.args.bytes.now c.args.names.now c.args.table.now c.args.at c.args.j c.args.k c.args.x c.args.y c.requires.place _ c.in_ok-m.m c.in_ok-n.n _ c.in_ok-m.ensures c.in_ok-n.ensures (c.matched.ensures.says _ (ranked_as c.requires.same (ranked _ c.requires.listed.ordered)))
