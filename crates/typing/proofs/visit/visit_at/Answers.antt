use Rattle.std.proofs.Common.{arith}
use Rattle.typing.proofs.Seeing.{seen_off, seen_none, seen_some}
use Rattle.typing.proofs.visit.visit_at.Goals as goal
use Rattle.typing.proofs.visit.visit_at.Goals.{then-base-bytes-via-then-base-bytes, then-base-bytes-via-else-base-bytes+then-bytes-base}

pub returns-then-base-bytes : goal.returns-then-base-bytes
returns-then-base-bytes c =
    seen_off c.args.bytes.now c.args.guide.now c.args.base c.args.pos (λ h. elim c.then-base-bytes.branch [ then-base-bytes-via-then-base-bytes w ↦ omega arith | then-base-bytes-via-else-base-bytes+then-bytes-base w ↦ omega arith ])

pub returns-in_err-visit : goal.returns-in_err-visit
returns-in_err-visit c = rw c.from_residual.ensures (seen_none c.args.bytes.now c.args.guide.now c.args.base c.args.pos _ c.mark_at-last.ensures c.in_err-visit.ensures)

pub returns : goal.returns
returns c = seen_some c.args.bytes.now c.args.guide.now c.args.base c.args.pos _ c.in_ok-visit.visit (omega arith) c.mark_at-last.ensures c.in_ok-visit.ensures
