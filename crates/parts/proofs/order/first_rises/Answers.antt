use Rattle.std.proofs.Common.{sym}
use Rattle.parts.proofs.Taken.{taken, not_taken}
use Rattle.parts.proofs.Rising.{rise_cut, rise_yes, rise_no}
use Rattle.parts.proofs.order.first_rises.Goals as goal

pub returns-in_err-n : goal.returns-in_err-n
returns-in_err-n c =
    let s = not_taken _ _ _ c.in_err-n.ensures.value c.read_name-2.ensures in
    rw c.from_residual-in_err-n.ensures (rise_cut c.args.bytes.now c.in_ok-m.m (taken _ _ _ _ c.in_ok-m.ensures.value c.read_name.ensures) s.0 s.1)

pub returns-then-not-name_before : goal.returns-then-not-name_before
returns-then-not-name_before c =
    rise_no c.args.bytes.now c.in_ok-m.m (taken _ _ _ _ c.in_ok-m.ensures.value c.read_name.ensures) c.in_ok-n.n (taken _ _ _ _ c.in_ok-n.ensures.value c.read_name-2.ensures) (sym c.if-not-name_before.ensures)

pub returns : goal.returns
returns c =
    rise_yes c.args.bytes.now c.in_ok-m.m (taken _ _ _ _ c.in_ok-m.ensures.value c.read_name.ensures) c.in_ok-n.n (taken _ _ _ _ c.in_ok-n.ensures.value c.read_name-2.ensures) (sym c.if-not-name_before.ensures)
