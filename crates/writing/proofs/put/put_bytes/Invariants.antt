use Rattle.std.proofs.Common.{◌≡◌, take}
use Rattle.writing.proofs.put.put_bytes.Given as goal

abbrev pub invariant-loop-i : goal.invariant-loop-i
invariant-loop-i l = take l.i l.out ≡ take l.i l.bytes
