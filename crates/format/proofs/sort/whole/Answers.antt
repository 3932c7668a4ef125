use Rattle.std.proofs.Common.{arith}
use Rattle.format.specs.Codings.{garbled_stuck}
use Rattle.format.proofs.Spans.{unopened_stuck}
use Rattle.format.proofs.Wholes.{whole_cut, whole_after, whole_all}
use Rattle.format.proofs.Moved.{moved_ok}
use Rattle.format.proofs.sort.whole.Goals as goal

pub returns-in_err-head-clause-is : goal.returns-in_err-head-clause-is
returns-in_err-head-clause-is g c = grind (arith, garbled_stuck g.S.Sort.coding, unopened_stuck g.S.Sort.coding)

pub returns-in_err-e-clause-is : goal.returns-in_err-e-clause-is
returns-in_err-e-clause-is g c = grind (arith, whole_cut g.S.Sort.coding c.args.bytes.now c.in_ok-head.field-0.parts c.in_ok-head.field-0.length c.in_ok-head.ensures.opened)

pub returns-then-e-bytes-clause-is : goal.returns-then-e-bytes-clause-is
returns-then-e-bytes-clause-is g c = whole_after g.S.Sort.coding c.args.bytes.now c.in_ok-head.field-0.parts c.in_ok-head.field-0.length c.in_ok-head.ensures.opened _ g.met.S.Sort.unique (moved_ok _ _ _ _ _ _ c.scan.ensures c.map_err.ensures.cases c.in_ok-e.was) (omega arith)

pub returns-clause-is : goal.returns-clause-is
returns-clause-is g c = whole_all g.S.Sort.coding c.args.bytes.now c.in_ok-head.field-0.parts c.in_ok-head.field-0.length c.in_ok-head.ensures.opened c.in_ok-e.field-0 (moved_ok _ _ _ _ _ _ c.scan.ensures c.map_err.ensures.cases c.in_ok-e.was) (omega arith)
