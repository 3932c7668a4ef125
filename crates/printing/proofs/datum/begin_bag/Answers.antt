use Rattle.std.proofs.Common.{arith, rules}
use Rattle.printing.proofs.Shown.{bag_begun, bag_missing}
use Rattle.printing.proofs.datum.begin_bag.Goals as goal

pub returns-in_default : goal.returns-in_default
returns-in_default c = record { is = bag_missing c.args.words.now c.args.at c.in_default.ensures; ends = tt; grows = omega arith }

pub returns : goal.returns
returns c = record {
  is = bag_begun c.args.words.now c.args.at c.in-Some.count c.in-Some.ensures.1 c.in_ok-begin.ensures.is;
  ends = let n = c.in-Some.ensures.1 in (omega arith, n.within);
  grows = search rules;
}
