use Rattle.std.proofs.Common.{arith, rules}
use Rattle.printing.proofs.Shown.{number_shown, number_missing}
use Rattle.printing.proofs.datum.show_number_at.Goals as goal

pub returns-in_default : goal.returns-in_default
returns-in_default c = record { is = number_missing c.args.words.now c.args.at c.in_default.ensures; ends = tt; grows = omega arith }

pub returns : goal.returns
returns c = record {
  is = number_shown c.args.words.now c.args.at c.in-Some.n c.in-Some.ensures c.in_ok-show_number.ensures.is;
  ends = let n = c.in-Some.ensures in (omega arith, n.within);
  grows = search rules;
}
