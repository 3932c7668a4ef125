use Rattle.std.proofs.Common.{arith, rules}
use Rattle.printing.proofs.Shown.{text_shown, text_missing}
use Rattle.printing.proofs.datum.show_text_at.Goals as goal

pub returns-in_default : goal.returns-in_default
returns-in_default c = record { is = text_missing c.args.words.now c.args.at c.in_default.ensures; ends = tt; grows = omega arith }

pub returns : goal.returns
returns c = record {
  is = text_shown c.args.words.now c.args.at c.in-Some.span c.in-Some.ensures c.in_ok-show_text.ensures.is;
  ends = let n = c.in-Some.ensures in (omega (arith, n.to_is), n.within);
  grows = search rules;
}
