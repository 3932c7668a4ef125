use Rattle.std.proofs.Common.{arith, rules}
use Rattle.printing.proofs.Shown.{record_begun, count_missing, names_missing}
use Rattle.printing.proofs.datum.begin_record.Goals as goal

pub returns-in_default : goal.returns-in_default
returns-in_default c = record { is = count_missing c.args.words.now c.args.at c.in_default.ensures; ends = tt; grows = omega arith }

pub returns-in_default-after_names : goal.returns-in_default-after_names
returns-in_default-after_names c = record { is = names_missing c.args.words.now c.args.at c.in-Some.count c.in-Some.ensures.1 c.in_default-after_names.ensures.past; ends = tt; grows = omega arith }

pub returns : goal.returns
returns c = record {
  is = record_begun c.args.words.now c.args.at c.in-Some.count c.in-Some-after_names.end c.in-Some.ensures.1 c.in-Some-after_names.ensures.past c.in_ok-begin.ensures.is;
  ends = let n = c.in-Some-after_names.ensures.ends in (omega (arith, n.0), n.1);
  grows = search rules;
}
