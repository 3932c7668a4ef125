use Rattle.std.proofs.Common.{arith}
use Rattle.printing.proofs.Skips.{begin, step, cut_off, done}
use Rattle.printing.proofs.words.after_names.Goals as goal

pub loop-i-init : goal.loop-i-init
loop-i-init c = (omega arith, c.requires, begin c.args.words.now c.args.at c.args.count)

pub loop-i-preserved : goal.loop-i-preserved
loop-i-preserved c =
    let n = c.in_ok-span.ensures in (
      omega (arith, c.loop-i.invariant.0, n.to_is),
      n.within,
      step c.args.words.now c.args.at c.args.count c.loop-i.i c.loop-i.end c.in_ok-span.span c.loop-i-test.true c.loop-i.invariant.2 n,
    )

pub returns-in_err-span : goal.returns-in_err-span
returns-in_err-span c =
    rw c.from_residual.ensures
    (record {
      ends = tt;
      past = cut_off c.args.words.now c.args.at c.args.count c.loop-i.i c.loop-i.end c.loop-i-test.true c.loop-i.invariant.2 c.in_err-span.ensures;
    })

pub returns : goal.returns
returns c = record {
  ends = (c.loop-i.invariant.0, c.loop-i.invariant.1);
  past = done c.args.words.now c.args.at c.args.count c.loop-i.i c.loop-i.end c.loop-i-test.false c.loop-i.invariant.2;
}
