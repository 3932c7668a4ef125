use Rattle.std.proofs.Common.{arith}
use Rattle.printing.proofs.Values.{eight_words}
use Rattle.printing.proofs.words.eight.Goals as goal

pub returns : goal.returns
returns c =
    let low = c.in_ok-low.ensures.1 in
    let high = c.in_ok-high.ensures.1 in
    record {
      within = omega (arith, high.within);
      is = omega (arith, eight_words c.args.words.now c.args.at low.within, low.is, high.is);
    }
