use Rattle.std.proofs.Common.{◌+◌, ◌≤◌, length, get_or, sym, arith}
use Rattle.printing.proofs.Values.{four_words, low_below}
use Rattle.printing.proofs.words.four.Goals as goal

pub returns : goal.returns
returns c =
    let words = c.args.words.now in
    let at = c.args.at in
    let h : at + 4 ≤ length words = omega arith in (
      omega (arith, low_below (get_or words at 0), low_below (get_or words (at + 1) 0), low_below (get_or words (at + 2) 0), low_below (get_or words (at + 3) 0)),
      record { within = h; is = sym (four_words words at h) },
    )
