use Rattle.std.proofs.Common.{◌≡◌, ◌≤◌, ◌++◌, take, vec_items, vec_len}
use Rattle.printing.specs.Texts.{all_escaped}
use Rattle.printing.proofs.text.show_text.Given as goal

abbrev pub invariant-loop-word : goal.invariant-loop-word
invariant-loop-word l =
    (vec_len l.initial.out ≤ vec_len l.out)
    × (vec_items l.out ≡ vec_items l.initial.out ++ all_escaped (take l.word-index l.words))
