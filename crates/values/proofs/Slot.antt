-- Words of two parts in a row.
use Rattle.std.proofs.Common.{◌≡◌, ℕ, ◌<◌, List, ◌++◌, length, get_or, sym}
use lib.ListN.{get_or-append}

pub word_before : (b m : List ℕ) (k : ℕ) → k < length b → get_or b k 0 ≡ get_or (b ++ m) k 0
word_before b m k h = sym (get_or-append b m 0 k h)
