-- Numbers and names that stand in words, a byte to a word, the lowest byte first.
use Rattle.std.specs.Prelude.{◌≡◌, ℕ, ◌+◌, ◌*◌, ◌≤◌, List, [], ◌∷◌, ◌++◌, length, take, drop, IsSomeAnd, Option, bit_and}
use Rattle.query.specs.Data.{Name}
use Rattle.format.specs.Coding.{name, writes, AllFit}
use Rattle.std.specs.declared.ops.Range.{Range}

-- the number that words stand for
unfoldable pub value : List ℕ → ℕ
value [] = 0
value (w ∷ ws) = bit_and w 255 + 256 * value ws

-- the number of so many words that stands at a place
abbrev pub value_at : List ℕ → ℕ → ℕ → ℕ
value_at words at k = value (take k (drop at words))

pub record NumberAt (words : List ℕ) (at k n : ℕ) : Type 0 where
  pub within : at + k ≤ length words
  pub is : n ≡ value_at words at k

-- the name that stands at a place: behind its length, as many words as that says
pub record NameAt (words : List ℕ) (at : ℕ) (s : Range ℕ) : Type 0 where
  pub from_is : s.start ≡ at + 4
  pub to_is : s.end ≡ at + 4 + value_at words at 4
  pub within : s.end ≤ length words

-- where so many names stand at a place, what comes after them begins where the answer says
pub record PastNames (words : List ℕ) (at count : ℕ) (r : Option ℕ) : Type 0 where
  pub is : (ns : List Name) (rest : List ℕ) → length ns ≡ count → AllFit name ns → drop at words ≡ writes name ns ++ rest → IsSomeAnd r (λ e. drop e words ≡ rest)
