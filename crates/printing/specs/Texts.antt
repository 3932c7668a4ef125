-- How texts are written: in double quotes, with a backslash in front of a quote or a backslash, and with a byte below
-- 32 by its number.
use Rattle.std.specs.Prelude.{ℕ, ◌+◌, ◌/◌, ◌%◌, cond, List, [], ◌∷◌, ◌++◌, ◌==◌, bit_and, nat_lt}

-- a small hexadecimal digit
abbrev pub digit_of : ℕ → ℕ
digit_of n = cond (nat_lt n 10) (48 + n) (87 + n)

-- a byte as it stands in a text
abbrev pub escaped : ℕ → List ℕ
escaped b = cond (nat_lt b 32) (92 ∷ 117 ∷ 48 ∷ 48 ∷ digit_of (b / 16) ∷ digit_of (b % 16) ∷ [])
    (cond (b == 34) (92 ∷ 34 ∷ []) (cond (b == 92) (92 ∷ 92 ∷ []) (b ∷ [])))

-- the bytes of words, a byte to a word, as they stand in a text
unfoldable pub all_escaped : List ℕ → List ℕ
all_escaped [] = []
all_escaped (w ∷ ws) = escaped (bit_and w 255) ++ all_escaped ws

abbrev pub quoted : List ℕ → List ℕ
quoted ws = 34 ∷ (all_escaped ws ++ (34 ∷ []))

-- bytes as they stand in a text, and the bytes that words hold
unfoldable pub bytes_escaped : List ℕ → List ℕ
bytes_escaped [] = []
bytes_escaped (b ∷ bs) = escaped b ++ bytes_escaped bs

abbrev pub bytes_quoted : List ℕ → List ℕ
bytes_quoted bs = 34 ∷ (bytes_escaped bs ++ (34 ∷ []))

unfoldable pub low_bytes : List ℕ → List ℕ
low_bytes [] = []
low_bytes (w ∷ ws) = bit_and w 255 ∷ low_bytes ws
