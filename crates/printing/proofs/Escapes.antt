-- Texts grow at their end: what was appended so far is the text as far as the loop has come.
use Rattle.std.proofs.Common.{◌≡◌, ℕ, ◌+◌, ◌<◌, ◌≤◌, List, [], ◌∷◌, ◌++◌, length, get_or, take, sym, refl, ap, ◌∙◌, append_assoc, append-nil}
use lib.Bits.{bit_and}
use Rattle.std.proofs.lemmas.List.{take_all, take_more}
use Rattle.printing.specs.Texts.{escaped, all_escaped, quoted, bytes_escaped, bytes_quoted, low_bytes}

pub none : (x : List ℕ) → x ≡ x ++ all_escaped []
unfolding all_escaped
none x = sym (append-nil x)

one_more : (ws : List ℕ) (w : ℕ) → all_escaped (ws ++ (w ∷ [])) ≡ all_escaped ws ++ escaped (bit_and w 255)
unfolding all_escaped
one_more [] w = append-nil (escaped (bit_and w 255))
one_more (v ∷ ws) w =
    ap (λ r. escaped (bit_and v 255) ++ r) (one_more ws w)
    ∙ sym (append_assoc (escaped (bit_and v 255)) (all_escaped ws) (escaped (bit_and w 255)))

pub step : (x o o' ws : List ℕ) (i : ℕ)
    → i < length ws
    → o ≡ x ++ all_escaped (take i ws)
    → o' ≡ o ++ escaped (bit_and (get_or ws i 0) 255)
    → o' ≡ x ++ all_escaped (take (i + 1) ws)
step x o o' ws i h before byte =
    byte
    ∙ ap (λ r. r ++ escaped (bit_and (get_or ws i 0) 255)) before
    ∙ append_assoc x (all_escaped (take i ws)) (escaped (bit_and (get_or ws i 0) 255))
    ∙ ap (λ r. x ++ r) (sym (one_more (take i ws) (get_or ws i 0)) ∙ ap all_escaped (sym (take_more ws i 0 h)))

pub closed : (x p o q ws : List ℕ) (i : ℕ)
    → length ws ≤ i
    → p ≡ x ++ (34 ∷ [])
    → o ≡ p ++ all_escaped (take i ws)
    → q ≡ o ++ (34 ∷ [])
    → q ≡ x ++ quoted ws
closed x p o q ws i h opening between closing =
    closing
    ∙ ap (λ r. r ++ (34 ∷ [])) (between ∙ ap (λ r. r ++ all_escaped (take i ws)) opening ∙ append_assoc x (34 ∷ []) (all_escaped (take i ws)))
    ∙ append_assoc x (34 ∷ all_escaped (take i ws)) (34 ∷ [])
    ∙ ap (λ r. x ++ (34 ∷ (all_escaped r ++ (34 ∷ [])))) (take_all i ws h)

all_low : (ws : List ℕ) → all_escaped ws ≡ bytes_escaped (low_bytes ws)
unfolding all_escaped bytes_escaped low_bytes
all_low [] = refl
all_low (w ∷ ws) = ap (λ r. escaped (bit_and w 255) ++ r) (all_low ws)

-- a text of words is that of the bytes that they hold
pub quoted_low : (ws : List ℕ) → quoted ws ≡ bytes_quoted (low_bytes ws)
quoted_low ws = ap (λ r. 34 ∷ (r ++ (34 ∷ []))) (all_low ws)
