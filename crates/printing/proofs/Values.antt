-- What stands in words that are bytes.
use Rattle.std.proofs.Common.{◌≡◌, ℕ, zero, suc, ◌+◌, ◌-◌, ◌*◌, ◌/◌, ◌%◌, ◌^◌, ◌<◌, ◌≤◌, true, List, [], ◌∷◌, ◌++◌, length, get_or, take, drop, sym, refl, ap, ◌∙◌, ap₂, mul_assoc, mul_comm, pow-suc, arith, length-append, length-drop, length-take-le, take-add}
use lib.Bits.{bit_and, and_mask}
use Rattle.std.proofs.lemmas.List.{drop-drop, get_or-drop}
use Rattle.query.specs.Types.{bytes}
use Rattle.format.specs.Coding.{le}
use Rattle.format.specs.Lists.{front_of, after_of, take_four, bytes_first}
use Rattle.format.specs.Bytes.{length_le}
use Rattle.printing.specs.Texts.{low_bytes}
use Rattle.printing.specs.Words.{value, value_at}

-- a byte is its low byte
pub low : (b : ℕ) → b < 256 → bit_and b 255 ≡ b
low b h = and_mask b 8 ∙ (let e : b % 256 ≡ b = omega arith in e)

pub low_below : (b : ℕ) → bit_and b 255 < 256
low_below b = let e : bit_and b 255 ≡ b % 256 = and_mask b 8 in omega arith

pub low_same : (bs : List ℕ) → bytes bs ≡ true → low_bytes bs ≡ bs
unfolding low_bytes
low_same [] f = refl
low_same (b ∷ bs) f = let r = bytes_first b bs f in ap₂ (λ (x : ℕ) (xs : List ℕ). x ∷ xs) (low b r.0) (low_same bs r.1)

value_le : (w n : ℕ) → n < 256 ^ w → value (le w n) ≡ n
unfolding le value
value_le zero n h = omega arith
value_le (suc w) n h =
    let p : n < 256 ^ w * 256 = rw pow-suc at h in
    let q : n / 256 < 256 ^ w = omega arith in
    let b : n % 256 < 256 = omega arith in
    omega (arith, value_le w (n / 256) q, low (n % 256) b)

-- what stands at a place: the number there, where it ends, and what comes after it
module _ (words : List ℕ) (at : ℕ) where
  pub number_there : (w n : ℕ) (rest : List ℕ) → n < 256 ^ w → drop at words ≡ le w n ++ rest → value_at words at w ≡ n
  number_there w n rest h e =
      ap (λ (v : List ℕ). value (take w v)) e
      ∙ ap (λ (k : ℕ). value (take k (le w n ++ rest))) (sym (length_le w n))
      ∙ ap value (front_of (le w n) rest)
      ∙ value_le w n h

  pub within_there : (us rest : List ℕ) → 0 < length us → drop at words ≡ us ++ rest → at + length us ≤ length words
  within_there us rest h e =
      let l : length words - at ≡ length us + length rest = sym (length-drop at words) ∙ ap length e ∙ length-append us rest in
      omega arith

  pub after_there : (us rest : List ℕ) → drop at words ≡ us ++ rest → drop (at + length us) words ≡ rest
  after_there us rest e = sym (drop-drop (length us) at words) ∙ ap (drop (length us)) e ∙ after_of us rest

  pub front_there : (us rest : List ℕ) → drop at words ≡ us ++ rest → take (length us) (drop at words) ≡ us
  front_there us rest e = ap (take (length us)) e ∙ front_of us rest

-- four words as the code reads them
pub four_words : (words : List ℕ) (at : ℕ) → at + 4 ≤ length words
    → value_at words at 4 ≡ bit_and (get_or words at 0) 255 + 256 * (bit_and (get_or words (at + 1) 0) 255 + 256 * (bit_and (get_or words (at + 2) 0) 255 + 256 * bit_and (get_or words (at + 3) 0) 255))
unfolding value
four_words words at h =
    let l : 4 ≤ length (drop at words) = omega (arith, length-drop at words) in
    let z : get_or (drop at words) 0 0 ≡ get_or words at 0 = get_or-drop at words 0 0 ∙ ap (λ (i : ℕ). get_or words i 0) (let e : at + 0 ≡ at = omega arith in e) in
    ap value (take_four (drop at words) l)
    ∙ ap (λ (v : ℕ). value (v ∷ get_or (drop at words) 1 0 ∷ get_or (drop at words) 2 0 ∷ get_or (drop at words) 3 0 ∷ [])) z
    ∙ ap (λ (v : ℕ). value (get_or words at 0 ∷ v ∷ get_or (drop at words) 2 0 ∷ get_or (drop at words) 3 0 ∷ [])) (get_or-drop at words 1 0)
    ∙ ap (λ (v : ℕ). value (get_or words at 0 ∷ get_or words (at + 1) 0 ∷ v ∷ get_or (drop at words) 3 0 ∷ [])) (get_or-drop at words 2 0)
    ∙ ap (λ (v : ℕ). value (get_or words at 0 ∷ get_or words (at + 1) 0 ∷ get_or words (at + 2) 0 ∷ v ∷ [])) (get_or-drop at words 3 0)
    ∙ omega arith

value_append : (us vs : List ℕ) → value (us ++ vs) ≡ value us + 256 ^ length us * value vs
unfolding value
value_append [] vs = omega arith
value_append (u ∷ us) vs =
    let s : 256 ^ suc (length us) * value vs ≡ 256 * (256 ^ length us * value vs) = rw pow-suc (rw (mul_comm (256 ^ length us) 256) (mul_assoc 256 (256 ^ length us) (value vs))) in
    omega (arith, value_append us vs)

-- eight words are four, and four more
pub eight_words : (words : List ℕ) (at : ℕ) → at + 4 ≤ length words → value_at words at 8 ≡ value_at words at 4 + 4294967296 * value_at words (at + 4) 4
eight_words words at h =
    let l : length (take 4 (drop at words)) ≡ 4 = length-take-le 4 (drop at words) (omega (arith, length-drop at words)) in
    ap value (take-add 4 4 (drop at words))
    ∙ value_append (take 4 (drop at words)) (take 4 (drop 4 (drop at words)))
    ∙ ap₂ (λ (k : ℕ) (v : List ℕ). value_at words at 4 + 256 ^ k * value (take 4 v)) l (drop-drop 4 at words)
