-- The number that the library reads from bytes is the one that they are written as.
use Rattle.std.proofs.Common.{◌≡◌, ℕ, zero, suc, ◌/◌, ◌%◌, ◌^◌, ◌<◌, ◌≤◌, List, ◌∷◌, length, take, get_or, sym, refl, ap, ◌∙◌, subst, ap₂, ⊎_elim, arith, Fits, pow-suc, length-take-le}
use Rattle.std.proofs.Math.Nat.{div-div-eq-div-mul}
use Rattle.std.proofs.lemmas.Nat.{le_bytes_4, le_bytes_8}
use Rattle.std.proofs.lemmas.Bool.{cases_lt}
use Rattle.std.proofs.lemmas.List.{get_or-take, get_or_past}
use Rattle.std.specs.Int.{w8, w32, w64, bytes_low_first, from_le_bytes}
use Rattle.format.specs.Coding.{le, number}
use Rattle.format.specs.Reading.{Begins}

le_low : (w i n m : ℕ) → m ≡ n / 256 ^ i → bytes_low_first i w n ≡ le w m
unfolding le
le_low zero i n m e = refl
le_low (suc w) zero n m e = ap₂ (λ (x : ℕ) (ys : List ℕ). x ∷ ys) (omega (arith, e)) (le_low w 1 n (m / 256) (omega (arith, e)))
le_low (suc w) (suc i) n m e =
    let s : m / 256 ≡ n / 256 ^ suc (suc i) = ap (λ (v : ℕ). v / 256) e ∙ div-div-eq-div-mul n (256 ^ suc i) 256 ∙ ap (λ (v : ℕ). n / v) (sym (pow-suc 256 (suc i))) in
    ap₂ (λ (x : ℕ) (ys : List ℕ). x ∷ ys) (ap (λ (v : ℕ). v % 256) (sym e)) (le_low w (suc (suc i)) n (m / 256) s)

-- the bytes in front are bytes
front_small : (w : ℕ) (xs : List ℕ) → w ≤ length xs → ((j : ℕ) → Fits w8 (get_or xs j 0)) → (j : ℕ) → get_or (take w xs) j 0 < 256
front_small w xs l f j = ⊎_elim (λ h. omega (arith, f j, get_or-take w xs j 0 h)) (λ h. omega (arith, get_or_past (take w xs) j 0 (let z : length (take w xs) ≤ j = omega (arith, length-take-le w xs l) in z))) (cases_lt j w)

module _ (xs ys : List ℕ) (n : ℕ) (f : (j : ℕ) → Fits w8 (get_or xs j 0)) where
  pub begins_4 : 4 ≤ length xs → ys ≡ take 4 xs → n < 2 ^ 32 → n ≡ from_le_bytes w32 ys → Begins (number 4) xs 4 n
  begins_4 l t s e =
      record { within = l; fits = omega arith; is = sym t ∙ sym (le_bytes_4 ys n (ap length t ∙ length-take-le 4 xs l) (λ j. subst (λ (v : List ℕ). get_or v j 0 < 256) (sym t) (front_small 4 xs l f j)) e) ∙ le_low 4 0 n n (omega arith) }

  pub begins_8 : 8 ≤ length xs → ys ≡ take 8 xs → n < 2 ^ 64 → n ≡ from_le_bytes w64 ys → Begins (number 8) xs 8 n
  begins_8 l t s e =
      record { within = l; fits = omega arith; is = sym t ∙ sym (le_bytes_8 ys n (ap length t ∙ length-take-le 8 xs l) (λ j. subst (λ (v : List ℕ). get_or v j 0 < 256) (sym t) (front_small 8 xs l f j)) e) ∙ le_low 8 0 n n (omega arith) }
