-- Numbers as bytes, the lowest first.
use Rattle.std.specs.Prelude.{◌≡◌, ℕ, zero, suc, ◌+◌, ◌*◌, ◌/◌, ◌%◌, ◌^◌, ◌<◌, ◌≤◌, Bool, true, ◌&&◌, List, [], ◌∷◌, ◌++◌, length, refl}
use Rattle.std.proofs.Common.{sym, ap, ap₂, ◌∙◌, arith, pow-suc, mul_comm, mul_assoc, lt-ltb}
use Rattle.query.specs.Types.{bytes}
use Rattle.format.specs.Coding.{le}
use Rattle.format.specs.Lists.{bytes_first}

-- the number that bytes stand for
unfoldable pub val : List ℕ → ℕ
val [] = 0
val (x ∷ xs) = x + 256 * val xs

pub le_step : (w x n : ℕ) → x < 256 → le (suc w) (x + 256 * n) ≡ x ∷ le w n
unfolding le
le_step w x n h =
    let a : (x + 256 * n) % 256 ≡ x = omega arith in
    let b : (x + 256 * n) / 256 ≡ n = omega arith in
    ap₂ (λ (p : ℕ) (q : ℕ). p ∷ le w q) a b

pub length_le : (w n : ℕ) → length (le w n) ≡ w
unfolding le
length_le zero n = refl
length_le (suc w) n = ap suc (length_le w (n / 256))

pub bytes_le : (w n : ℕ) → bytes (le w n) ≡ true
unfolding le bytes
bytes_le zero n = refl
bytes_le (suc w) n = let h : n % 256 < 256 = omega arith in ap₂ (λ (a : Bool) (b : Bool). a && b) (lt-ltb (n % 256) 256 h) (bytes_le w (n / 256))

val_le : (w n : ℕ) → n < 256 ^ w → val (le w n) ≡ n
unfolding le val
val_le zero n h = omega arith
val_le (suc w) n h =
    let p : n < 256 ^ w * 256 = rw pow-suc at h in
    let q : n / 256 < 256 ^ w = omega arith in
    omega (arith, val_le w (n / 256) q)

pub le_same : (w m n : ℕ) → m < 256 ^ w → n < 256 ^ w → le w m ≡ le w n → m ≡ n
le_same w m n h k e = sym (val_le w m h) ∙ ap val e ∙ val_le w n k

pow_pos_at : (w : ℕ) → 0 < 256 ^ w
pow_pos_at zero = omega arith
pow_pos_at (suc w) = rw pow-suc (omega (arith, pow_pos_at w))

-- bytes that are too few begin a number's, and w bytes are one
pub record Padded (w : ℕ) (xs : List ℕ) : Type 0 where
  pub rest : List ℕ
  pub n : ℕ
  pub fits : n < 256 ^ w
  pub is : xs ++ rest ≡ le w n

pub pad : (w : ℕ) (xs : List ℕ) → length xs ≤ w → bytes xs ≡ true → Padded w xs
unfolding le
pad w [] h f = record { rest = le w 0; n = 0; fits = pow_pos_at w; is = refl }
pad zero (x ∷ xs) h f = absurd (omega arith)
pad (suc w) (x ∷ xs) h f =
    let b = bytes_first x xs f in
    let r = pad w xs (omega arith) b.1 in
    let g : x < 256 = b.0 in
    let p : x + 256 * r.n < 256 ^ w * 256 = omega (arith, r.fits) in
    let q : x + 256 * r.n < 256 ^ suc w = rw pow-suc p in
    record { rest = r.rest; n = x + 256 * r.n; fits = q; is = ap (λ (ys : List ℕ). x ∷ ys) r.is ∙ sym (le_step w x r.n g) }

-- four bytes are the number that they stand for
pub four_of : (a b c d : ℕ) → a < 256 → b < 256 → c < 256 → d < 256 → a ∷ b ∷ c ∷ d ∷ [] ≡ le 4 (a + 256 * (b + 256 * (c + 256 * d)))
unfolding le
four_of a b c d p q r s =
    let last : d ∷ [] ≡ le 1 d = let e : d ≡ d % 256 = omega arith in ap (λ (v : ℕ). v ∷ []) e in
    sym (le_step 3 a _ p ∙ ap (λ (v : List ℕ). a ∷ v) (le_step 2 b _ q ∙ ap (λ (v : List ℕ). b ∷ v) (le_step 1 c _ r ∙ ap (λ (v : List ℕ). c ∷ v) (sym last))))

-- one number after another is a number
pub le_then : (w v u a b : ℕ) → u ≡ w + v → a < 256 ^ w → le u (a + 256 ^ w * b) ≡ le w a ++ le v b
unfolding le
le_then zero v u a b e h = ap₂ (λ (m : ℕ) (n : ℕ). le m n) (omega arith) (omega arith)
le_then (suc w) v zero a b e h = absurd (omega arith)
le_then (suc w) v (suc u) a b e h =
    let p : a < 256 ^ w * 256 = rw pow-suc at h in
    let s : 256 ^ suc w * b ≡ 256 * (256 ^ w * b) = rw pow-suc (rw (mul_comm (256 ^ w) 256) (mul_assoc 256 (256 ^ w) b)) in
    let low : (a + 256 ^ suc w * b) % 256 ≡ a % 256 = rw s (omega arith) in
    let high : (a + 256 ^ suc w * b) / 256 ≡ a / 256 + 256 ^ w * b = rw s (omega arith) in
    let ih = le_then w v u (a / 256) b (omega arith) (omega arith) in
    ap₂ (λ (x : ℕ) (ys : List ℕ). x ∷ ys) low (ap (λ (n : ℕ). le u n) high ∙ ih)
