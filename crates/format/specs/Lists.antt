-- Lists taken apart, and lists of bytes.
use Rattle.std.specs.Prelude.{◌≡◌, ℕ, zero, suc, ◌-◌, ◌<◌, ◌≤◌, Bool, true, false, ◌&&◌, List, [], ◌∷◌, ◌++◌, length, take, drop, replicate, nat_lt, slice_index, refl}
use Rattle.std.proofs.Common.{sym, ap, ap₂, ◌∙◌, arith, Fits, ltb-true, lt-ltb}
use Rattle.std.specs.Int.{w8}
use Rattle.std.proofs.lemmas.List.{take-append-drop, take_rest}
use Rattle.query.specs.Types.{bytes}

-- two fronts of one length
pub append_same : {A : Type 0} (us vs xs ys : List A) → length us ≡ length vs → us ++ xs ≡ vs ++ ys → (us ≡ vs) × (xs ≡ ys)
append_same [] [] xs ys l e = (refl, e)
append_same [] (b ∷ vs) xs ys l e = absurd (let z : 0 ≡ suc (length vs) = l in omega arith)
append_same (a ∷ us) [] xs ys l e = absurd (let z : suc (length us) ≡ 0 = l in omega arith)
append_same {A} (a ∷ us) (b ∷ vs) xs ys l e =
    let l' : suc (length us) ≡ suc (length vs) = l in
    let h : a ≡ b = cc in
    let t : us ++ xs ≡ vs ++ ys = cc in
    let r = append_same us vs xs ys (omega arith) t in
    (ap₂ (λ (p : A) (q : List A). p ∷ q) h r.0, r.1)

pub none_of : {A : Type 0} (us : List A) → length us ≡ 0 → us ≡ []
none_of [] e = refl
none_of (u ∷ us) e = absurd (omega (arith, e))

-- what the front is, and what comes after it
pub split_at : (e : ℕ) (xs w : List ℕ) → take e xs ≡ w → xs ≡ w ++ drop e xs
split_at e xs w h = sym (take-append-drop e xs) ∙ ap (λ (v : List ℕ). v ++ drop e xs) h

pub front_of : (w rest : List ℕ) → take (length w) (w ++ rest) ≡ w
front_of [] rest = refl
front_of (x ∷ w) rest = ap (λ (v : List ℕ). x ∷ v) (front_of w rest)

pub after_of : (w rest : List ℕ) → drop (length w) (w ++ rest) ≡ rest
after_of [] rest = refl
after_of (x ∷ w) rest = after_of w rest

-- what a callee is handed as the part from i on
abbrev pub from : ℕ → List ℕ → List ℕ
from i xs = take (length xs - i) (drop i xs)

pub from_drop : (i : ℕ) (xs : List ℕ) → from i xs ≡ drop i xs
from_drop i xs = take_rest xs i

-- the first four of a list
pub take_four : (xs : List ℕ) → 4 ≤ length xs → take 4 xs ≡ slice_index xs 0 ∷ slice_index xs 1 ∷ slice_index xs 2 ∷ slice_index xs 3 ∷ []
take_four [] h = absurd (omega arith)
take_four (a ∷ []) h = absurd (omega arith)
take_four (a ∷ b ∷ []) h = absurd (omega arith)
take_four (a ∷ b ∷ c ∷ []) h = absurd (omega arith)
take_four (a ∷ b ∷ c ∷ d ∷ xs) h = refl

-- lists of bytes
pub bytes_at : (xs : List ℕ) → ((j : ℕ) → slice_index xs j < 256) → bytes xs ≡ true
unfolding bytes
bytes_at [] f = refl
bytes_at (x ∷ xs) f = ap₂ (λ (a : Bool) (b : Bool). a && b) (lt-ltb x 256 (f 0)) (bytes_at xs (λ j. f (suc j)))

-- what the code hands on of its bytes: each fits in eight bits
pub bytes_typed : (xs : List ℕ) → ((j : ℕ) → Fits w8 (slice_index xs j)) → bytes xs ≡ true
bytes_typed xs f = bytes_at xs (λ j. omega (arith, f j))

pub bytes_none : bytes [] ≡ true
unfolding bytes
bytes_none = refl

-- a byte of a list of bytes, and the rest
pub bytes_first : (x : ℕ) (xs : List ℕ) → bytes (x ∷ xs) ≡ true → (x < 256) × (bytes xs ≡ true)
unfolding bytes
bytes_first x xs h = let r = and_true (nat_lt x 256) (bytes xs) h in (ltb-true x 256 r.0, r.1)
  where
    and_true : (a b : Bool) → a && b ≡ true → (a ≡ true) × (b ≡ true)
    and_true true b h = (refl, h)
    and_true false b h = (h, absurd (let z : ◌≡◌ {A = ℕ} 0 1 = cc in omega arith))

pub bytes_append : (xs ys : List ℕ) → bytes xs ≡ true → bytes ys ≡ true → bytes (xs ++ ys) ≡ true
unfolding bytes
bytes_append [] ys f g = g
bytes_append (x ∷ xs) ys f g = let r = bytes_first x xs f in ap₂ (λ (a : Bool) (b : Bool). a && b) (lt-ltb x 256 r.0) (bytes_append xs ys r.1 g)

pub bytes_take : (n : ℕ) (xs : List ℕ) → bytes xs ≡ true → bytes (take n xs) ≡ true
unfolding bytes
bytes_take zero xs f = refl
bytes_take (suc n) [] f = refl
bytes_take (suc n) (x ∷ xs) f = let r = bytes_first x xs f in ap₂ (λ (a : Bool) (b : Bool). a && b) (lt-ltb x 256 r.0) (bytes_take n xs r.1)

pub bytes_drop : (n : ℕ) (xs : List ℕ) → bytes xs ≡ true → bytes (drop n xs) ≡ true
unfolding bytes
bytes_drop zero xs f = f
bytes_drop (suc n) [] f = refl
bytes_drop (suc n) (x ∷ xs) f = bytes_drop n xs (bytes_first x xs f).1

pub bytes_zeros : (n : ℕ) → bytes (replicate n 0) ≡ true
unfolding bytes
bytes_zeros zero = refl
bytes_zeros (suc n) = bytes_zeros n
