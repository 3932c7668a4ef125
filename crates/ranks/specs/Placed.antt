-- What was read at a place is what stands there, and the next comes after it.
use Rattle.std.proofs.Common.{◌≡◌, ℕ, ◌+◌, ◌≤◌, List, ◌++◌, length, take, drop, sym, ap, ◌∙◌, subst, arith, length-append, length-drop, drop-drop}
use Rattle.std.proofs.lemmas.List.{append_assoc}
use Rattle.query.specs.Data.{Name}
use Rattle.format.specs.Coding.{Coding, le, name}
use Rattle.format.specs.Reading.{Begins, Stuck, OneWay}
use Rattle.format.specs.Lists.{split_at, after_of, front_of, from, from_drop}
use Rattle.format.specs.Bytes.{length_le}

pub record Next (xs : List ℕ) (pos e : ℕ) (ys : List ℕ) : Type 0 where
  pub within : pos + e ≤ length xs
  pub rest : drop (pos + e) xs ≡ ys

module _ (S : Coding) (way : OneWay S) (xs : List ℕ) (pos e : ℕ) (t m : S.T) (ys : List ℕ) (h : pos ≤ length xs) (f : S.Fits m) (q : drop pos xs ≡ S.write m ++ ys) (b : Begins S (from pos xs) e t) where
  begins : Begins S (drop pos xs) e t
  begins = subst (λ (v : List ℕ). Begins S v e t) (from_drop pos xs) b

  both : (t ≡ m) × (drop e (drop pos xs) ≡ ys)
  both = way t m (drop e (drop pos xs)) ys begins.fits f (sym (split_at e (drop pos xs) (S.write t) begins.is) ∙ q)

  pub read_same : t ≡ m
  read_same = both.0

  pub read_next : Next xs pos e ys
  read_next = record { within = omega (arith, begins.within, length-drop pos xs); rest = sym (ap (λ (z : List ℕ). z) (drop-drop e pos xs)) ∙ both.1 }

-- how far one can read
pub read_within : (S : Coding) (xs : List ℕ) (pos e : ℕ) (t : S.T) → pos ≤ length xs → Begins S (from pos xs) e t → pos + e ≤ length xs
read_within S xs pos e t h b = omega (arith, b.within, ap (λ (z : List ℕ). length z) (from_drop pos xs), length-drop pos xs)

-- what stands there can be read
pub not_stuck : (S : Coding) (xs : List ℕ) (pos p : ℕ) (m : S.T) (ys : List ℕ) → S.Fits m → drop pos xs ≡ S.write m ++ ys → Stuck S (from pos xs) p → ⊥
not_stuck S xs pos p m ys f q s = s.absent m ys f (from_drop pos xs ∙ q)

-- what stands after a front
pub after_front : (xs w ys : List ℕ) (pos : ℕ) → drop pos xs ≡ w ++ ys → drop (pos + length w) xs ≡ ys
after_front xs w ys pos q = sym (drop-drop (length w) pos xs) ∙ (ap (λ (z : List ℕ). drop (length w) z) q ∙ after_of w ys)

pub front_there : (xs w ys : List ℕ) (pos : ℕ) → drop pos xs ≡ w ++ ys → take (length w) (drop pos xs) ≡ w
front_there xs w ys pos q = ap (λ (z : List ℕ). take (length w) z) q ∙ front_of w ys

-- how many bytes there must be
pub front_within : (xs w ys : List ℕ) (pos : ℕ) → pos ≤ length xs → drop pos xs ≡ w ++ ys → pos + length w ≤ length xs
front_within xs w ys pos h q = omega (arith, length-drop pos xs, ap (λ (z : List ℕ). length z) q, length-append w ys)

-- the bytes of a name that stands at a place
pub name_bytes : (xs ys : List ℕ) (pos : ℕ) (m : Name) → drop pos xs ≡ name.write m ++ ys → take (length m) (drop (pos + 4) xs) ≡ m
name_bytes xs ys pos m q =
    let r : drop pos xs ≡ le 4 (length m) ++ (m ++ ys) = q ∙ append_assoc (le 4 (length m)) m ys in
    let a : drop (pos + length (le 4 (length m))) xs ≡ m ++ ys = after_front xs (le 4 (length m)) (m ++ ys) pos r in
    front_there xs m ys (pos + 4) (ap (λ k. drop (pos + k) xs) (sym (length_le 4 (length m))) ∙ a)
