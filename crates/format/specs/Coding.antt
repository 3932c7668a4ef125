-- Codings: a sort of thing, the bytes that each is written as, and which of them fit the format.
use Rattle.std.specs.Prelude.{◌≡◌, ℕ, zero, suc, ◌/◌, ◌%◌, ◌^◌, ◌<◌, true, List, [], ◌∷◌, ◌++◌, length}
use Rattle.query.specs.Data.{Name}
use Rattle.query.specs.Types.{bytes}

pub record Coding : Type 1 where
  pub T : Type 0
  pub write : T → List ℕ
  pub Fits : T → Type 0

-- w bytes of a number, the lowest first
unfoldable pub le : ℕ → ℕ → List ℕ
le zero n = []
le (suc w) n = (n % 256) ∷ le w (n / 256)

-- a number of w bytes
abbrev pub number : ℕ → Coding
number w = record { T = ℕ; write = le w; Fits = λ n. n < 256 ^ w }

-- one byte, which says what follows
abbrev pub tag : Coding
tag = record { T = ℕ; write = λ t. t ∷ []; Fits = λ t. t < 256 }

-- exactly k bytes
abbrev pub raw : ℕ → Coding
raw k = record { T = List ℕ; write = λ t. t; Fits = λ t. (length t ≡ k) × (bytes t ≡ true) }

-- a name or a text: its length in four bytes, and its bytes
abbrev pub name : Coding
name = record { T = Name; write = λ n. le 4 (length n) ++ n; Fits = λ n. (length n < 2 ^ 32) × (bytes n ≡ true) }

-- several, one after the other
abbrev pub writes : (S : Coding) → List S.T → List ℕ
writes S [] = []
writes S (x ∷ xs) = S.write x ++ writes S xs

abbrev pub AllFit : (S : Coding) → List S.T → Type 0
AllFit S [] = Unit {0}
AllFit S (x ∷ xs) = S.Fits x × AllFit S xs

-- exactly k of a sort
abbrev pub many : Coding → ℕ → Coding
many S k = record { T = List S.T; write = writes S; Fits = λ xs. (length xs ≡ k) × AllFit S xs }

-- how many in four bytes, and as many
abbrev pub counted : Coding → Coding
counted S = record { T = List S.T; write = λ xs. le 4 (length xs) ++ writes S xs; Fits = λ xs. (length xs < 2 ^ 32) × AllFit S xs }

-- one thing, and then another
abbrev pub both_of : Coding → Coding → Coding
both_of A B = record { T = A.T × B.T; write = λ p. A.write p.0 ++ B.write p.1; Fits = λ p. A.Fits p.0 × B.Fits p.1 }

-- there is something that fits
pub record Inhabited (S : Coding) : Type 0 where
  pub thing : S.T
  pub fits : S.Fits thing
