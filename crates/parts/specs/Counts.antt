-- What a count of parts says: how many there are and how many bytes they have, or that there are more than a limit.
use Rattle.std.specs.Prelude.{◌≡◌, ℕ, ◌+◌, ◌^◌, ◌<◌, ◌≤◌, Bool, true, false, ◌&&◌, List, [], ◌∷◌, ◌++◌, length, drop, Some, None, Option}
use Rattle.format.specs.Coding.{Coding, writes, AllFit}
use Rattle.parts.specs.declared.counted.Counted.{Counted}
use Rattle.parts.specs.declared.measured.Front.{Front}

-- the parts of several things together
abbrev pub total : {A : Type 0} → (A → ℕ) → List A → ℕ
total size [] = 0
total size (x ∷ xs) = size x + total size xs

-- of something of so many parts and bytes
abbrev pub Counts : ℕ → ℕ → ℕ → Option Counted → Type 0
Counts limit size long None = limit < size
Counts limit size long (Some c) = (c.parts ≡ size) × (size ≤ limit) × (c.length ≡ long)

-- whatever the bytes are: no more parts than the limit, and no more bytes than there are
abbrev pub Bounded : ℕ → ℕ → Option Counted → Type 0
Bounded limit long None = Unit {0}
Bounded limit long (Some c) = (c.parts ≤ limit) × (c.length ≤ long)

-- whatever of the sort stands in front of the bytes, it was counted; and what was counted lies within the limit and the bytes
pub record CountedInFront (S : Coding) (size : S.T → ℕ) (limit : ℕ) (xs : List ℕ) (r : Option Counted) : Type 0 where
  pub counts : (x : S.T) (rest : List ℕ) → S.Fits x → xs ≡ S.write x ++ rest → Counts limit (size x) (length (S.write x)) r
  pub bounded : Bounded limit (length xs) r

-- what is asked holds of each of several things
abbrev pub all_hold : {A : Type 0} → (A → Bool) → List A → Bool
all_hold holds [] = true
all_hold holds (x ∷ xs) = holds x && all_hold holds xs

-- of something of so many parts and bytes, of which what is asked holds or does not: none is told only of what has more parts than the limit or is not as is asked
abbrev pub Measured : ℕ → ℕ → Bool → ℕ → Option Counted → Type 0
Measured limit size holds long None = size ≤ limit → holds ≡ false
Measured limit size holds long (Some c) = (holds ≡ true) × (c.parts ≡ size) × (size ≤ limit) × (c.length ≡ long)

-- whatever of the sort stands in front of the bytes, it was counted, if what is asked holds of it
pub record Measures (S : Coding) (size : S.T → ℕ) (holds : S.T → Bool) (limit : ℕ) (xs : List ℕ) (r : Option Counted) : Type 0 where
  pub measured : (x : S.T) (rest : List ℕ) → S.Fits x → xs ≡ S.write x ++ rest → Measured limit (size x) (holds x) (length (S.write x)) r
  pub bounded : Bounded limit (length xs) r

-- a thing taken apart: what its head counts of its own, and the things after it, of which all has to be as is asked
pub record TakenApart (S : Coding) (size : S.T → ℕ) (holds : S.T → Bool) (xs : List ℕ) (f : Front) (x : S.T) (rest : List ℕ) : Type 0 where
  pub kids : List S.T
  pub many : length kids ≡ f.after
  pub fits : AllFit S kids
  pub after : drop f.length xs ≡ writes S kids ++ rest
  pub size_is : size x ≡ f.own + total size kids
  pub holds_is : holds x ≡ all_hold holds kids

abbrev pub Fronted : (S : Coding) → (S.T → ℕ) → (S.T → Bool) → ℕ → List ℕ → Option Front → S.T → List ℕ → Type 0
Fronted S size holds limit xs None x rest = size x ≤ limit → holds x ≡ false
Fronted S size holds limit xs (Some f) x rest = TakenApart S size holds xs f x rest

-- whatever the bytes are: a head has a byte at least, and no more than there are; it counts no more than the limit
abbrev pub FrontBounded : ℕ → ℕ → Option Front → Type 0
FrontBounded limit long None = Unit {0}
FrontBounded limit long (Some f) = (f.own ≤ limit) × (0 < f.length) × (f.length ≤ long) × (f.after < 2 ^ 32)

-- whatever of the sort stands in front of the bytes, its head was read
pub record FrontTold (S : Coding) (size : S.T → ℕ) (holds : S.T → Bool) (limit : ℕ) (xs : List ℕ) (r : Option Front) : Type 0 where
  pub tells : (x : S.T) (rest : List ℕ) → S.Fits x → xs ≡ S.write x ++ rest → Fronted S size holds limit xs r x rest
  pub bounded : FrontBounded limit (length xs) r
