-- What it is to read things from bytes, and what it is that bytes cannot be read.
use Rattle.std.specs.Prelude.{◌≡◌, ℕ, suc, ◌+◌, ◌^◌, ◌<◌, ◌≤◌, List, [], ◌++◌, length, take, ◌≢◌}
use Rattle.query.specs.Promise.{Asked, plan, ask, garbled}
use Rattle.format.specs.Coding.{Coding, writes, AllFit}
use Rattle.format.specs.Wire.{Request, to_ask, to_plan, lent_with, write_request, FitsRequest, requests}

-- the first e bytes are x
pub record Begins (S : Coding) (xs : List ℕ) (e : ℕ) (x : S.T) : Type 0 where
  pub within : e ≤ length xs
  pub fits : S.Fits x
  pub is : take e xs ≡ S.write x

-- the first e bytes are something of the sort
pub record Read (S : Coding) (xs : List ℕ) (e : ℕ) : Type 0 where
  pub thing : S.T
  pub begins : Begins S xs e thing

-- the first e bytes are something of the sort, of which more is said
pub record ReadAs (S : Coding) (xs : List ℕ) (e : ℕ) (Says : S.T → Type 0) : Type 0 where
  pub thing : S.T
  pub begins : Begins S xs e thing
  pub says : Says thing

-- nothing of the sort stands in front
abbrev pub NoneInFront : Coding → List ℕ → Type 0
NoneInFront S xs = (x : S.T) (rest : List ℕ) → S.Fits x → xs ≢ S.write x ++ rest

-- Nothing of the sort stands in front, and it is clear at p: what stands before p can be continued to one,
-- and what stands up to and with the byte at p, if there is one, cannot.
pub record Stuck (S : Coding) (xs : List ℕ) (p : ℕ) : Type 0 where
  pub within : p ≤ length xs
  pub rest : List ℕ
  pub thing : S.T
  pub fits : S.Fits thing
  pub goes_on : take p xs ++ rest ≡ S.write thing
  pub absent : NoneInFront S xs
  pub wrong : p < length xs → (ys : List ℕ) → NoneInFront S (take (p + 1) xs ++ ys)

-- bytes are read in one way only
abbrev pub OneWay : Coding → Type 0
OneWay S = (x y : S.T) (xs ys : List ℕ) → S.Fits x → S.Fits y → S.write x ++ xs ≡ S.write y ++ ys → (x ≡ y) × (xs ≡ ys)

-- n things stand in front of xs, and rest comes after them
pub record Reads (S : Coding) (n : ℕ) (xs rest : List ℕ) : Type 0 where
  pub things : List S.T
  pub fits : AllFit S things
  pub many : length things ≡ n
  pub is : xs ≡ writes S things ++ rest

-- to read one thing more is to read hs, and then k things in its place
abbrev pub Opens : Coding → ℕ → List ℕ → Type 0
Opens S k hs =
    (n : ℕ) (ys rest : List ℕ) → (Reads S (suc n) (hs ++ ys) rest → Reads S (k + n) ys rest) × (Reads S (k + n) ys rest → Reads S (suc n) (hs ++ ys) rest)

abbrev pub Closed : Coding → List ℕ → Type 0
Closed S xs = (n : ℕ) (rest : List ℕ) → Reads S (suc n) xs rest → ⊥

-- the first e bytes open a thing with k parts
pub record Opened (S : Coding) (xs : List ℕ) (k e : ℕ) : Type 0 where
  pub some : 0 < e
  pub within : e ≤ length xs
  pub few : k < 2 ^ 32
  pub opens : Opens S k (take e xs)

-- the bytes open no thing, and it is clear at p, however many things are still to come
pub record Unopened (S : Coding) (xs : List ℕ) (p : ℕ) : Type 0 where
  pub within : p ≤ length xs
  pub goes_on : (n : ℕ) → (ys : List ℕ) × Reads S (suc n) (take p xs ++ ys) []
  pub closed : Closed S xs
  pub wrong : p < length xs → (ys : List ℕ) → Closed S (take (p + 1) xs ++ ys)

-- all of the bytes are one thing
pub record Whole (S : Coding) (xs : List ℕ) : Type 0 where
  pub thing : S.T
  pub fits : S.Fits thing
  pub is : xs ≡ S.write thing

abbrev pub NotWhole : Coding → List ℕ → Type 0
NotWhole S xs = (x : S.T) → S.Fits x → xs ≢ S.write x

-- The bytes are no thing of the sort, garbled at p: what stands before p can be continued to one,
-- and what stands up to and with the byte at p, if there is one, cannot.
pub record Garbled (S : Coding) (xs : List ℕ) (p : ℕ) : Type 0 where
  pub within : p ≤ length xs
  pub rest : List ℕ
  pub goes_on : Whole S (take p xs ++ rest)
  pub not_whole : NotWhole S xs
  pub wrong : p < length xs → (ys : List ℕ) → NotWhole S (take (p + 1) xs ++ ys)

-- what the bytes ask, with r words lent: a request that they are, or garbled at a place
abbrev pub Asks : List ℕ → ℕ → Asked → Type 0
Asks xs r (plan ss q s) = (s ≡ r) × FitsRequest (to_plan ss q) × (xs ≡ write_request (to_plan ss q))
Asks xs r (ask ss ts q w s) = (s ≡ r) × FitsRequest (to_ask ss ts q w) × (xs ≡ write_request (to_ask ss ts q w))
Asks xs r (garbled p) = Garbled requests xs p

-- Each request is read back as it was written; two requests with the same bytes are the same.
abbrev pub ReadBack : Type 0
ReadBack = (q : Request) (r : ℕ) (a : Asked) → requests.Fits q → Asks (requests.write q) r a → a ≡ lent_with q r

-- bytes garbled at one place are garbled at no other
abbrev pub OnePlace : Coding → Type 0
OnePlace S = (xs : List ℕ) (p q : ℕ) → Garbled S xs p → Garbled S xs q → p ≡ q

-- bytes ask one thing only
abbrev pub AsksOne : Type 0
AsksOne = (xs : List ℕ) (r : ℕ) (a b : Asked) → Asks xs r a → Asks xs r b → a ≡ b
