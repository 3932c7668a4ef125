-- Sorts of things with names in their heads: what is put of a head, and of a run of things.
use Rattle.std.specs.Prelude.{◌≡◌, ℕ, suc, ◌+◌, ◌≤◌, List, [], ◌++◌, length, drop}
use Rattle.query.specs.Query.{Query}
use Rattle.format.specs.Coding.{Coding, writes, AllFit}
use Rattle.format.specs.Wire.{queries}
use Rattle.format.specs.Reading.{Opened, Unopened}
use Rattle.format.specs.Lists.{from}
use Rattle.ranks.specs.Ranks.{In, names_of}
use Rattle.ranks.specs.Known.{KnowsEach, names_each, Kept, Took}
use Rattle.ranks.specs.declared.names.Names.{Names}

-- whatever queries stand one after the other at a place
abbrev pub QueriesTaken : List ℕ → Names → Names → ℕ → ℕ → Type 0
QueriesTaken xs v u at k = (qs : List Query) (rest : List ℕ) → In (names_of xs v) [] → AllFit queries qs → length qs ≡ k → drop at xs ≡ writes queries qs ++ rest → Took xs v u (names_each qs) (λ ns. KnowsEach ns qs)

-- Run is what is said of a run of things, so many from a place on, and Taken of one head:
-- a head, and then its parts and what comes after it in its place, make a run of one more; what opens no thing begins no run.
pub record NamedLaws (S : Coding) {H : Type 0} (Told : H → List ℕ → ℕ → Type 0) (Taken : List ℕ → Names → Names → ℕ → H → Type 0) (Run : List ℕ → Names → Names → ℕ → ℕ → Type 0) : Type 0 where
  pub step : (xs : List ℕ) (v u w : Names) (at k parts e : ℕ) (h : H) → at ≤ length xs → Opened S (from at xs) parts e → Told h (from at xs) e → Kept xs v u → Taken xs v u at h → Kept xs u w → Run xs u w (at + e) (k + parts) → Run xs v w at (suc k)
  pub stuck : (xs : List ℕ) (v : Names) (at k p : ℕ) → Unopened S (from at xs) p → Run xs v v at (suc k)
  pub none : (xs : List ℕ) (v : Names) (at : ℕ) → Run xs v v at 0
