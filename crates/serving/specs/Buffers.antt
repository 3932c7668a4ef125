-- Requests in a buffer: what was read and not yet looked at, and what a request takes of it.
use Rattle.std.specs.Prelude.{◌≡◌, ℕ, ◌+◌, ◌^◌, ◌<◌, ◌≤◌, Bool, true, false, List, [], ◌++◌, length, take}
use Rattle.std.specs.List.{between}
use Rattle.format.specs.Coding.{le}
use Rattle.serving.specs.declared.header.Header.{Header}

-- the first eight bytes are how many bytes a request has, and how many numbers are lent with it
pub record HeaderOf (bytes : List ℕ) (h : Header) : Type 0 where
  pub within : 8 ≤ length bytes
  pub count_fits : h.count < 2 ^ 32
  pub numbers_fit : h.numbers < 2 ^ 32
  pub is : take 8 bytes ≡ le 4 h.count ++ le 4 h.numbers

-- some bytes came from the file, behind those that were there
pub record Longer (before after : List ℕ) : Type 0 where
  pub arrived : List ℕ
  pub is : after ≡ before ++ arrived

-- A request was taken: its header stands in front of it in the buffer, and says how many bytes it has. From the header on the buffer has what was
-- unread, and what came from the file.
pub record Taken (before buffer : List ℕ) (from to end : ℕ) (h : Header) : Type 0 where
  pub at : ℕ
  pub behind : from ≡ at + 8
  pub header_is : between at from buffer ≡ le 4 h.count ++ le 4 h.numbers
  pub as_many : to ≡ from + h.count
  pub flows : Longer before (between at end buffer)

-- a request was taken; or nothing was unread, and nothing came
abbrev pub WentOn : List ℕ → List ℕ → ℕ → ℕ → ℕ → Header → Bool → Type 0
WentOn before buffer from to end h true = Taken before buffer from to end h
WentOn before buffer from to end h false = (before ≡ []) × (between to end buffer ≡ [])
