-- The promise of the public call, over the request that the bytes are and the length of the lent memory.
use Rattle.std.specs.Prelude.{◌≡◌, ℕ, ◌<◌, Bool, false, List}
use Rattle.query.specs.Promise.{Asked, Answer as Said, refused, turned, place, RightAnswer}
use Rattle.format.specs.Reading.{Asks}
use Rattle.refusals.specs.Numbers.{number_of}
use Rattle.desk.specs.declared.answer.Answer.{Answer}
use Rattle.desk.specs.declared.answer.Answer.TheVariants.{Refused}

-- the answer that each case of the enum stands for
abbrev pub stands_for : Answer → Said
stands_for (Refused why p) = refused (number_of why) p

-- what a desk can do, by the kind of request: nothing yet
abbrev pub nothing : ℕ → Bool
nothing k = false

-- The bytes ask something, and the answer to that is right: a refusal by the first number of the list that applies, with its place,
-- or, where none applies, what the request asks for.
pub record Answered (can : ℕ → Bool) (xs : List ℕ) (lent : ℕ) (r : Answer) : Type 0 where
  pub asked : Asked
  pub asks : Asks xs lent asked
  pub refusal : 0 < turned can asked → stands_for r ≡ refused (turned can asked) (place asked)
  pub right : turned can asked ≡ 0 → RightAnswer asked (stands_for r)
