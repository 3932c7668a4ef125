-- The line of the desk that has landed, appended to the lines before.
use Rattle.std.specs.Prelude.{◌≡◌, ℕ, List, ◌++◌}
use Rattle.refusals.specs.Numbers.{number_of}
use Rattle.printing.specs.Lines.{refused_line}
use Rattle.desk.specs.Answered.{Answered, nothing}
use Rattle.desk.specs.declared.answer.Answer.{Answer}
use Rattle.desk.specs.declared.answer.Answer.TheVariants as an

abbrev pub Shows : Answer → List ℕ → List ℕ → Type 0
Shows (an.Refused why p) out out' = out' ≡ out ++ refused_line (number_of why) p

-- the line of a right answer to the request that the bytes are, with so many numbers lent
pub record Refused (xs : List ℕ) (numbers : ℕ) (out out' : List ℕ) : Type 0 where
  pub answer : Answer
  pub right : Answered nothing xs numbers answer
  pub shows : Shows answer out out'
