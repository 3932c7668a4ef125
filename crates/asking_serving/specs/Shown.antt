-- The line of an answer, appended to the lines before.
use Rattle.std.specs.Prelude.{◌≡◌, ℕ, Bool, List, ◌++◌, codes}
use Rattle.std.specs.Bool.{then_some}
use Rattle.query.specs.Promise.{thin}
use Rattle.refusals.specs.Numbers.{number_of}
use Rattle.printing.specs.Lines.{refused_line, Lines}
use Rattle.asking_desk.specs.Answered.{Answered}
use Rattle.asking_desk.specs.declared.answer.Answer.{Answer}
use Rattle.asking_desk.specs.declared.answer.Answer.TheVariants.{Refused, Is, Tired, NoRoom}

-- with how much was looked at, where that is asked for
abbrev pub Shows : Answer → Bool → List ℕ → List ℕ → Type 0
Shows (Refused why p) work out out' = out' ≡ out ++ refused_line (number_of why) p
Shows (Is ws looked) work out out' = Lines ws.now (then_some work looked) out out'
Shows Tired work out out' = out' ≡ out ++ codes "2\n"
Shows NoRoom work out out' = out' ≡ out ++ codes "4\n"

-- The line of a right answer to the request that the bytes are, with so many numbers lent.
pub record Served (xs : List ℕ) (numbers : ℕ) (work : Bool) (out out' : List ℕ) : Type 0 where
  pub answer : Answer
  pub right : Answered thin xs numbers answer
  pub shows : Shows answer work out out'
