-- The promise of the public call, over the request that the bytes are and the length of the lent memory.
use Rattle.std.specs.Prelude.{◌≡◌, ℕ, ◌<◌, Bool, List, Ok, Err, Result}
use Rattle.query.specs.Data.{Data}
use Rattle.query.specs.Query.{asked}
use Rattle.query.specs.Promise.{Asked, ask, plan, garbled, Answer as Said, refused, is, tired, no_room, turned, place, RightAnswer}
use Rattle.format.specs.Wire.{write_data}
use Rattle.format.specs.Reading.{Asks}
use Rattle.refusals.specs.Numbers.{number_of}
use Rattle.operators.specs.declared.came.Stop.{Stop}
use Rattle.operators.specs.declared.came.Stop.TheVariants as st
use Rattle.asking.specs.declared.outcome.Outcome.{Outcome}
use Rattle.asking_desk.specs.declared.answer.Answer.{Answer}
use Rattle.asking_desk.specs.declared.answer.Answer.TheVariants.{Refused, Is, Tired, NoRoom}

-- The answer that each case of the enum stands for. A datum stands as its bytes, a byte to a number.
abbrev pub StandsFor : Answer → Said → Type 0
StandsFor (Refused why p) s = s ≡ refused (number_of why) p
StandsFor (Is ws looked) s = (d : Data) × (s ≡ is d) × (ws.now ≡ write_data d)
StandsFor Tired s = s ≡ tired
StandsFor NoRoom s = s ≡ no_room

-- how much the query of a request looks at
abbrev pub work_of : Asked → ℕ
work_of (plan ss q r) = 0
work_of (ask ss ts q w r) = (asked ts q).work
work_of (garbled n) = 0

abbrev pub Counted : Asked → Answer → Type 0
Counted a (Refused why p) = Unit {0}
Counted a (Is ws looked) = looked ≡ work_of a
Counted a Tired = Unit {0}
Counted a NoRoom = Unit {0}

-- The bytes ask something, and the answer to that is right: a refusal by the first number of the list that applies, with its place, or, where none
-- applies, what the request asks for. With a datum it is said how much was looked at.
pub record Answered (can : ℕ → Bool) (xs : List ℕ) (lent : ℕ) (r : Answer) : Type 0 where
  pub asked : Asked
  pub asks : Asks xs lent asked
  pub said : Said
  pub stands : StandsFor r said
  pub refusal : 0 < turned can asked → said ≡ refused (turned can asked) (place asked)
  pub right : turned can asked ≡ 0 → RightAnswer asked said
  pub counted : Counted asked r

-- the answer that comes of asking
abbrev pub answer_of : Result Outcome Stop → Answer
answer_of (Ok o) = Is o.words o.looked
answer_of (Err st.Tired) = Tired
answer_of (Err st.NoRoom) = NoRoom
answer_of (Err st.Wrong) = NoRoom
