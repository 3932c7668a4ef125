-- The answer to a request, from what its checks say and what comes of asking.
use Rattle.std.proofs.Common.{ℕ, List, Ok, Err, Result, refl, ap, ◌∙◌, arith}
use Rattle.query.specs.Promise.{Asked, ask, Answer as Said, refused, is, tired, no_room, turned, RightAnswer, thin}
use Rattle.format.specs.declared.node.Ask.{Ask}
use Rattle.refusals.specs.Numbers.{number_of}
use Rattle.refusals.specs.declared.Refusal.{Refusal}
use Rattle.operators.specs.declared.came.Stop.{Stop}
use Rattle.operators.specs.declared.came.Stop.TheVariants as st
use Rattle.asking.specs.Asked.{Told}
use Rattle.asking.specs.declared.outcome.Outcome.{Outcome}
use Rattle.asking_desk.specs.Checked.{RefusedBy, LetThrough}
use Rattle.asking_desk.specs.Answered.{Answered, StandsFor, Counted, answer_of}
use Rattle.asking_desk.specs.declared.answer.Answer.{Answer}
use Rattle.asking_desk.specs.declared.answer.Answer.TheVariants.{Refused, Is, Tired, NoRoom}
use Rattle.asking_desk.proofs.Turning.{not_turned}

pub refused_answer : (xs : List ℕ) (lent : ℕ) (why : Refusal) (p : ℕ) → RefusedBy xs lent (number_of why) p → Answered thin xs lent (Refused why p)
refused_answer xs lent why p r = record {
  asked = r.asked;
  asks = r.asks;
  said = refused (number_of why) p;
  stands = refl;
  refusal = λ h. ap (λ (k : ℕ). refused k p) r.number_is ∙ ap (λ (k : ℕ). refused (turned thin r.asked) k) r.place_is;
  right = λ z. absurd (let y : ⊥ = omega (arith, r.some, r.number_is, z) in y);
  counted = tt;
}

module _ (xs g : List ℕ) (a : Ask) (l : LetThrough xs g a) (lent : ℕ) where
  abbrev it : Asked
  it = ask l.passed.schema l.passed.tables l.passed.query a.work lent

  answered : (r : Answer) (s : Said) → StandsFor r s → RightAnswer it s → Counted it r → Answered thin xs lent r
  answered r s stands right counted = record {
    asked = it;
    asks = (refl, l.fits, l.is);
    said = s;
    stands = stands;
    refusal = λ h. absurd (let y : ⊥ = omega (arith, h, not_turned xs g a l.passed lent) in y);
    right = λ z. right;
    counted = counted;
  }

  pub outcome_answer : (o : Result Outcome Stop) → Told l.passed.schema l.passed.tables l.passed.query a.work lent o → Answered thin xs lent (answer_of o)
  unfolding RightAnswer
  outcome_answer (Ok o) t = answered (Is o.words o.looked) (is t.datum) (t.datum, refl, t.words) (t.within, t.is) t.counted
  outcome_answer (Err st.Tired) t = answered Tired tired refl t tt
  outcome_answer (Err st.NoRoom) t = answered NoRoom no_room refl t tt
  outcome_answer (Err st.Wrong) t = absurd t
