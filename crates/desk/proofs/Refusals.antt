-- Which refusal is right, from what the bytes ask.
use Rattle.std.proofs.Common.{◌≡◌, ℕ, Bool, List, refl, arith}
use Rattle.query.specs.Data.{pick}
use Rattle.query.specs.Promise.{ask, plan, garbled, kind, place}
use Rattle.format.specs.Wire.{Request, to_ask, to_plan, requests}
use Rattle.format.specs.Reading.{Garbled}
use Rattle.format.specs.Nodes.{Requested}
use Rattle.format.specs.declared.node.Request.{Request as Node}
use Rattle.refusals.specs.declared.Refusal.TheVariants.{NoRequest, CannotDo}
use Rattle.desk.specs.Answered.{Answered, nothing}
use Rattle.desk.specs.declared.answer.Answer.TheVariants.{Refused}

pub garbled_answered : (can : ℕ → Bool) (xs : List ℕ) (lent p : ℕ) → Garbled requests xs p → Answered can xs lent (Refused NoRequest p)
unfolding pick kind place
garbled_answered can xs lent p g = record { asked = garbled p; asks = g; refusal = λ h. refl; right = λ e. absurd (let z : ◌≡◌ {A = ℕ} 1 0 = e in omega arith) }

pub not_done : (xs : List ℕ) (lent : ℕ) (n : Node) → Requested xs n → Answered nothing xs lent (Refused CannotDo 0)
unfolding pick kind place
not_done xs lent n r = go r.request r.fits r.is
  where
    go : (q : Request) → requests.Fits q → xs ≡ requests.write q → Answered nothing xs lent (Refused CannotDo 0)
    go (to_ask ss ts q w) f e = record { asked = ask ss ts q w lent; asks = (refl, f, e); refusal = λ h. refl; right = λ z. absurd (let y : ◌≡◌ {A = ℕ} 6 0 = z in omega arith) }
    go (to_plan ss q) f e = record { asked = plan ss q lent; asks = (refl, f, e); refusal = λ h. refl; right = λ z. absurd (let y : ◌≡◌ {A = ℕ} 6 0 = z in omega arith) }
