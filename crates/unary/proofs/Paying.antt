-- What was made or is at hand, paid for by what was looked at.
use Rattle.std.proofs.Common.{◌≡◌, ℕ, ◌+◌, ◌*◌, ◌<◌, ◌≤◌, List, [], ◌∷◌, length, subst, mul_comm, arith}
use Rattle.query.specs.Data.{Data}
use Rattle.query.specs.Query.{Got}
use Rattle.values.specs.Memory.{Used, Holds}
use Rattle.values.specs.Making.{MadeAs}
use Rattle.values.specs.declared.value.Value.{Value}
use Rattle.values.specs.Made.{Made}
use Rattle.operators.specs.Means.{CameTo, Stopped}
use Rattle.operators.specs.declared.came.Stop.{Stop}
use Rattle.operators.specs.declared.came.Stop.TheVariants.{NoRoom, Wrong}
use Rattle.operators.proofs.Grows.{grown_refl}
use Rattle.operators.proofs.Pays.{pay_more}

-- slots for no more things than were looked at
pub slots_paid : (rate w k : ℕ) → 3 ≤ rate → k ≤ w → 3 * k ≤ rate * w
slots_paid rate w k d h = omega (arith, pay_more w 3 rate d, mul_comm w rate, mul_comm w 3)

pub stopped_wrong : (rate : ℕ) (g : Got) (b old end : ℕ) (s : Stop) → Wrong ≡ s → g.is ≡ [] → Stopped rate g b old end s
stopped_wrong rate g b old end s e h = subst (λ x. Stopped rate g b old end x) e h

module _ (bs : List ℕ) (rate : ℕ) (g : Got) (d : Data) (b : ℕ) (u : Used) (top : ℕ) (n : List ℕ) where
  pub made_here : (need rest : ℕ) (r : Made) → g.is ≡ d ∷ [] → g.work + rest ≡ b → need ≤ rate * g.work → MadeAs bs d u top need n r → CameTo bs rate g b u top n (record { value = r.value; top = r.top; left = rest })
  made_here need rest r is paid l k =
      record { datum = d; is = is; now_used = k.now_used; grown = k.grown; holds = k.holds; paid = paid; above = k.above; within = k.within; thrifty = omega (arith, k.thrifty) }

  pub is_here : (rest : ℕ) (v : Value) → g.is ≡ d ∷ [] → g.work + rest ≡ b → top ≤ length n → Holds bs n u d v → CameTo bs rate g b u top n (record { value = v; top = top; left = rest })
  is_here rest v is paid room h =
      record { datum = d; is = is; now_used = u; grown = grown_refl u top; holds = h; paid = paid; above = omega arith; within = room; thrifty = omega arith }

  pub lacks_room : (need : ℕ) → g.work ≤ b → need ≤ rate * g.work → length n < top + need → Stopped rate g b top (length n) NoRoom
  lacks_room need h l k = λ c. record { spent = g.work; part = omega arith; afford = h; lacks = omega arith }
