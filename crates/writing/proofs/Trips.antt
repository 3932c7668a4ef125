-- What was loaded is written out as it was read.
use Rattle.std.proofs.Common.{◌≡◌, ℕ, List, ◌++◌, length, take, drop, Some, None, Option, sym, ap, ◌∙◌, arith, take_at}
use Rattle.query.specs.Data.{Data}
use Rattle.format.specs.Wire.{write_data}
use Rattle.values.specs.Memory.{Under}
use Rattle.loading.proofs.Words.{under_grown}
use Rattle.writing.specs.Puts.{Put}
use Rattle.writing.specs.Trip.{Back, RoundTrip}

-- the datum's bytes are those that it was loaded from
back : (bs : List ℕ) (at : ℕ) (d : Data) (rest : List ℕ) (long : ℕ) (was now : List ℕ) (r : Option ℕ) → drop at bs ≡ write_data d ++ rest → long ≡ length (write_data d) → Put (write_data d) was now r → Back bs at long was now r
back bs at d rest long was now (Some n) e l p =
    (p.end ∙ sym l, p.is ∙ sym (ap (λ v. take long v) e ∙ take_at (write_data d) rest long (sym l)))
back bs at d rest long was now None e l p = omega (arith, p)

pub round_trip : RoundTrip
round_trip bs at ty depth top m l was now r g i f w =
    let c = f.means g in
    let low : Under c.now_used l.top = under_grown g.low c.grown i.above in
    let high : Under c.now_used (length m) = record { low = λ k t. omega (arith, low.low k t, i.within) } in
    back bs at g.datum g.stands.rest l.length was now r g.stands.is c.long (w.means g.datum c.now_used c.holds high g.fits)
