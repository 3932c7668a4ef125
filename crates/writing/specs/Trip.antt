-- A datum that was loaded is written out as the bytes that it was loaded from.
use Rattle.std.specs.Prelude.{◌≡◌, ℕ, ◌*◌, ◌<◌, ◌≤◌, List, length, take, drop, Some, None, Option}
use Rattle.query.specs.Data.{Data}
use Rattle.query.specs.Size.{size_d}
use Rattle.format.specs.Wire.{write_data}
use Rattle.loading.specs.Loads.{Laid, Ready, LiesInside, Loads}
use Rattle.writing.specs.Writes.{Writes}

-- so many numbers were written as bytes were read, and the same; or fewer numbers were lent than bytes were read
abbrev pub Back : List ℕ → ℕ → ℕ → List ℕ → List ℕ → Option ℕ → Type 0
Back bs at long was now (Some n) = (n ≡ long) × (take n now ≡ take long (drop at bs))
Back bs at long was now None = length was < long

-- whatever was loaded from a place, by what loading ensures, and written out, by what writing ensures
abbrev pub RoundTrip : Type 0
RoundTrip =
    (bs : List ℕ) (at ty depth top : ℕ) (m : List ℕ) (l : Laid) (was now : List ℕ) (r : Option ℕ)
    → Ready bs at ty depth top → LiesInside bs at ty top m l → Loads bs at ty depth top m (Some l) → Writes bs m l.value was now r → Back bs at l.length was now r

-- a datum has at most nine bytes a part
abbrev pub ShortEnough : Type 0
ShortEnough = (d : Data) → length (write_data d) ≤ 9 * size_d d
