-- The numbers by which refusals are told: 1 no request; 2 too large; 3 a schema of which a record's names aren't in order; 4 a question without a type; 5 tables that aren't of the
-- schema; 6 what isn't there yet.
use Rattle.std.specs.Prelude.{◌≡◌, ℕ, Ok, Err, Result}
use Rattle.refusals.specs.declared.Refusal.{Refusal}
use Rattle.refusals.specs.declared.Refusal.TheVariants.{NoRequest, TooManyParts, NotInOrder, NoType, NotOfSchema, CannotDo}

abbrev pub number_of : Refusal → ℕ
number_of NoRequest = 1
number_of TooManyParts = 2
number_of NotInOrder = 3
number_of NoType = 4
number_of NotOfSchema = 5
number_of CannotDo = 6

-- a number is that of a refusal, or of none
abbrev pub IsNumbered : ℕ → Result Refusal ℕ → Type 0
IsNumbered n (Ok why) = number_of why ≡ n
IsNumbered n (Err m) = (m ≡ n) × ((why : Refusal) → number_of why ≡ n → ⊥)
