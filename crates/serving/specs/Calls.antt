-- The arguments of a call.
use Rattle.std.specs.Prelude.{◌≡◌, ℕ, Bool, true, false, List, [], ◌∷◌, IsSomeAnd, Some, None, codes, Option, ◌≢◌}

-- what begins with a dash is an option, and no file's name
abbrev pub dashed : List ℕ → Type 0
dashed [] = ⊥
dashed (b ∷ bs) = b ≡ 45

-- a file's name, and nothing after it
abbrev pub Named : {S : Type 0} → (S → List ℕ) → Option S → Option S → S → Type 0
Named bytes file after f = (file ≡ Some f) × (after ≡ None) × (dashed (bytes f) → ⊥)

abbrev pub Nameless : {S : Type 0} → (S → List ℕ) → Option S → Option S → Type 0
Nameless {S} bytes file after = (f : S) → Named bytes file after f → ⊥

-- the words are a call: perhaps the option that asks for work, and a file's name
abbrev pub Called : {S : Type 0} → (S → List ℕ) → Option S → Option S → Option S → Bool → S → Type 0
Called bytes first second third true f = IsSomeAnd first (λ w. bytes w ≡ codes "--work") × Named bytes second third f
Called bytes first second third false f = IsSomeAnd first (λ w. bytes w ≢ codes "--work") × Named bytes first second f

abbrev pub Uncalled : {S : Type 0} → (S → List ℕ) → Option S → Option S → Option S → Type 0
Uncalled {S} bytes first second third = (work : Bool) (f : S) → Called bytes first second third work f → ⊥
