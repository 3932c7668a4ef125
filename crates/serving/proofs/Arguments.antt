-- Calls with and without the option that asks for work.
use Rattle.std.proofs.Common.{◌≡◌, ℕ, Bool, true, false, List, IsSomeAnd, Some, codes, Option, sym, subst, arith}
use Rattle.serving.specs.Calls.{Named, Nameless, Called, Uncalled}

module _ {S : Type 0} (bytes : S → List ℕ) (first second third : Option S) (w : S) (is : first ≡ Some w) where
  pub with_option : bytes w ≡ codes "--work" → (work : Bool) (f : S) → work ≡ true → Named bytes second third f → Called bytes first second third work f
  with_option o true f e n = (subst (λ (v : Option S). IsSomeAnd v (λ w. bytes w ≡ codes "--work")) (sym is) o, n)
  with_option o false f e n = absurd (let z : ◌≡◌ {A = ℕ} 0 1 = cc in omega arith)

  pub no_option : (bytes w ≡ codes "--work" → ⊥) → (work : Bool) (f : S) → work ≡ false → Named bytes (Some w) second f → Called bytes first second third work f
  no_option o true f e n = absurd (let z : ◌≡◌ {A = ℕ} 0 1 = cc in omega arith)
  no_option o false f e n = (subst (λ (v : Option S). IsSomeAnd v (λ w. bytes w ≡ codes "--work" → ⊥)) (sym is) o, subst (λ (v : Option S). Named bytes v second f) (sym is) n)

  pub no_file_with : bytes w ≡ codes "--work" → Nameless bytes second third → Uncalled bytes first second third
  no_file_with o n true f c = n f c.1
  no_file_with o n false f c = subst (λ (v : Option S). IsSomeAnd v (λ w. bytes w ≡ codes "--work" → ⊥)) is c.0 o

  pub no_file : (bytes w ≡ codes "--work" → ⊥) → Nameless bytes (Some w) second → Uncalled bytes first second third
  no_file o n true f c = o (subst (λ (v : Option S). IsSomeAnd v (λ w. bytes w ≡ codes "--work")) is c.0)
  no_file o n false f c = n f (subst (λ (v : Option S). Named bytes v second f) is c.1)
