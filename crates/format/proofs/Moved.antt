-- What is known of a result whose place was moved on.
use Rattle.std.proofs.Common.{◌≡◌, ℕ, Ok, Err, Result, MatchResult, sym, ◌∙◌, subst}
use Rattle.std.specs.Result.{IsErrAnd}

pub moved_ok : {T : Type 0} (A : T → Type 0) (B : ℕ → Type 0) (P : ℕ → ℕ → Type 0) (r s : Result T ℕ) (x : T) → MatchResult r A B → MatchResult r (λ y. s ≡ Ok y) (λ p. IsErrAnd s (P p)) → s ≡ Ok x → A x
moved_ok {T} A B P (Ok y) s x a m e = let z : ◌≡◌ {A = Result T ℕ} (Ok y) (Ok x) = cc in let q : y ≡ x = cc in subst A q a
moved_ok {T} A B P (Err p) s x a m e = absurd (subst (λ (v : Result T ℕ). IsErrAnd v (P p)) e m)

pub moved_err : {T : Type 0} (A : T → Type 0) (B Q : ℕ → Type 0) (r s : Result T ℕ) (q : ℕ) → MatchResult r A B → MatchResult r (λ y. s ≡ Ok y) Q → s ≡ Err q → (p : ℕ) × B p × Q p
moved_err {T} A B Q (Ok y) s q a m e = let z : ◌≡◌ {A = Result T ℕ} (Ok y) (Err q) = sym m ∙ e in cc
moved_err {T} A B Q (Err p) s q a m e = (p, a, m)

-- what `?` hands on
pub handed_on : {T : Type 0} (A : T → Type 0) (B : ℕ → Type 0) (r : Result T ℕ) (q : ℕ) → IsErrAnd r (λ p. p ≡ q) → B q → MatchResult r A B
handed_on A B (Ok x) q h b = absurd h
handed_on A B (Err p) q h b = subst B (sym h) b
