-- One thing and then another, from what was read of each.
use Rattle.std.proofs.Common.{◌≡◌, ℕ, ◌+◌, List, length, sym, ap, ◌∙◌, subst, length-take-le}
use Rattle.format.specs.Coding.{Coding, both_of, Inhabited}
use Rattle.format.specs.Reading.{Begins, ReadAs, Stuck, OneWay}
use Rattle.format.specs.Lists.{from, from_drop}
use Rattle.format.specs.Codings.{begins_both, stuck_first, stuck_second, both_splits}

-- how many bytes were read
pub written_length : (S : Coding) (xs : List ℕ) (e : ℕ) (x : S.T) → Begins S xs e x → length (S.write x) ≡ e
written_length S xs e x b = sym (ap length b.is) ∙ length-take-le e xs b.within

module _ (A B : Coding) where
  pub pair_read : (xs : List ℕ) (e f : ℕ) (a : A.T) (b : B.T) → Begins A xs e a → Begins B (from e xs) f b → Begins (both_of A B) xs (e + f) (a, b)
  pair_read xs e f a b p q = begins_both (both_of A B) A (λ v. B) (both_splits A B) xs e f a b p (subst (λ (v : List ℕ). Begins B v f b) (from_drop e xs) q)

  pub pair_cut : (xs : List ℕ) (e p : ℕ) (a : A.T) → OneWay A → Begins A xs e a → Stuck B (from e xs) p → Stuck (both_of A B) xs (e + p)
  pair_cut xs e p a way g t = stuck_second (both_of A B) A (λ v. B) (both_splits A B) xs e p a way g (subst (λ (v : List ℕ). Stuck B v p) (from_drop e xs) t)

  pub pair_short : (xs : List ℕ) (p : ℕ) → Inhabited B → Stuck A xs p → Stuck (both_of A B) xs p
  pair_short xs p some t = stuck_first (both_of A B) A (λ v. B) (both_splits A B) xs p (λ a f. (some.thing, some.fits)) t

  pub pair_told : (P : A.T → Type 0) (Q : B.T → Type 0) (xs : List ℕ) (e f : ℕ) → ReadAs A xs e P → ReadAs B (from e xs) f Q → ReadAs (both_of A B) xs (e + f) (λ p. P p.0 × Q p.1)
  pair_told P Q xs e f a b = record { thing = (a.thing, b.thing); begins = pair_read xs e f a.thing b.thing a.begins b.begins; says = (a.says, b.says) }

  pub pair_stuck : (P : A.T → Type 0) (xs : List ℕ) (e p : ℕ) → OneWay A → ReadAs A xs e P → Stuck B (from e xs) p → Stuck (both_of A B) xs (e + p)
  pair_stuck P xs e p way a t = pair_cut xs e p a.thing way a.begins t
