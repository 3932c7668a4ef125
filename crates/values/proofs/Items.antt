-- Things written word by word.
use Rattle.std.proofs.Common.{◌≡◌, ℕ, zero, suc, ◌+◌, ◌*◌, ◌<◌, ◌≤◌, ◌/◌, ◌==◌, false, List, refl, ◌∙◌, arith}
use Rattle.std.proofs.Math.Nat.{lt-mul-div-succ, mul-le-mul_left}
use Rattle.values.specs.Memory.{decoded, loaded, loaded_field, Put}
use Rattle.values.specs.Lent.{WordPut}
use Rattle.values.specs.declared.value.Value.{Value}

pub value_put : {m a b n : List ℕ} {at k x y : ℕ} {v : Value} → decoded k x y ≡ v → WordPut at k m a → WordPut (at + 1) x a b → WordPut (at + 2) y b n → Put 3 loaded at v m n
unfolding loaded
value_put {at = at} e p q r =
    record {
      there = rw (r.others at (λ h. omega arith), q.others at (λ h. omega arith), p.there, r.others (at + 1) (λ h. omega arith), q.there, r.there) e;
      long = r.long ∙ q.long ∙ p.long;
      before = λ i lt. r.others i (λ h. omega arith) ∙ q.others i (λ h. omega arith) ∙ p.others i (λ h. omega arith);
      after = λ i le. r.others i (λ h. omega arith) ∙ q.others i (λ h. omega arith) ∙ p.others i (λ h. omega arith);
    }

pub field_put : {m a b n : List ℕ} {at start count : ℕ} {v : Value} → WordPut at start m a → WordPut (at + 1) count a b → Put 3 loaded (at + 2) v b n → Put 5 loaded_field at (record { name = record { start = start; count = count }; value = v }) m n
unfolding loaded_field
field_put {at = at} p q r =
    record {
      there = rw (r.before at (omega arith), q.others at (λ h. omega arith), p.there, r.before (at + 1) (omega arith), q.there, r.there) refl;
      long = r.long ∙ q.long ∙ p.long;
      before = λ i lt. r.before i (omega arith) ∙ q.others i (λ h. omega arith) ∙ p.others i (λ h. omega arith);
      after = λ i le. r.after i (omega arith) ∙ q.others i (λ h. omega arith) ∙ p.others i (λ h. omega arith);
    }

-- fewer than so many fit where a quotient is less
pub too_many : (room width count : ℕ) → (width == 0) ≡ false → room / width < count → room < width * count
too_many room zero count some h = absurd (let no : ⊥ = grind (arith, some) in no)
too_many room (suc w) count some h =
    let width : ℕ = suc w in
    let below : room < width * (room / width + 1) = lt-mul-div-succ room (omega arith) in
    let within : width * (room / width + 1) ≤ width * count = mul-le-mul_left width (omega (arith, h)) in
    omega (arith, below, within)
