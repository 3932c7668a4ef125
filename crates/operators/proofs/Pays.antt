-- What is paid for units of work.
use Rattle.std.proofs.Common.{◌≡◌, ℕ, ◌+◌, ◌-◌, ◌*◌, ◌≤◌, sym, ap, ◌∙◌, mul-zero, mul-one, mul-add, arith}

pub pay_both : (p a b : ℕ) → p * (a + b) ≡ p * a + p * b
pay_both p a b = mul-add p a b

pub pay_more : (p a b : ℕ) → a ≤ b → p * a ≤ p * b
pay_more p a b h = let k : a + (b - a) ≡ b = omega arith in let e : p * b ≡ p * a + p * (b - a) = ap (λ x. p * x) (sym k) ∙ pay_both p a (b - a) in omega arith

pub pay_none : (p : ℕ) → p * 0 ≡ 0
pay_none p = mul-zero p

pub pay_one : (p : ℕ) → p * 1 ≡ p
pay_one p = mul-one p
