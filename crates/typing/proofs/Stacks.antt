-- A number put on a stack.
use Rattle.std.proofs.Common.{◌≡◌, ℕ, zero, suc, ◌+◌, ◌-◌, ◌<◌, ◌≤◌, List, [], ◌∷◌, length, drop, set, Some, sym, refl, ap, ◌∙◌, arith, length-drop, length-set, drop-drop}
use Rattle.typing.specs.Stacks.{Put}

set_drop : (xs : List ℕ) (k x : ℕ) → k < length xs → drop k (set xs k x) ≡ x ∷ drop (suc k) xs
set_drop [] k x h = absurd (omega arith)
set_drop (y ∷ xs) zero x h = refl
set_drop (y ∷ xs) (suc k) x h = set_drop xs k x (omega arith)

pub put_there : (st : List ℕ) (top parts x at : ℕ) → length st ≡ 8200 → parts ≤ 8200 - top → top ≤ 8200 → 1 ≤ top + parts → at ≡ top + parts - 1 → Put (drop top st) (drop at (set st at x)) parts x (Some tt)
put_there st top parts x at l p t o e = record {
  few = omega (arith, length-drop at (set st at x), length-set st at x);
  none = λ n. let z : ◌≡◌ {A = ℕ} 0 1 = cc in absurd (omega arith);
  some = λ s. (omega (arith, length-drop top st), set_drop st at x (omega arith) ∙ ap (λ (z : List ℕ). x ∷ z) (ap (λ k. drop k st) next ∙ sym (drop-drop parts top st)));
}
  where
    next : suc at ≡ top + parts
    next = omega arith
