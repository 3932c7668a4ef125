-- A step of the walk.
use Rattle.std.proofs.Common.{◌≡◌, ℕ, ◌+◌, ◌-◌, ◌≤◌, length, Some, ap, ◌∙◌, arith}
use Rattle.typing.specs.Visits.{SeenAt}
use Rattle.typing.specs.declared.visit.Seen.{Seen}
use Rattle.typed.specs.Shaped.{TellsShape}
use Rattle.typed.specs.Walks.{Setting, Stepped}
use Rattle.typed.specs.declared.shape.Shape.{Shape}
use Rattle.typed.proofs.Parts.{first_within, last_within, in_bytes}

pub step_is : (S : Setting) (pos : ℕ) (v : Seen) (h : Shape) (f l : ℕ) → SeenAt S.bytes S.guide S.base pos (Some v) → TellsShape v.node h
    → (v.first ≤ length S.bytes - (S.base + pos) → f ≡ pos + v.first) → f ≤ pos + (length S.bytes - (S.base + pos))
    → (v.last ≤ length S.bytes - (S.base + pos) → l ≡ pos + v.last) → l ≤ pos + (length S.bytes - (S.base + pos))
    → Stepped S pos (Some record { shape = h; first = f; last = l })
step_is S pos v h f l s k fi fw li lw = record {
  within = let w = s.within in record { here = w; first = omega arith; last = omega arith };
  steps = λ q depth a.
      let w = s.sees q a.rest a.fits a.within a.stands a.guided in
      let n = in_bytes S pos depth q a in
      let x = first_within q in
      let y = last_within q in
      record {
        shaped = k.tells q w.0;
        first = fi (omega (arith, w.1)) ∙ ap (λ (z : ℕ). pos + z) w.1;
        last = λ e. li (omega (arith, w.2)) ∙ ap (λ (z : ℕ). pos + z) (w.2 ∙ e);
      };
}
