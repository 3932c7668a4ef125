-- A head that was read, with how many parts its node has.
use Rattle.std.proofs.Common.{◌≡◌, ℕ, ◌^◌, ◌<◌, List, sym, subst}
use Rattle.format.specs.Coding.{Coding}
use Rattle.format.specs.Reading.{ReadAs}
use Rattle.format.specs.Nodes.{NodeRead}

pub with_parts : (H : Coding) (arity : H.T → ℕ) {N : Type 0} (Tells : N → H.T → Type 0) → ((h : H.T) → H.Fits h → arity h < 2 ^ 32)
    → (xs : List ℕ) (node : N) (k e : ℕ) → ReadAs H xs e (Tells node) → ((h : H.T) → Tells node h → k ≡ arity h) → NodeRead H arity Tells xs node k e
with_parts H arity Tells few xs node k e r f =
    let q = f r.thing r.says in
    record { thing = r.thing; begins = r.begins; says = (r.says, q, subst (λ (v : ℕ). v < 2 ^ 32) (sym q) (few r.thing r.begins.fits)) }
