use Rattle.std.proofs.Common.{ℕ, MatchResult, Some, None, Option}
use Rattle.std.specs.Option.{ok_or, MatchOption}
use Rattle.format.specs.Lists.{bytes_typed}
use Rattle.format.specs.Codings.{number_stuck}
use Rattle.format.proofs.number.front.Goals as goal

chosen : {A : Type 0} (P R : A → Type 0) (Q : Type 0) (B : ℕ → Type 0) (o : Option A) (n : ℕ) → MatchOption o Q P → ((x : A) → P x → R x) → (Q → B n) → MatchResult (ok_or o n) R B
chosen P R Q B None n m f g = g m
chosen P R Q B (Some x) n m f g = f x m

pub returns : goal.returns
returns g c =
    rw c.ok_or.ensures.value
    (chosen _ _ _ _ c.first_chunk.result _ c.first_chunk.ensures.cases (λ y h. (h.enough, h.same)) (λ h. number_stuck g.row.N c.args.bytes.now (bytes_typed _ c.type_inv.bytes) h))
