use Rattle.std.proofs.Common.{◌≡◌, ℕ, ◌<◌, List, length, get_or, Some, sym, ap, ◌∙◌, subst, arith}
use Rattle.types.specs.Outcomes.{size}
use Rattle.types.proofs.Meanings.{grew_at}
use Rattle.typing.specs.Typed.{TypeTold}
use Rattle.typing.proofs.Written.{type_none, type_some, type_empty, type_off}
use Rattle.typing.proofs.TypeMade.{first_below}
use Rattle.typing.proofs.parts.one_type.Goals as goal

pub returns-then-at-bytes-clause-told : goal.returns-then-at-bytes-clause-told
returns-then-at-bytes-clause-told c = type_off c.args.bytes.now c.args.names.now c.args.table.now c.args.table.now c.args.work.now c.args.at c.if-at-bytes.true

pub returns-in_err-load-clause-told : goal.returns-in_err-load-clause-told
returns-in_err-load-clause-told c = rw c.from_residual.ensures (type_none c.args.bytes.now c.args.names.now c.args.table.now _ _ c.args.at c.in_err-load.ensures)

pub returns-in_err-x-clause-told : goal.returns-in_err-x-clause-told
returns-in_err-x-clause-told c =
    let n = ap (λ (z : List ℕ). length z) c.numbers.ensures.is in
    let l = c.in_err-x.ensures.item.3 in
    rw c.from_residual-in_err-x.ensures (type_empty c.args.bytes.now c.args.names.now c.args.table.now _ _ c.args.at c.in_ok-load.ensures (omega arith))

-- the number that stands first
there : (sl st : List ℕ) (x : ℕ) → sl ≡ st → (0 < length sl) × ((d : ℕ) → x ≡ get_or sl 0 d) → (0 < length st) × (get_or st 0 0 ≡ x)
there sl st x e l = let d = ap (λ (z : List ℕ). length z) e in let t = l.0 in (omega arith, sym (l.1 0 ∙ ap (λ (z : List ℕ). get_or z 0 0) e))

pub returns-clause-grew : goal.returns-clause-grew
returns-clause-grew c =
    let l = c.in_ok-load.ensures in
    let h = there _ c.load.new.work.stack c.in_ok-x.x.now c.numbers.ensures.is c.in_ok-x.ensures.item.3 in
    grew_at l.grew _ (subst (λ (z : ℕ). z < size c.load.new.table) h.1 (first_below _ 0 c.load.new.work.stack h.0 l.numbers))

pub returns-clause-told : goal.returns-clause-told
returns-clause-told c =
    let h = there _ c.load.new.work.stack c.in_ok-x.x.now c.numbers.ensures.is c.in_ok-x.ensures.item.3 in
    subst (λ (z : ℕ). TypeTold c.args.bytes.now c.args.names.now c.args.table.now c.load.new.table c.args.at (Some z)) h.1
    (type_some c.args.bytes.now c.args.names.now c.args.table.now c.load.new.table c.load.new.work c.args.at c.in_ok-load.ensures h.0)
