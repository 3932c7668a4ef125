-- Memory that is enough for asking.
use Rattle.std.proofs.Common.{◌≡◌, ℕ, suc, ◌+◌, ◌*◌, ◌<◌, ◌≤◌, Bool, true, false, leb, mul_assoc, mul-le-mul, mul-suc, arith}
use Rattle.query.specs.Data.{pick}
use Rattle.query.specs.Query.{Query, Tables, Got, asked}
use Rattle.query.specs.Types.{Schema}
use Rattle.query.specs.Size.{size_q, size_tables}
use Rattle.query.specs.Promise.{parts, enough_to_ask}
use Rattle.guide.proofs.Sizes.{query_some}
use Rattle.asking.specs.Outcomes.{Lacking}

-- what is at most the work and at most the budget
less : (s w b : ℕ) → s ≤ w → s ≤ b → s ≤ pick (leb w b) w b
unfolding pick
less s w b p q = go (leb w b)
  where
    go : (t : Bool) → s ≤ pick t w b
    go true = p
    go false = q

pub enough : (ss : Schema) (ts : Tables) (q : Query) (w rate names top end : ℕ) → rate ≡ 5 * names + 3 → names ≤ parts ss q → top ≤ 5 * (size_tables ts + size_q q) → Lacking rate (asked ts q) w top end → end < enough_to_ask ss ts q w
enough ss ts q w rate names top end e few low k =
    let g : Got = asked ts q in
    let p : ℕ = parts ss q in
    let x : ℕ = pick (leb g.work w) g.work w in
    let some = query_some q in
    let a : rate * k.spent ≤ (8 * p) * x = mul-le-mul {n₁ = rate} {m₁ = k.spent} {n₂ = 8 * p} {m₂ = x} (omega arith) (less k.spent g.work w k.part k.afford) in
    let b : (8 * p) * x ≡ 8 * (p * x) = mul_assoc 8 p x in
    let c : p * suc x ≡ p * x + p = mul-suc p x in
    omega (arith, a, b, c, k.lacks, some)

pub enough_loading : (ss : Schema) (ts : Tables) (q : Query) (w end : ℕ) → end < 5 * (size_tables ts + size_q q) → end < enough_to_ask ss ts q w
enough_loading ss ts q w end h = omega arith
