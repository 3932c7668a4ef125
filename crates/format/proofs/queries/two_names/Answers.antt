use Rattle.std.proofs.Common.{◌≡◌, ℕ, ◌+◌, List, length, arith}
use Rattle.format.specs.Coding.{name}
use Rattle.format.specs.Codings.{name_way}
use Rattle.format.specs.NameLaws.{name_some}
use Rattle.format.proofs.Pairs.{pair_told, pair_stuck, pair_short}
use Rattle.format.proofs.queries.two_names.Goals as goal

pub returns-in_err-m : goal.returns-in_err-m
returns-in_err-m c = grind (arith, λ (xs : List ℕ) (p : ℕ). pair_short name name xs p name_some)

pub returns-in_err-n : goal.returns-in_err-n
returns-in_err-n c = grind (arith, λ (p : ℕ). pair_stuck name name (λ t. length t ≡ c.in_ok-m.m) c.args.bytes.now (4 + c.in_ok-m.m) p name_way c.in_ok-m.ensures)

pub returns : goal.returns
returns c = grind (arith, pair_told name name (λ t. length t ≡ c.in_ok-m.m) (λ t. length t ≡ c.in_ok-n.n) c.args.bytes.now (4 + c.in_ok-m.m) (4 + c.in_ok-n.n))
