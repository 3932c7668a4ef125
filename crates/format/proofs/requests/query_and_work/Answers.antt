use Rattle.std.proofs.Common.{◌≡◌, ℕ, ◌+◌, List, refl, arith}
use Rattle.format.specs.Coding.{many, number}
use Rattle.format.specs.Wire.{queries}
use Rattle.format.specs.Nodes.{ask_tail, Stands}
use Rattle.format.specs.Reading.{Begins, Read, ReadAs, Stuck}
use Rattle.format.specs.Lists.{from}
use Rattle.format.specs.QueryLaws.{queries_way}
use Rattle.format.proofs.Spans.{one_read, one_stuck}
use Rattle.format.proofs.Pairs.{pair_read, pair_cut, pair_short}
use Rattle.format.proofs.Places.{stands_front}
use Rattle.format.proofs.Moved.{moved_ok}
use Rattle.format.proofs.requests.query_and_work.Goals as goal

module _ (xs : List ℕ) where
  no_query : (p : ℕ) → Stuck (many queries 1) xs p → Stuck ask_tail xs p
  no_query p s = pair_short queries (number 8) xs p record { thing = 0; fits = omega arith } (one_stuck queries xs p s)

  module _ (e : ℕ) (r : Read (many queries 1) xs e) where
    no_work : (p : ℕ) → Stuck (number 8) (from e xs) p → Stuck ask_tail xs (e + p)
    no_work p s = let q = one_read queries xs e r in pair_cut queries (number 8) xs e p q.thing queries_way q.begins s

    both : (w : ℕ) → Begins (number 8) (from e xs) 8 w → ReadAs ask_tail xs (e + 8) (λ l. Stands queries xs 0 l.0 × (w ≡ l.1))
    both w b = let q = one_read queries xs e r in record { thing = (q.thing, w); begins = pair_read queries (number 8) xs e 8 q.thing w q.begins b; says = (stands_front queries xs e q.thing q.begins, refl) }

pub returns-in_err-length : goal.returns-in_err-length
returns-in_err-length c = grind (arith, no_query)

pub returns-in_err-work : goal.returns-in_err-work
returns-in_err-work c = grind (arith, no_work c.args.bytes.now c.in_ok-length.length)

pub returns : goal.returns
returns c = both c.args.bytes.now c.in_ok-length.length c.in_ok-length.ensures c.in_ok-work.work (moved_ok _ _ _ c.read_u64.result c.map_err.result _ c.read_u64.ensures c.map_err.ensures.cases c.in_ok-work.was)
