use Rattle.std.proofs.Common.{◌≡◌, ℕ, ◌+◌, List, length, arith}
use Rattle.format.specs.Coding.{many, both_of}
use Rattle.format.specs.Wire.{write_ty, types, data_of}
use Rattle.format.specs.Heads.{data_heads, data_arity}
use Rattle.format.specs.Reading.{Read, ReadAs, Stuck}
use Rattle.format.specs.Lists.{from}
use Rattle.format.specs.Trees.{inhabited}
use Rattle.format.specs.DataLaws.{data_laws}
use Rattle.format.specs.QueryLaws.{types_way}
use Rattle.format.proofs.Spans.{one_read, one_stuck}
use Rattle.format.proofs.Moved.{moved_ok}
use Rattle.format.proofs.Pairs.{pair_read, pair_cut, pair_short, written_length}
use Rattle.format.proofs.queries.typed_datum.Goals as goal

module _ (xs : List ℕ) where
  no_type : (p : ℕ) → Stuck (many types 1) xs p → Stuck (both_of types data_of) xs p
  no_type p s = pair_short types data_of xs p (inhabited data_of data_heads data_arity data_laws) (one_stuck types xs p s)

  module _ (t : ℕ) (r : Read (many types 1) xs t) where
    no_datum : (p : ℕ) → Stuck (many data_of 1) (from t xs) p → Stuck (both_of types data_of) xs (t + p)
    no_datum p s = let a = one_read types xs t r in pair_cut types data_of xs t p a.thing types_way a.begins (one_stuck data_of (from t xs) p s)

    both : (d : ℕ) → Read (many data_of 1) (from t xs) d → ReadAs (both_of types data_of) xs (t + d) (λ p. length (write_ty p.0) ≡ t)
    both d s =
        let a = one_read types xs t r in
        let b = one_read data_of (from t xs) d s in
        record { thing = (a.thing, b.thing); begins = pair_read types data_of xs t d a.thing b.thing a.begins b.begins; says = written_length types xs t a.thing a.begins }

pub returns-in_err-t : goal.returns-in_err-t
returns-in_err-t c = grind (arith, no_type)

pub returns-in_err-d : goal.returns-in_err-d
returns-in_err-d c = grind (arith, no_datum c.args.bytes.now c.in_ok-t.t)

pub returns : goal.returns
returns c = both c.args.bytes.now c.in_ok-t.t c.in_ok-t.ensures c.in_ok-d.d (moved_ok _ _ _ _ _ _ c.scan-2.ensures c.map_err.ensures.cases c.in_ok-d.was)
