use Rattle.std.proofs.Common.{◌∙◌, arith}
use Rattle.format.specs.Lists.{from_drop}
use Rattle.checks.proofs.within_limit.Goals as goal

pub returns : goal.returns
returns c =
    let xs = c.args.bytes.now in
    record {
      tells = λ ss q s k.
          let n = c.in_ok-schema.ensures.counts ss s.stands.rest s.fits (c.in_ok-schema_bytes.ensures.lookup.0.2 ∙ from_drop c.args.schema_at xs ∙ s.stands.is) in
          let m = c.in_ok-query.ensures.counts q k.stands.rest k.fits (c.in_ok-query_bytes.ensures.lookup.0.2 ∙ from_drop c.args.query_at xs ∙ k.stands.is) in
          (omega (arith, n.0, m.0), omega (arith, n.0, n.1, m.0, m.1));
    }
