use Rattle.std.proofs.Common.{◌∙◌}
use Rattle.format.specs.Lists.{from_drop}
use Rattle.checks.proofs.of_schema.Goals as goal

pub returns-in-Some-Some : goal.returns-in-Some-Some
returns-in-Some-Some c =
    let xs = c.args.bytes.now in
    record {
      tells = λ ss ts s t l.
          c.tables_are.ensures.tells ts ss t.stands.rest s.stands.rest t.fits s.fits (c.in-Some-Some.ensures.lookup.0.2 ∙ from_drop c.args.tables_at xs ∙ t.stands.is) (c.in-Some-Some.ensures'.lookup.0.2 ∙ from_drop c.args.schema_at xs ∙ s.stands.is) l;
    }
