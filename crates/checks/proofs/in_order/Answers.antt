use Rattle.std.proofs.Common.{◌∙◌}
use Rattle.format.specs.Lists.{from_drop}
use Rattle.checks.proofs.in_order.Goals as goal

pub returns-in-Some : goal.returns-in-Some
returns-in-Some c =
    record { tells = λ ss s l. c.sound_schema.ensures ss s.stands.rest s.fits (c.in-Some.ensures.lookup.0.2 ∙ from_drop c.args.schema_at c.args.bytes.now ∙ s.stands.is) l }
