use Rattle.std.proofs.Common.{ne_eqb}
use Rattle.records.proofs.Finding.{differ}
use Rattle.records.proofs.field.is_named.Goals as goal

pub returns-else-a-b : goal.returns-else-a-b
returns-else-a-b c = rw (ne_eqb c.args.a.count c.args.b.count c.if-a-b.false) (differ c.args.bytes.now c.args.a c.args.b c.if-a-b.false)
