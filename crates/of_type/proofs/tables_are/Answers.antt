use Rattle.std.proofs.lemmas.Bool.{ne_eqb}
use Rattle.of_type.proofs.Judges.{tables_told, tables_other}
use Rattle.of_type.proofs.tables_are.Goals as goal

pub returns-then-count-types : goal.returns-then-count-types
returns-then-count-types c = rw c.is_some.ensures (tables_told c.args.limit c.args.count c.args.types _ _ c.if-count-types.true c.values_are.ensures)

pub returns-else-count-types : goal.returns-else-count-types
returns-else-count-types c = rw (ne_eqb _ _ c.if-count-types.false) (tables_other c.args.limit c.args.count c.args.types c.args.tables.now c.args.schema.now c.if-count-types.false)
