use Rattle.std.proofs.Common.{arith}
use Rattle.typed.proofs.Leaves.{number_below, table_is, table_none}
use Rattle.typed.proofs.part.table_at.Goals as goal

pub returns-then-n-schema : goal.returns-then-n-schema
returns-then-n-schema c = record { within = λ w k. number_below w c.args.schema.now c.args.n (omega arith) k; is = λ ns ss. table_is ns ss c.args.schema.now c.args.n (omega arith) }

pub returns-else-n-schema : goal.returns-else-n-schema
returns-else-n-schema c = record { within = λ w k. tt; is = λ ns ss. table_none ns ss c.args.schema.now c.args.n (omega arith) }
