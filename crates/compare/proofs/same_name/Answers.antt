use Rattle.std.proofs.Common.{rules}
use Rattle.compare.proofs.Whole.{names_one, names_read}
use Rattle.compare.proofs.same_name.Goals as goal

pub returns-then-eq : goal.returns-then-eq
returns-then-eq c = names_one c.args.bytes.now c.args.a c.args.b (search rules)

pub returns-in-Some-Some : goal.returns-in-Some-Some
returns-in-Some-Some c =
    names_read c.args.bytes.now c.args.a c.args.b c.in-Some-Some.x.now c.in-Some-Some.y.now c.same_bytes.result c.in-Some-Some.ensures c.in-Some-Some.ensures' c.same_bytes.ensures
