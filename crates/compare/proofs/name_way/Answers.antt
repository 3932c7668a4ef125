use Rattle.std.proofs.Common.{rules}
use Rattle.compare.proofs.Whole.{texts_one, texts_past_a, texts_past_b, texts_read}
use Rattle.compare.proofs.name_way.Goals as goal

pub returns-then-eq : goal.returns-then-eq
returns-then-eq c = texts_one c.args.bytes.now c.args.a c.args.b (search rules)

pub returns-in-Some-Some : goal.returns-in-Some-Some
returns-in-Some-Some c =
    texts_read c.args.bytes.now c.args.a c.args.b c.in-Some-Some.x.now c.in-Some-Some.y.now c.cmp.result c.in-Some-Some.ensures c.in-Some-Some.ensures' c.cmp.ensures

pub returns-in_default : goal.returns-in_default
returns-in_default c = texts_past_b c.args.bytes.now c.args.a c.args.b _ c.in_default.ensures'

pub returns-in_default-2 : goal.returns-in_default-2
returns-in_default-2 c = texts_past_a c.args.bytes.now c.args.a c.args.b _ c.in_default.ensures
