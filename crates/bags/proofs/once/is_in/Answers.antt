use Rattle.std.proofs.Common.{rules, true, false, refl, arith}
use Rattle.std.proofs.lemmas.Iterator.{cases_from_any, YieldsList-from_range}
use Rattle.bags.proofs.Distinct.{IsThis, is_any}
use Rattle.bags.proofs.once.is_in.Goals as goal

pub returns : goal.returns
returns c =
    is_any c.args.bytes.now _ c.args.value c.args.place c.args.depth c.any.result
    (cases_from_any _ _ _ (IsThis c.args.bytes.now _ c.args.value c.args.place c.args.depth true) (IsThis c.args.bytes.now _ c.args.value c.args.place c.args.depth false) c.any.ensures.ran (YieldsList-from_range 0 c.args.place.count c.args.place.count refl (omega arith))
    (λ x q k. search rules) (λ x q k. search rules))
