use Rattle.std.proofs.Common.{◌≡◌, ◌-◌, ◌*◌, ◌<◌, ◌==◌, false, refl, sym, subst, arith, length-append}
use Rattle.values.proofs.Items.{too_many}
use Rattle.values.proofs.lent.Memory.reserve.Goals as goal

pub returns-then-size-start : goal.returns-then-size-start
returns-then-size-start g c =
    let room = c.size.result - c.args.self.now.top in
    let some : (c.WORDS.result == 0) ≡ false = subst (λ w. (w == 0) ≡ false) (sym c.WORDS.ensures) g.T.Item.some in
    let short : room < g.T.Item.WORDS * c.args.count = subst (λ w. room < w * c.args.count) c.WORDS.ensures (too_many room c.WORDS.result c.args.count some c.if-size-start.true) in
    record {
      short = omega (arith, c.size.ensures, c.args.self.now.within, length-append c.args.self.now.kept.now c.args.self.now.made.now, short);
      words = refl;
      steady = record { frozen = refl; same = refl; top = refl };
    }
