use Rattle.std.proofs.Common.{sym, subst}
use Rattle.values.specs.Lent.{words}
use Rattle.compare.specs.Compare.{Matches}
use Rattle.compare.proofs.Whole.{values_match}
use Rattle.compare.proofs.same.Goals as goal

pub returns : goal.returns
returns c =
    subst (λ r. Matches c.args.bytes.now (words c.args.row.now) c.args.a c.args.b c.args.depth r) (sym c.is_eq.ensures)
    (values_match c.args.bytes.now (words c.args.row.now) c.args.a c.args.b c.args.depth c.which_first.result c.which_first.ensures)
