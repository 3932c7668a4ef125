use Rattle.std.proofs.Common.{ap}
use Rattle.values.specs.Lent.{all}
use Rattle.literals.specs.Literals.{brought}
use Rattle.asking.proofs.Loading.{tables_ready, not_loaded, loaded_up}
use Rattle.asking.proofs.asked.load_all.Goals as goal

pub returns-in_err-load_each-clause-means : goal.returns-in_err-load_each-clause-means
returns-in_err-load_each-clause-means c = λ z.
    let t = rw z at c.in_err-load_each.ensures.means in
    record { means = λ p. not_loaded c.args.bytes.now c.args.guide.now c.args.ask p _ (all c.load_each.new.memory) _ (ap (brought c.load_each.new.memory.top) c.from_residual.ensures) t }

pub returns-clause-means : goal.returns-clause-means
returns-clause-means c = λ z.
    let t = rw z at c.in_ok-load_each.ensures.means in
    record {
      means = λ p.
          loaded_up c.args.bytes.now c.args.guide.now c.args.ask p (all c.load_each.new.memory) (all c.load_literals_of_type.new.memory) c.args.query.now c.args.marks.now c.load_literals_of_type.new.marks c.load_each.new.memory.top
          (t.means (tables_ready c.args.bytes.now c.args.guide.now c.args.ask p)) c.load_literals_of_type.ensures.kept c.requires.query c.requires.marks _ c.load_literals_of_type.ensures.means;
    }
