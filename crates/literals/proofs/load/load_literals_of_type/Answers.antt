use Rattle.std.proofs.Common.{◌≡◌, ◌+◌, ◌*◌, arith, ap, length}
use Rattle.literals.proofs.Brings as brings
use Rattle.literals.proofs.load.load_literals_of_type.Goals as goal

pub returns-in_err-start-clause-means : goal.returns-in_err-start-clause-means
returns-in_err-start-clause-means c =
    let e = c.in_err-start.ensures in
    rw c.from_residual.ensures
    (brings.no_slots c.args.bytes.now c.args.query_at c.args.query.now c.args.guide.now c.args.marks.now c.number-count.new.marks c.args.memory.now.top c.number-count.result c.number-count.ensures _ (omega (arith, e.short, ap length e.words)))

pub returns-in_err-fill_of_type-clause-means : goal.returns-in_err-fill_of_type-clause-means
returns-in_err-fill_of_type-clause-means c =
    let o = c.in_ok-start.ensures in
    let q : c.reserve.new.self.top ≡ c.in_ok-start.start + 3 * c.number-count.result = omega (arith, o.begins, o.moved.top) in
    rw (c.from_residual-in_err-fill_of_type.ensures, ← o.begins) (brings.no_room c.args.bytes.now c.args.query_at c.args.query.now c.args.guide.now c.args.marks.now c.number-count.new.marks c.in_ok-start.start c.number-count.result c.number-count.ensures _ _ (rw q at c.in_err-fill_of_type.ensures.means))

pub returns-clause-means : goal.returns-clause-means
returns-clause-means c =
    let o = c.in_ok-start.ensures in
    let q : c.reserve.new.self.top ≡ c.in_ok-start.start + 3 * c.number-count.result = omega (arith, o.begins, o.moved.top) in
    let e = c.in_ok-fill_of_type.ensures in
    rw (← o.begins) (brings.brought c.args.bytes.now c.args.query_at c.args.query.now c.args.guide.now c.args.marks.now c.number-count.new.marks c.in_ok-start.start c.number-count.result c.number-count.ensures _ _ _ (rw q at e.inside.0) e.inside.1 (rw q at e.means))
