use Rattle.std.proofs.Common.{arith}
use Rattle.literals.proofs.Numbering as numbering
use Rattle.literals.proofs.number.+number.Goals as goal

pub returns-in-Bare : goal.returns-in-Bare
returns-in-Bare t c = numbering.bare_numbers c.args.part.query.now c.args.part.guide.now c.args.part.at c.args.marks.now c.args.next c.in-Bare.ensures.tells

pub returns-in-Written : goal.returns-in-Written
returns-in-Written t c = numbering.written_numbers c.args.part.query.now c.args.part.guide.now c.args.part.at c.args.marks.now c.put.new.marks c.args.next c.put.result _ c.in-Written.ensures.tells c.put.ensures

pub returns-in-One : goal.returns-in-One
returns-in-One t c =
    let p = c.part.ensures in
    numbering.one_numbers c.args.part.query.now c.args.part.guide.now c.args.part.at c.args.marks.now c.number.new.marks c.args.next c.number.result c.in-One.first c.in-One.ensures.tells (rw (p.query, p.guide, p.place) at c.number.ensures)

pub returns-in-Two : goal.returns-in-Two
returns-in-Two t c =
    let p = c.part-in-Two.ensures in
    let q = c.part-in-Two-2.ensures in
    numbering.two_numbers c.args.part.query.now c.args.part.guide.now c.args.part.at c.args.marks.now c.number-middle.new.marks _ c.args.next c.number-middle.result _ c.in-Two.first c.in-Two.last c.in-Two.ensures.tells c.number-middle.auto.marks (omega (arith, c.in-Two.ensures.inside))
    (rw (p.query, p.guide, p.place) at c.number-middle.ensures) (rw (q.query, q.guide, q.place) at c.number-in-Two.ensures)
