use Rattle.literals.proofs.Slots as slots
use Rattle.literals.proofs.fill.+fill_of_type.Goals as goal

pub returns-in-Bare-clause-means : goal.returns-in-Bare-clause-means
returns-in-Bare-clause-means t c = slots.bare_filled c.args.bytes.now c.args.place c.args.part.query.now c.args.part.guide.now c.args.part.at c.args.slots _ _ c.in-Bare.ensures.tells

pub returns-in-Written-clause-means : goal.returns-in-Written-clause-means
returns-in-Written-clause-means t c =
    let i = c.in-Written.ensures.inside in
    slots.written_filled c.args.bytes.now c.args.place c.args.part.query.now c.args.part.guide.now c.args.part.at c.args.slots _ _ c.in-Written.last _ _ c.requires.placed i.0 i.1 c.in-Written.ensures.tells c.fill_one.ensures.means

pub returns-in-One-clause-means : goal.returns-in-One-clause-means
returns-in-One-clause-means t c =
    let p = c.part.ensures in
    slots.one_filled_below c.args.bytes.now c.args.place c.args.part.query.now c.args.part.guide.now c.args.part.at c.args.slots _ _ c.in-One.first _ _ c.in-One.ensures.tells (rw (p.query, p.guide, p.place) at c.fill_of_type.ensures.means)

pub returns-in_err-middle-in-Two-clause-means : goal.returns-in_err-middle-in-Two-clause-means
returns-in_err-middle-in-Two-clause-means t c =
    let p = c.part-in-Two.ensures in
    rw c.from_residual.ensures (slots.first_none c.args.bytes.now c.args.place c.args.part.query.now c.args.part.guide.now c.args.part.at c.args.slots _ _ c.in-Two.first c.in-Two.last c.in-Two.ensures.tells _ (rw (p.query, p.guide, p.place) at c.in_err-middle-in-Two.ensures.means))

pub returns-in_ok-middle-in-Two-clause-means : goal.returns-in_ok-middle-in-Two-clause-means
returns-in_ok-middle-in-Two-clause-means t c =
    let p = c.part-in-Two.ensures in
    let q = c.part-in-Two-2.ensures in
    slots.two_filled c.args.bytes.now c.args.place c.args.part.query.now c.args.part.guide.now c.args.part.at c.args.slots _ _ c.in-Two.first c.in-Two.last c.in-Two.ensures.tells _ _ _ _ (rw (p.query, p.guide, p.place) at c.in_ok-middle-in-Two.ensures.means) (rw (q.query, q.guide, q.place) at c.fill_of_type-in-Two-2.ensures.means)
