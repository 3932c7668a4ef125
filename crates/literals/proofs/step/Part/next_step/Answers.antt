use Rattle.std.proofs.Common.{inl, inr, arith}
use Rattle.literals.proofs.Below as below
use Rattle.literals.proofs.step.Part.next_step.Goals as goal
use Rattle.literals.proofs.step.Part.next_step.Goals.{then-first-eq0-via-then-first-eq0, then-first-eq0-via-else-first-eq0+then-last-first, then-first-eq0-via-else-first-eq0+else-last-first+then-self-last}

pub returns-then-self : goal.returns-then-self
returns-then-self c = record { inside = tt; tells = below.past_guide c.args.self.query.now c.args.self.guide.now c.args.self.at _ (omega arith) }

pub returns-in_default : goal.returns-in_default
returns-in_default c = record { inside = tt; tells = below.not_visited c.args.self.query.now c.args.self.guide.now c.args.self.at _ c.in_default.ensures }

pub returns-then-first-eq0 : goal.returns-then-first-eq0
returns-then-first-eq0 c = record {
  inside = tt;
  tells = below.no_places c.args.self.query.now c.args.self.guide.now c.args.self.at c.in-Some.visit c.in-Some.ensures
      (elim c.then-first-eq0.branch [
        | then-first-eq0-via-then-first-eq0 w ↦ inl w.if-first-eq0.true
        | then-first-eq0-via-else-first-eq0+then-last-first w ↦ inr (inl w.if-last-first.true)
        | then-first-eq0-via-else-first-eq0+else-last-first+then-self-last w ↦ inr (inr w.if-self-last.true)
      ]);
}

pub returns-in-Bare : goal.returns-in-Bare
returns-in-Bare c = record { inside = tt; tells = below.bare_told c.args.self.query.now c.args.self.guide.now c.args.self.at c.in-Some.visit c.in-Some.ensures c.in-Bare.ensures }

pub returns-in-Written : goal.returns-in-Written
returns-in-Written c = record { inside = (omega arith, omega arith); tells = below.written_told c.args.self.query.now c.args.self.guide.now c.args.self.at c.in-Some.visit c.in-Some.ensures c.in-Written.ensures }

pub returns-in-One : goal.returns-in-One
returns-in-One c = record { inside = (omega arith, omega arith, omega arith); tells = below.one_told c.args.self.query.now c.args.self.guide.now c.args.self.at c.in-Some.visit c.in-Some.ensures c.in-One.ensures }

pub returns-in-Two : goal.returns-in-Two
returns-in-Two c = record { inside = (omega arith, omega arith, omega arith, omega arith); tells = below.two_told c.args.self.query.now c.args.self.guide.now c.args.self.at c.in-Some.visit c.in-Some.ensures c.in-Two.ensures }
