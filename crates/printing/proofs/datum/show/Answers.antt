use Rattle.std.proofs.Common.{ℕ, Bool, vec_items, Option, subst, arith}
use Rattle.printing.specs.Opens.{Headed, Between}
use Rattle.printing.proofs.Showing.{showing_begin, showing_stuck, showing_end, showing_on, showing_past}
use Rattle.printing.proofs.datum.show.Goals as goal

pub loop-at-init : goal.loop-at-init
loop-at-init c = (omega arith, showing_begin c.args.words.now (vec_items c.new-stack.result) (vec_items c.args.out.now) c.new-stack.ensures.items)

pub loop-at-preserved : goal.loop-at-preserved
loop-at-preserved c = (
  omega (arith, c.loop-at.invariant.0, c.in_ok-next.ensures.grows, c.in_ok-show_between.ensures.grows),
  showing_on c.args.words.now (vec_items c.loop-at.stack) (vec_items c.show_head.new.stack) c.loop-at.at (vec_items c.args.out.now) (vec_items c.loop-at.out) (vec_items c.show_head.new.out) c.loop-at.invariant.1 c.in-Some.next (subst (λ (o : Option ℕ). Headed c.args.words.now c.loop-at.at (vec_items c.loop-at.stack) (vec_items c.show_head.new.stack) (vec_items c.loop-at.out) (vec_items c.show_head.new.out) o) c.in-Some.is c.in_ok-next.ensures.is) (vec_items c.show_between.new.stack) (vec_items c.show_between.new.out) (subst (λ (b : Bool). Between c.args.words.now (vec_items c.show_head.new.stack) (vec_items c.show_between.new.stack) (vec_items c.show_head.new.out) (vec_items c.show_between.new.out) b) c.if-not-branch.false c.in_ok-show_between.ensures.is),
)

pub returns-in_default : goal.returns-in_default
returns-in_default c = record {
  is = showing_stuck c.args.words.now (vec_items c.loop-at.stack) (vec_items c.show_head.new.stack) c.loop-at.at (vec_items c.args.out.now) (vec_items c.loop-at.out) (vec_items c.show_head.new.out) c.loop-at.invariant.1 (subst (λ (o : Option ℕ). Headed c.args.words.now c.loop-at.at (vec_items c.loop-at.stack) (vec_items c.show_head.new.stack) (vec_items c.loop-at.out) (vec_items c.show_head.new.out) o) c.in_default.is c.in_ok-next.ensures.is);
  grows = omega (arith, c.loop-at.invariant.0, c.in_ok-next.ensures.grows);
}

pub returns-then-not-branch : goal.returns-then-not-branch
returns-then-not-branch c = record {
  is = showing_end c.args.words.now (vec_items c.loop-at.stack) (vec_items c.show_head.new.stack) c.loop-at.at (vec_items c.args.out.now) (vec_items c.loop-at.out) (vec_items c.show_head.new.out) c.loop-at.invariant.1 c.in-Some.next (subst (λ (o : Option ℕ). Headed c.args.words.now c.loop-at.at (vec_items c.loop-at.stack) (vec_items c.show_head.new.stack) (vec_items c.loop-at.out) (vec_items c.show_head.new.out) o) c.in-Some.is c.in_ok-next.ensures.is) (vec_items c.show_between.new.stack) (vec_items c.show_between.new.out) (subst (λ (b : Bool). Between c.args.words.now (vec_items c.show_head.new.stack) (vec_items c.show_between.new.stack) (vec_items c.show_head.new.out) (vec_items c.show_between.new.out) b) c.if-not-branch.true c.in_ok-show_between.ensures.is);
  grows = omega (arith, c.loop-at.invariant.0, c.in_ok-next.ensures.grows, c.in_ok-show_between.ensures.grows);
}

pub returns : goal.returns
returns c = record {
  is = showing_past c.args.words.now (vec_items c.loop-at.stack) c.loop-at.at (vec_items c.args.out.now) (vec_items c.loop-at.out) c.loop-at.invariant.1 c.loop-at-test.false;
  grows = c.loop-at.invariant.0;
}
