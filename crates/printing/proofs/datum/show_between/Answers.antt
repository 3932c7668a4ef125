use Rattle.std.proofs.Common.{ℕ, [], ◌∷◌, ◌++◌, vec_items, Option, ap, ◌∙◌, subst, arith}
use Rattle.printing.specs.declared.datum.Whole.{Whole}
use Rattle.printing.specs.Opens.{Fronted}
use Rattle.format.specs.Lists.{none_of}
use Rattle.printing.proofs.Nexts.{unwind_none, unwind_one, between_end, between_stuck, between_next}
use Rattle.printing.proofs.datum.show_between.Goals as goal

pub loop-last-init : goal.loop-last-init
loop-last-init c = (omega arith, unwind_none c.args.words.now (vec_items c.args.stack.now) (vec_items c.args.out.now))

pub loop-last-preserved : goal.loop-last-preserved
loop-last-preserved c =
    let shut = c.in_ok-push-2.ensures.items ∙ ap (λ (b : ℕ). vec_items c.loop-last.out ++ (b ∷ [])) c.closing.ensures in (
      omega (arith, c.in_ok-push-2.ensures.len, c.loop-last.invariant.0),
      unwind_one c.args.words.now (vec_items c.args.stack.now) (vec_items c.loop-last.stack) (vec_items c.pop.new.self) c.in-Some.last (vec_items c.args.out.now) (vec_items c.loop-last.out) (vec_items c.push-in-Some.new.self) c.loop-last.invariant.1 c.in-Some.ensures.items c.if-last-gt0.false shut,
    )

pub returns-in_default-2 : goal.returns-in_default-2
returns-in_default-2 c = record {
  is = between_stuck c.args.words.now (vec_items c.args.stack.now) (vec_items c.loop-last.stack) (vec_items c.pop.new.self) c.in-Some.last (vec_items c.args.out.now) (vec_items c.loop-last.out) (vec_items c.show_next.new.out) c.loop-last.invariant.1 c.in-Some.ensures.items c.if-last-gt0.true (vec_items c.pop.new.self) (subst (λ (o : Option Whole). Fronted c.args.words.now c.in-Some.last.whole c.in-Some.last.begun (vec_items c.loop-last.out) (vec_items c.show_next.new.out) o) c.in_default-2.is c.in_ok-whole.ensures.is);
  grows = omega (arith, c.loop-last.invariant.0, c.in_ok-whole.ensures.grows);
}

pub returns-then-last-gt0 : goal.returns-then-last-gt0
returns-then-last-gt0 c = record {
  is = between_next c.args.words.now (vec_items c.args.stack.now) (vec_items c.loop-last.stack) (vec_items c.pop.new.self) c.in-Some.last (vec_items c.args.out.now) (vec_items c.loop-last.out) (vec_items c.show_next.new.out) c.loop-last.invariant.1 c.in-Some.ensures.items c.if-last-gt0.true (vec_items c.push.new.self) c.in-Some-2.whole (subst (λ (o : Option Whole). Fronted c.args.words.now c.in-Some.last.whole c.in-Some.last.begun (vec_items c.loop-last.out) (vec_items c.show_next.new.out) o) c.in-Some-2.is c.in_ok-whole.ensures.is) c.in_ok-push.ensures.items;
  grows = omega (arith, c.loop-last.invariant.0, c.in_ok-whole.ensures.grows);
}

pub returns : goal.returns
returns c = record {
  is = between_end c.args.words.now (vec_items c.args.stack.now) (vec_items c.loop-last.stack) (vec_items c.pop.new.self) (vec_items c.args.out.now) (vec_items c.loop-last.out) c.loop-last.invariant.1 (none_of (vec_items c.loop-last.stack) (let h = c.in_default.ensures.cases.0 in omega arith));
  grows = c.loop-last.invariant.0;
}
