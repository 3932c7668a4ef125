use Rattle.std.proofs.Common.{vec_items, arith, rules}
use Rattle.printing.proofs.Escapes.{none, step, closed}
use Rattle.printing.proofs.text.show_text.Goals as goal

pub loop-word-init : goal.loop-word-init
loop-word-init c = (omega arith, none (vec_items c.push.new.self))

pub loop-word-preserved : goal.loop-word-preserved
loop-word-preserved c = (
  omega (arith, c.in_ok-show_byte.ensures.grows),
  step (vec_items c.push.new.self) (vec_items c.loop-word.out) (vec_items c.show_byte.new.out) c.args.words.now c.loop-word.word-index c.loop-word-test.true c.loop-word.invariant.1 c.in_ok-show_byte.ensures.is,
)

pub returns : goal.returns
returns c = record {
  is = closed (vec_items c.args.out.now) (vec_items c.push.new.self) (vec_items c.loop-word.out) (vec_items c.push-2.new.self) c.args.words.now c.loop-word.word-index c.loop-word-test.false c.in_ok-push.ensures.items c.loop-word.invariant.1 c.in_ok-push-2.ensures.items;
  grows = search rules;
}
