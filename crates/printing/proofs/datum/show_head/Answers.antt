use Rattle.std.proofs.Common.{vec_items, arith}
use Rattle.std.proofs.lemmas.Result.{IfOk-weaker}
use Rattle.printing.proofs.Dues.{null_head, number_head, false_head, true_head, text_head, bag_head, record_head, left_head, right_head, no_head, plain_ends, past_tag}
use Rattle.printing.proofs.datum.show_head.Goals as goal

pub returns-in-0 : goal.returns-in-0
returns-in-0 c = record {
  is = IfOk-weaker c.show_plain.result _ _ (λ o p. null_head c.args.words.now c.args.at (vec_items c.args.stack.now) (vec_items c.args.out.now) (vec_items c.show_plain.new.out) o c.requires c.in-0.is p) c.show_plain.ensures.is;
  ends = IfOk-weaker c.show_plain.result _ _ (λ o p. plain_ends c.args.words.now c.args.at o c.requires p.0) c.show_plain.ensures.is;
  grows = c.show_plain.ensures.grows;
}

pub returns-in-1 : goal.returns-in-1
returns-in-1 c = record {
  is = IfOk-weaker c.show_number_at.result _ _ (λ o p. number_head c.args.words.now c.args.at (vec_items c.args.stack.now) (vec_items c.args.out.now) (vec_items c.show_number_at.new.out) o c.requires c.in-1.is p) c.show_number_at.ensures.is;
  ends = IfOk-weaker c.show_number_at.result _ _ (λ o p. past_tag c.args.words.now c.args.at o p) c.show_number_at.ensures.ends;
  grows = c.show_number_at.ensures.grows;
}

pub returns-in-2 : goal.returns-in-2
returns-in-2 c = record {
  is = IfOk-weaker c.show_plain-in-2.result _ _ (λ o p. false_head c.args.words.now c.args.at (vec_items c.args.stack.now) (vec_items c.args.out.now) (vec_items c.show_plain-in-2.new.out) o c.requires c.in-2.is p) c.show_plain-in-2.ensures.is;
  ends = IfOk-weaker c.show_plain-in-2.result _ _ (λ o p. plain_ends c.args.words.now c.args.at o c.requires p.0) c.show_plain-in-2.ensures.is;
  grows = c.show_plain-in-2.ensures.grows;
}

pub returns-in-3 : goal.returns-in-3
returns-in-3 c = record {
  is = IfOk-weaker c.show_plain-in-3.result _ _ (λ o p. true_head c.args.words.now c.args.at (vec_items c.args.stack.now) (vec_items c.args.out.now) (vec_items c.show_plain-in-3.new.out) o c.requires c.in-3.is p) c.show_plain-in-3.ensures.is;
  ends = IfOk-weaker c.show_plain-in-3.result _ _ (λ o p. plain_ends c.args.words.now c.args.at o c.requires p.0) c.show_plain-in-3.ensures.is;
  grows = c.show_plain-in-3.ensures.grows;
}

pub returns-in-4 : goal.returns-in-4
returns-in-4 c = record {
  is = IfOk-weaker c.show_text_at.result _ _ (λ o p. text_head c.args.words.now c.args.at (vec_items c.args.stack.now) (vec_items c.args.out.now) (vec_items c.show_text_at.new.out) o c.requires c.in-4.is p) c.show_text_at.ensures.is;
  ends = IfOk-weaker c.show_text_at.result _ _ (λ o p. past_tag c.args.words.now c.args.at o p) c.show_text_at.ensures.ends;
  grows = c.show_text_at.ensures.grows;
}

pub returns-in-5 : goal.returns-in-5
returns-in-5 c = record {
  is = IfOk-weaker c.begin_bag.result _ _ (λ o p. bag_head c.args.words.now c.args.at (vec_items c.args.stack.now) (vec_items c.begin_bag.new.stack) (vec_items c.args.out.now) (vec_items c.begin_bag.new.out) o c.requires c.in-5.is p) c.begin_bag.ensures.is;
  ends = IfOk-weaker c.begin_bag.result _ _ (λ o p. past_tag c.args.words.now c.args.at o p) c.begin_bag.ensures.ends;
  grows = c.begin_bag.ensures.grows;
}

pub returns-in-6 : goal.returns-in-6
returns-in-6 c = record {
  is = IfOk-weaker c.begin_record.result _ _ (λ o p. record_head c.args.words.now c.args.at (vec_items c.args.stack.now) (vec_items c.begin_record.new.stack) (vec_items c.args.out.now) (vec_items c.begin_record.new.out) o c.requires c.in-6.is p) c.begin_record.ensures.is;
  ends = IfOk-weaker c.begin_record.result _ _ (λ o p. past_tag c.args.words.now c.args.at o p) c.begin_record.ensures.ends;
  grows = c.begin_record.ensures.grows;
}

pub returns-in-7 : goal.returns-in-7
returns-in-7 c = record {
  is = IfOk-weaker c.begin_side.result _ _ (λ o p. left_head c.args.words.now c.args.at (vec_items c.args.stack.now) (vec_items c.begin_side.new.stack) (vec_items c.args.out.now) (vec_items c.begin_side.new.out) o c.requires c.in-7.is p) c.begin_side.ensures.is;
  ends = IfOk-weaker c.begin_side.result _ _ (λ o p. plain_ends c.args.words.now c.args.at o c.requires p.0) c.begin_side.ensures.is;
  grows = c.begin_side.ensures.grows;
}

pub returns-in-8 : goal.returns-in-8
returns-in-8 c = record {
  is = IfOk-weaker c.begin_side-in-8.result _ _ (λ o p. right_head c.args.words.now c.args.at (vec_items c.args.stack.now) (vec_items c.begin_side-in-8.new.stack) (vec_items c.args.out.now) (vec_items c.begin_side-in-8.new.out) o c.requires c.in-8.is p) c.begin_side-in-8.ensures.is;
  ends = IfOk-weaker c.begin_side-in-8.result _ _ (λ o p. plain_ends c.args.words.now c.args.at o c.requires p.0) c.begin_side-in-8.ensures.is;
  grows = c.begin_side-in-8.ensures.grows;
}

pub returns-in_default : goal.returns-in_default
returns-in_default c = record {
  is = no_head c.args.words.now c.args.at (vec_items c.args.stack.now) (vec_items c.args.stack.now) (vec_items c.args.out.now) (vec_items c.args.out.now) _ c.requires (omega arith);
  ends = tt;
  grows = omega arith;
}
