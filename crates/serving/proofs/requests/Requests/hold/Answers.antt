use Rattle.std.proofs.Common.{◌≡◌, ℕ, vec_items, sym, ◌∙◌, arith, rules}
use Rattle.std.specs.List.{between}
use Rattle.serving.proofs.Unread.{nothing_more, more_and_more, same_then_more}
use Rattle.serving.proofs.requests.Requests.hold.Goals as goal

pub loop-init : goal.loop-init
loop-init c = (c.requires, nothing_more (between c.args.self.now.to c.args.self.now.end (vec_items c.args.self.now.buffer)))

pub loop-preserved : goal.loop-preserved
loop-preserved c = (
  c.in_ok-read_on.ensures.same.0 ∙ c.in_ok-make_room.ensures.same ∙ sym c.in_ok-read_on.ensures.same.1,
  more_and_more (between c.args.self.now.to c.args.self.now.end (vec_items c.args.self.now.buffer)) (between c.make_room.new.self.to c.make_room.new.self.end (vec_items c.make_room.new.self.buffer)) (between c.read_on.new.self.to c.read_on.new.self.end (vec_items c.read_on.new.self.buffer)) (same_then_more (between c.args.self.now.to c.args.self.now.end (vec_items c.args.self.now.buffer)) (between c.loop.self.to c.loop.self.end (vec_items c.loop.self.buffer)) (between c.make_room.new.self.to c.make_room.new.self.end (vec_items c.make_room.new.self.buffer)) c.loop.invariant.1 c.in_ok-make_room.ensures.kept) c.in_ok-read_on.ensures.more,
)

pub returns-then-self-count : goal.returns-then-self-count
returns-then-self-count c = record { same = c.loop.invariant.0; more = c.loop.invariant.1; there = λ _. omega arith }

pub returns-in_err-make_room : goal.returns-in_err-make_room
returns-in_err-make_room c = record {
  same = c.in_err-make_room.ensures.same;
  more = same_then_more (between c.args.self.now.to c.args.self.now.end (vec_items c.args.self.now.buffer)) (between c.loop.self.to c.loop.self.end (vec_items c.loop.self.buffer)) (between c.make_room.new.self.to c.make_room.new.self.end (vec_items c.make_room.new.self.buffer)) c.loop.invariant.1 c.in_err-make_room.ensures.kept;
  there = search rules;
}

pub returns-in_err-read_on : goal.returns-in_err-read_on
returns-in_err-read_on c = record {
  same = c.in_err-read_on.ensures.same.0 ∙ c.in_ok-make_room.ensures.same ∙ sym c.in_err-read_on.ensures.same.1;
  more = more_and_more (between c.args.self.now.to c.args.self.now.end (vec_items c.args.self.now.buffer)) (between c.make_room.new.self.to c.make_room.new.self.end (vec_items c.make_room.new.self.buffer)) (between c.read_on.new.self.to c.read_on.new.self.end (vec_items c.read_on.new.self.buffer)) (same_then_more (between c.args.self.now.to c.args.self.now.end (vec_items c.args.self.now.buffer)) (between c.loop.self.to c.loop.self.end (vec_items c.loop.self.buffer)) (between c.make_room.new.self.to c.make_room.new.self.end (vec_items c.make_room.new.self.buffer)) c.loop.invariant.1 c.in_ok-make_room.ensures.kept) c.in_err-read_on.ensures.more;
  there = search rules;
}

pub returns-then-not-branch : goal.returns-then-not-branch
returns-then-not-branch c = record {
  same = c.in_ok-read_on.ensures.same.0 ∙ c.in_ok-make_room.ensures.same ∙ sym c.in_ok-read_on.ensures.same.1;
  more = more_and_more (between c.args.self.now.to c.args.self.now.end (vec_items c.args.self.now.buffer)) (between c.make_room.new.self.to c.make_room.new.self.end (vec_items c.make_room.new.self.buffer)) (between c.read_on.new.self.to c.read_on.new.self.end (vec_items c.read_on.new.self.buffer)) (same_then_more (between c.args.self.now.to c.args.self.now.end (vec_items c.args.self.now.buffer)) (between c.loop.self.to c.loop.self.end (vec_items c.loop.self.buffer)) (between c.make_room.new.self.to c.make_room.new.self.end (vec_items c.make_room.new.self.buffer)) c.loop.invariant.1 c.in_ok-make_room.ensures.kept) c.in_ok-read_on.ensures.more;
  there = λ e. absurd (let z : ◌≡◌ {A = ℕ} 0 1 = cc in omega arith);
}

pub returns : goal.returns
returns c = record { same = c.loop.invariant.0; more = c.loop.invariant.1; there = λ e. absurd (let z : ◌≡◌ {A = ℕ} 0 1 = cc in omega arith) }
