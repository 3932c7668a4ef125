use Rattle.std.proofs.Common.{ℕ, List, vec_items, sym, ◌∙◌, subst, arith}
use Rattle.std.specs.List.{between}
use Rattle.serving.specs.Buffers.{HeaderOf, Longer}
use Rattle.serving.proofs.Unread.{take_request, all_taken}
use Rattle.serving.proofs.requests.Requests.advance.Goals as goal

pub returns-then-self : goal.returns-then-self
returns-then-self c =
    let s = c.hold.new.self in
    all_taken (between c.args.self.now.to c.args.self.now.end (vec_items c.args.self.now.buffer)) s.to s.end (vec_items s.buffer) (sym c.in_ok-hold.ensures.same ∙ c.if-self.true) c.in_ok-hold.ensures.more

pub returns : goal.returns
returns c =
    let s = c.hold.new.self in
    let t = c.hold-2.new.self in
    let ys = vec_items t.buffer in
    let h = c.read_header-header.result in
    let held : HeaderOf (between s.from s.end (vec_items s.buffer)) h = subst (λ (v : List ℕ). HeaderOf (between s.from s.end v) h) c.as_slice.ensures.value c.read_header-header.ensures in
    let head : HeaderOf (between s.to s.end (vec_items s.buffer)) h = subst (λ (i : ℕ). HeaderOf (between i s.end (vec_items s.buffer)) h) c.in_ok-hold.ensures.same held in
    let two : Longer (between s.to s.end (vec_items s.buffer)) (between t.from t.end ys) =
    subst (λ (i : ℕ). Longer (between s.to s.end (vec_items s.buffer)) (between i t.end ys)) (sym c.in_ok-hold-2.ensures.same) c.in_ok-hold-2.ensures.more in
    take_request (between c.args.self.now.to c.args.self.now.end (vec_items c.args.self.now.buffer)) h (between s.to s.end (vec_items s.buffer)) t.from t.end ys c.in_ok-hold.ensures.more head two (c.in_ok-hold-2.ensures.there c.if-not-branch-2.false) (omega arith)
