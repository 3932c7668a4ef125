use Rattle.std.proofs.Common.{ℕ, ◌-◌, replicate, vec_items, vec_len, refl, ap, ◌∙◌, arith}
use Rattle.std.specs.List.{between}
use Rattle.serving.proofs.Unread.{grown_kept, moved_kept}
use Rattle.serving.proofs.requests.Requests.make_room.Goals as goal

pub returns-then-self-eq0 : goal.returns-then-self-eq0
returns-then-self-eq0 c =
    let s = c.args.self.now in
    record {
      same = c.requires;
      kept = grown_kept s.to s.end c.saturating_add.result (vec_items s.buffer) (vec_items c.resize.new.self) (replicate (c.saturating_add.result - vec_len s.buffer) 0) c.in_ok-resize.ensures.items (omega arith) (omega arith);
    }

pub returns : goal.returns
returns c =
    let s = c.args.self.now in
    record {
      same = refl;
      kept = moved_kept s.from s.end (vec_items s.buffer) (vec_items c.copy_within.new.self) c.copy_within.ensures.items (omega arith) (omega arith) ∙ ap (λ (i : ℕ). between i s.end (vec_items s.buffer)) c.requires;
    }
