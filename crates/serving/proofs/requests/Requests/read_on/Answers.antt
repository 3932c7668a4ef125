use Rattle.std.proofs.Common.{vec_items, refl, arith}
use Rattle.serving.proofs.Unread.{read_more, read_none}
use Rattle.serving.proofs.requests.Requests.read_on.Goals as goal

pub returns-then-eq : goal.returns-then-eq
returns-then-eq c =
    let s = c.args.self.now in
    record { same = (refl, refl); more = read_none s.to s.end (vec_items s.buffer) (vec_items c.read_behind.new.buffer) c.read_behind.ensures.front }

pub returns-in-Ok : goal.returns-in-Ok
returns-in-Ok c =
    let s = c.args.self.now in
    record { same = (refl, refl); more = read_more s.to s.end c.in-Ok.count (vec_items s.buffer) (vec_items c.read_behind.new.buffer) (omega arith) c.in-Ok.ensures.front }

pub returns-else-eq : goal.returns-else-eq
returns-else-eq c =
    let s = c.args.self.now in
    record { same = (refl, refl); more = read_none s.to s.end (vec_items s.buffer) (vec_items c.read_behind.new.buffer) c.read_behind.ensures.front }
