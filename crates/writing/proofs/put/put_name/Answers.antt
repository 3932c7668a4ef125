use Rattle.std.proofs.Common.{◌≡◌, ℕ, List, length, take, subst, arith}
use Rattle.writing.proofs.Fronts.{name_no_room, name_put, spelled_long}
use Rattle.writing.proofs.put.put_name.Goals as goal

pub returns-then-out-name-clause-means : goal.returns-then-out-name-clause-means
returns-then-out-name-clause-means c = let l = spelled_long c.in_ok-name.ensures in name_no_room c.args.bytes.now c.args.place c.args.out.now _ (omega arith)

pub returns-clause-means : goal.returns-clause-means
returns-clause-means c =
    name_put c.args.bytes.now c.args.place c.args.out.now c.in_ok-name.name.now c.put_bytes.new.out c.put_bytes-2.new.out _ c.in_ok-name.ensures c.put_bytes.auto.out (omega arith)
    (subst (λ (v : List ℕ). take (length (take 4 v)) c.put_bytes.new.out ≡ take 4 v) c.to_le_bytes.ensures c.put_bytes.ensures)
    c.put_bytes-2.auto.out c.put_bytes-2.ensures
