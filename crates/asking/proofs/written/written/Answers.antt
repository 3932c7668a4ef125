use Rattle.std.proofs.Common.{◌≡◌, Some, None, Err, refl, rules}
use Rattle.operators.specs.Came.{came_at}
use Rattle.operators.specs.declared.came.Stop.TheVariants.{NoRoom}
use Rattle.asking.proofs.Cut.{not_written, is_written}
use Rattle.asking.proofs.written.written.Goals as goal

pub returns-in_err-n : goal.returns-in_err-n
returns-in_err-n c =
    let e : c.write_out.result ≡ None = search rules in
    let stopped : c.from_residual.result ≡ Err NoRoom = search rules in
    rw stopped
    (not_written c.args.bytes.now c.args.memory.kept.now c.args.memory.made.now c.split_at_mut-made.result.0.now c.split_at_mut-made.result.1.now (came_at c.args.memory.top c.args.came) c.args.budget
    c.split_at_mut-made.ensures.value c.args.memory.over c.split_at_mut-made.ensures.front_len c.write_out.new.out (rw e at c.write_out.ensures.any))

pub returns : goal.returns
returns c =
    let e : c.write_out.result ≡ Some c.in_ok-n.n = search rules in
    is_written c.args.bytes.now c.args.memory.kept.now c.args.memory.made.now c.split_at_mut-made.result.0.now c.split_at_mut-made.result.1.now (came_at c.args.memory.top c.args.came) c.args.budget
    c.split_at_mut-made.ensures.value c.args.memory.over c.split_at_mut-made.ensures.front_len c.write_out.new.out c.in_ok-n.n _ c.requires refl refl (rw e at c.write_out.ensures.any)
