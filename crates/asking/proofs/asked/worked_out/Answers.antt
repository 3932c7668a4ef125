use Rattle.std.proofs.Common.{◌≡◌, Err, arith, rules}
use Rattle.values.specs.Lent.{all}
use Rattle.operators.specs.Came.{came_at}
use Rattle.asking.proofs.Out.{out_of_came, out_of_stop}
use Rattle.asking.proofs.asked.worked_out.Goals as goal

pub written-requires : goal.written-requires
written-requires c =
    let k = c.in_ok-came.ensures.means.means c.requires in
    omega (arith, k.paid)

pub returns : goal.returns
returns c = record {
  means = λ g. out_of_came c.args.lent.now.bytes.now g.world.rate _ c.args.budget g.used c.args.memory.top (all c.args.memory) (all c.work_out.new.memory)
      c.in_ok-came.ensures.kept.long (came_at c.work_out.new.memory.top c.in_ok-came.came) c.written.result g.held.low (c.in_ok-came.ensures.means.means g) c.written.ensures;
}

pub returns-in_err-came : goal.returns-in_err-came
returns-in_err-came c =
    let stopped : c.from_residual.result ≡ Err c.in_err-came.field-0.0 = search rules in
    rw stopped
    (record {
      means = λ g. out_of_stop c.args.lent.now.bytes.now g.world.rate _ c.args.budget g.used c.args.memory.top (all c.args.memory) (all c.work_out.new.memory)
          c.in_err-came.ensures.kept.long c.in_err-came.field-0.0 (c.in_err-came.ensures.means.means g);
    })
