use Rattle.std.proofs.Common.{arith}
use Rattle.values.specs.Lent.{words}
use Rattle.writing.proofs.Fronts.{part_long}
use Rattle.writing.proofs.Rows as rows
use Rattle.writing.proofs.out.write_names.Goals as goal

pub returns-in_err-n-clause-means : goal.returns-in_err-n-clause-means
returns-in_err-n-clause-means c =
    rw c.from_residual.ensures (rows.names_stop c.args.bytes.now (words c.args.row.now) c.args.p c.args.out.now c.loop-i.out c.loop-i.i c.loop-i.n c.loop-i.invariant c.loop-i-test.true c.nth-f.result c.nth-f.ensures c.put_name.new.out _ c.in_err-n.ensures.means)

pub loop-i-preserved : goal.loop-i-preserved
loop-i-preserved c =
    let e = c.in_ok-n.ensures in
    let w = c.loop-i.invariant in
    rows.names_turned c.args.bytes.now (words c.args.row.now) c.args.p c.args.out.now c.loop-i.out c.loop-i.i c.loop-i.n w c.loop-i-test.true c.nth-f.result c.nth-f.ensures c.put_name.new.out _ c.in_ok-n.field-0
    c.put_name.auto.out e.within (part_long c.loop-i.out c.put_name.new.out c.loop-i.n (omega (arith, w.within, w.long)) c.put_name.auto.out) e.means

pub returns-clause-means : goal.returns-clause-means
returns-clause-means c = rows.names_whole c.args.bytes.now (words c.args.row.now) c.args.p c.args.out.now c.loop-i.out c.loop-i.i c.loop-i.n c.loop-i.invariant (omega (arith, c.loop-i.auto.i-end, c.loop-i-test.false))
