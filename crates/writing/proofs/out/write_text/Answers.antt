use Rattle.writing.proofs.Plains.{text_none, text_stop, text_put}
use Rattle.writing.proofs.out.write_text.Goals as goal

pub returns-in_err-n-clause-means : goal.returns-in_err-n-clause-means
returns-in_err-n-clause-means c = rw c.from_residual.ensures (λ m. text_none c.args.bytes.now m c.args.p c.args.out.now c.args.out.now c.in_err-n.ensures _)

pub returns-in_err-e-clause-means : goal.returns-in_err-e-clause-means
returns-in_err-e-clause-means c =
    rw c.from_residual-in_err-e.ensures (λ m.
    text_stop c.args.bytes.now m c.args.p c.args.out.now c.put_tagged.new.out c.in_ok-n.n c.put_tagged.auto.out c.in_ok-n.ensures c.put_name.new.out c.in_err-e.ensures.means _)

pub returns-clause-means : goal.returns-clause-means
returns-clause-means c = λ m.
    text_put c.args.bytes.now m c.args.p c.args.out.now c.put_tagged.new.out c.in_ok-n.n c.put_tagged.auto.out c.in_ok-n.ensures c.put_name.new.out _ c.in_ok-e.e c.put_name.auto.out c.in_ok-e.ensures.means
