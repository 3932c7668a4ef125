use Rattle.std.proofs.Common.{arith}
use Rattle.writing.proofs.Fronts.{tagged_put}
use Rattle.writing.proofs.put.put_tagged.Goals as goal

pub returns : goal.returns
returns c = tagged_put c.args.out.now c.put_bytes.new.out c.args.bytes.now c.args.tag _ (omega arith) c.put_bytes.auto.out c.put_bytes.ensures
