use Rattle.binary.proofs.Simple.{equal_does}
use Rattle.binary.proofs.plain.equal.Goals as goal

pub returns : goal.returns
returns c = λ top. equal_does c.args.bytes.now c.args.deep c.args.a c.args.b _ top c.args.left _ c.same.ensures
