use Rattle.std.proofs.Common.{ℕ, List, IfOk, Ok, Err, Result, MatchResult}
use Rattle.format.specs.Wire.{requests}
use Rattle.format.specs.Reading.{ReadAs, Whole, Garbled}
use Rattle.format.specs.Nodes.{TellsRequest, Requested}
use Rattle.format.specs.declared.node.Request.{Request as Node}
use Rattle.format.specs.RequestLaws.{requested}
use Rattle.format.proofs.requests.read_request.Goals as goal

joined : (xs : List ℕ) (r : Result Node ℕ) → MatchResult r (λ h. Whole requests xs) (λ p. Garbled requests xs p) → IfOk r (λ h. (e : ℕ) × ReadAs requests xs e (TellsRequest xs h)) → MatchResult r (λ h. Requested xs h) (λ p. Garbled requests xs p)
joined xs (Ok n) w t = requested xs n t.0 w t.1
joined xs (Err p) w t = w

pub returns : goal.returns
returns c = joined c.args.bytes.now c.whole.result c.whole.ensures.is c.whole.ensures.says
