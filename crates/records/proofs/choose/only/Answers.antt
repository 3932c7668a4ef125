use Rattle.std.proofs.Common.{rules}
use Rattle.records.proofs.Choosing.{takes_only}
use Rattle.records.proofs.choose.only.Goals as goal

pub returns-clause-makes : goal.returns-clause-makes
returns-clause-makes c = takes_only c.args.bytes.now c.args.names.start c.args.names.count _ c.args.place _ _ _ _ (λ i q b t. search rules) c.chosen.ensures.makes
