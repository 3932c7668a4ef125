-- What a query is worked out in, as the definitions see it.
use Rattle.eval.specs.Ready.{Setting, setting}
use Rattle.eval.specs.declared.scene.Lent.{Lent}

abbrev pub set : Lent → Setting
set l = setting l.scene l.bytes.now l.guide.now l.literals.now
