use Rattle.std.proofs.lemmas.Result.{err_from_is_err_and}
use Rattle.types.proofs.Makes.{sound_none}
use Rattle.typing.proofs.memory.new.Goals as goal

pub returns-in_err-schema : goal.returns-in_err-schema
returns-in_err-schema c = let p = err_from_is_err_and c.from_residual-in_err-schema.result c.from_residual-in_err-schema.ensures.1 in rw p.1 record { roomy = tt; spacious = tt; sound = tt }

pub returns-clause-sound : goal.returns-clause-sound
returns-clause-sound c = sound_none _ _ _ c.in_ok-entries.ensures.items
