use mathlib.Core.Path.{refl}
use Rattle.query.specs.Data.{pick, same_text}
use Rattle.query.specs.Types.{elem, fields_of, on_ty, get_ty, type1, ty_at, type_of}
use Rattle.query.specs.Size.{some_ty}
use Rattle.examples.proofs.kilos_of_lots_have_type.Goals as goal

pub returns : goal.returns
unfolding some_ty type_of ty_at on_ty elem fields_of get_ty pick same_text type1
returns c = refl
