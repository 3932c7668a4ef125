use mathlib.Core.Path.{refl}
use Rattle.query.specs.Data.{pick, same_text, less_text}
use Rattle.query.specs.Types.{code, sound, bytes, as_num, elem, fields_of, is_of, on_ty, if_so, get_ty, put_ty, both_tys, type1, type2, ty_at, type_of}
use Rattle.query.specs.Size.{some_ty}
use Rattle.examples.proofs.they_have_types.Goals as goal

pub returns : goal.returns
unfolding some_ty type_of ty_at on_ty elem fields_of get_ty pick same_text type1 type2 if_so as_num code sound is_of bytes both_tys put_ty less_text
returns c = record { value = refl; value_2 = refl; value_3 = refl; value_4 = refl; value_5 = refl; value_6 = refl; value_7 = refl }
