use mathlib.Core.Path.{refl}
use Rattle.query.specs.Data.{same_text, less_text}
use Rattle.query.specs.Types.{code, sound, first_after, bytes, as_num, elem, fields_of, on_one, no_tys, first_ty, is_of, tables_are}
use Rattle.query.specs.Size.{all_sound}
use Rattle.examples.proofs.tables_fit.Goals as goal

pub returns : goal.returns
unfolding all_sound sound first_after less_text tables_are is_of as_num on_one elem fields_of first_ty no_tys same_text code bytes
returns c = (refl, refl)
