use Rattle.std.proofs.Common.{List, [], ◌∷◌, ◌++◌, refl, ap, ◌∙◌}
use Rattle.types.specs.Outcomes.{tidy}
use Rattle.types.specs.declared.entry.Entry.{Entry}
use Rattle.types.specs.declared.entry.Entry.TheVariants.{Unit as Unit'}
use Rattle.typed.proofs.Asking.{begun_sound}
use Rattle.typed.proofs.whole.begin.Goals as goal

pub invariant_of-result-clause-sound : goal.invariant_of-result-clause-sound
invariant_of-result-clause-sound c = begun_sound _ _ _ (c.push_reserved.ensures.items ∙ ap (λ (z : List Entry). z ++ (Unit' ∷ [])) c.truncate.ensures.items) c.truncate-2.ensures.items

pub returns : goal.returns
returns c =
    let e = c.push_reserved.ensures.items ∙ ap (λ (z : List Entry). z ++ (Unit' ∷ [])) c.truncate.ensures.items in
    record { tidy = tidy _; names = refl; entries = e; fields = c.truncate-2.ensures.items }
