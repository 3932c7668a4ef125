-- A field by its name. Assumes nothing.
use Rattle.std.proofs.Common.{◌≡◌, ℕ, ◌+◌, ◌<◌, ◌≤◌, eqb, List, [], ◌∷◌, length, get_or, drop, sym, ap, ◌∙◌}
use Rattle.std.proofs.lemmas.List.{drop_more, drop_all}
use Rattle.types.specs.Fields.{get_f}
use Rattle.types.specs.Tables.{no_such}
use Rattle.types.specs.declared.entry.Field.{Field}
use Rattle.types.proofs.Both.{pick_true, pick_false, eqb_yes, eqb_no}

get_here : (n : ℕ) (f : Field) (fs : List Field) → n ≡ f.name → get_f n (f ∷ fs) ≡ f.of ∷ []
unfolding get_f
get_here n f fs e = pick_true (eqb n f.name) _ _ (eqb_yes n f.name e)

get_later : (n : ℕ) (f : Field) (fs : List Field) → (n ≡ f.name → ⊥) → get_f n (f ∷ fs) ≡ get_f n fs
unfolding get_f
get_later n f fs e = pick_false (eqb n f.name) _ _ (eqb_no n f.name e)

pub got : (fs : List Field) (i k : ℕ) → i < length fs → get_f k fs ≡ get_f k (drop i fs) → (get_or fs i no_such).name ≡ k → (get_or fs i no_such).of ∷ [] ≡ get_f k fs
got fs i k l inv e = sym (inv ∙ (ap (λ (z : List Field). get_f k z) (drop_more fs i no_such l) ∙ get_here k (get_or fs i no_such) (drop (i + 1) fs) (sym e)))

pub get_on : (fs : List Field) (i k : ℕ) → i < length fs → get_f k fs ≡ get_f k (drop i fs) → ((get_or fs i no_such).name ≡ k → ⊥) → get_f k fs ≡ get_f k (drop (i + 1) fs)
get_on fs i k l inv e = inv ∙ (ap (λ (z : List Field). get_f k z) (drop_more fs i no_such l) ∙ get_later k (get_or fs i no_such) (drop (i + 1) fs) (λ q. e (sym q)))

pub get_none : (fs : List Field) (i k : ℕ) → length fs ≤ i → get_f k fs ≡ get_f k (drop i fs) → [] ≡ get_f k fs
unfolding get_f
get_none fs i k l inv = sym (inv ∙ ap (λ (z : List Field). get_f k z) (drop_all i fs l))
