-- Lists made from the left. Assumes nothing.
use Rattle.std.proofs.Common.{◌≡◌, ℕ, zero, suc, ◌+◌, ◌<◌, List, [], ◌∷◌, ◌++◌, length, get_or, take, drop, sym, refl, ap, ◌∙◌, ap₂, arith}
use Rattle.std.proofs.lemmas.List.{length-append, get_or_append_left, get_or_at, length-take-le, take-append-drop}
use Rattle.query.specs.Data.{Name}
use Rattle.query.specs.Query.{Ty, a_unit, a_bag, a_rec, an_either, Tys, ty}
use Rattle.types.specs.Shapes.{Shape, s_unit, s_num, s_truth, s_text, s_bag, s_either, s_rec, built, run, meaning, types, type_at, Rising, Below, Good, Grown}
use Rattle.types.specs.declared.entry.Field.{Field}

pub built_length : {A B : Type 0} (f : List B → A → B) (bs : List B) (xs : List A) → length (built f bs xs) ≡ length bs + length xs
unfolding built
built_length f bs [] = omega arith
built_length f bs (a ∷ xs) = omega (arith, built_length f (bs ++ (f bs a ∷ [])) xs, length-append bs (f bs a ∷ []))

pub built_keeps : {A B : Type 0} (f : List B → A → B) (bs : List B) (xs : List A) (d : B) (k : ℕ) → k < length bs → get_or (built f bs xs) k d ≡ get_or bs k d
unfolding built
built_keeps f bs [] d k h = refl
built_keeps f bs (a ∷ xs) d k h =
    built_keeps f (bs ++ (f bs a ∷ [])) xs d k (omega (arith, length-append bs (f bs a ∷ []))) ∙ get_or_append_left bs (f bs a ∷ []) d k h

pub built_append : {A B : Type 0} (f : List B → A → B) (bs : List B) (xs ys : List A) → built f bs (xs ++ ys) ≡ built f (built f bs xs) ys
unfolding built
built_append f bs [] ys = refl
built_append f bs (a ∷ xs) ys = built_append f (bs ++ (f bs a ∷ [])) xs ys

built_spot : {A B : Type 0} (f : List B → A → B) (bs : List B) (xs : List A) (d : B) (e : A) (i j : ℕ) → i < length xs → j ≡ length bs + i → get_or (built f bs xs) j d ≡ f (built f bs (take i xs)) (get_or xs i e)
unfolding built
built_spot f bs [] d e i j h q = absurd (omega arith)
built_spot f bs (a ∷ xs) d e zero j h q =
    let l : length bs ≡ j = omega arith in
    built_keeps f (bs ++ (f bs a ∷ [])) xs d j (omega (arith, length-append bs (f bs a ∷ []))) ∙ get_or_at bs (f bs a) [] d j l
built_spot f bs (a ∷ xs) d e (suc i) j h q =
    built_spot f (bs ++ (f bs a ∷ [])) xs d e i j (omega arith) (omega (arith, length-append bs (f bs a ∷ [])))

-- what was made at a place, from all that was made
pub built_at : {A B : Type 0} (f : List B → A → B) (xs : List A) (d : B) (e : A) (i : ℕ) → i < length xs
    → ((ts us : List B) → ((k : ℕ) → k < i → get_or ts k d ≡ get_or us k d) → f ts (get_or xs i e) ≡ f us (get_or xs i e))
    → get_or (built f [] xs) i d ≡ f (built f [] xs) (get_or xs i e)
built_at f xs d e i h local =
    built_spot f [] xs d e i i h (omega arith)
    ∙ local (built f [] (take i xs)) (built f [] xs) (λ k l.
    let ll : length (take i xs) ≡ i = length-take-le i xs (omega arith) in
    let lb = built_length f [] (take i xs) in
    let kk : k < length (built f [] (take i xs)) = omega arith in
    sym (ap (λ z. get_or (built f [] z) k d) (sym (take-append-drop i xs)) ∙ (ap (λ z. get_or z k d) (built_append f [] (take i xs) (drop i xs)) ∙ built_keeps f (built f [] (take i xs)) (drop i xs) d k kk)))

pub built_old : {A B : Type 0} (f : List B → A → B) (xs ys : List A) (d : B) (i : ℕ) → i < length xs → get_or (built f [] (xs ++ ys)) i d ≡ get_or (built f [] xs) i d
built_old f xs ys d i h =
    ap (λ z. get_or z i d) (built_append f [] xs ys) ∙ built_keeps f (built f [] xs) ys d i (omega (arith, built_length f [] xs))

-- a shape means the same where its parts do
pub run_local : (ns : List Name) (ts us : List Ty) (w b at : ℕ) (fs : List Field) → Rising w b at fs → ((k : ℕ) → k < b → get_or ts k a_unit ≡ get_or us k a_unit) → run ns ts fs ≡ run ns us fs
unfolding run Rising
run_local ns ts us w b at [] r h = refl
run_local ns ts us w b at (f ∷ fs) r h = ap₂ (λ (t : Ty) (z : Tys). ty (get_or ns f.name []) t z) (h f.of r.2) (run_local ns ts us w b (suc f.name) fs r.3 h)

pub meaning_local : (ns : List Name) (ts us : List Ty) (w b : ℕ) (s : Shape) → Below w b s → ((k : ℕ) → k < b → get_or ts k a_unit ≡ get_or us k a_unit) → meaning ns ts s ≡ meaning ns us s
unfolding meaning Below
meaning_local ns ts us w b s_unit l h = refl
meaning_local ns ts us w b s_num l h = refl
meaning_local ns ts us w b s_truth l h = refl
meaning_local ns ts us w b s_text l h = refl
meaning_local ns ts us w b (s_bag j) l h = ap a_bag (h j l)
meaning_local ns ts us w b (s_either j k) l h = ap₂ an_either (h j l.0) (h k l.1)
meaning_local ns ts us w b (s_rec fs) l h = ap a_rec (run_local ns ts us w b 0 fs l h)

-- a type by the shape at its number
pub type_is : (ns : List Name) {w : ℕ} {ss : List Shape} → Good w ss → (i : ℕ) → i < length ss → type_at ns ss i ≡ meaning ns (types ns ss) (get_or ss i s_unit)
type_is ns {w} {ss} g i h = built_at (meaning ns) ss a_unit s_unit i h (λ ts us l. meaning_local ns ts us w i (get_or ss i s_unit) (g.parts i h) l)

-- what there was means what it meant
pub type_kept : (ns : List Name) {old new : List Shape} → Grown old new → (i : ℕ) → i < length old → type_at ns new i ≡ type_at ns old i
type_kept ns {old} {new} g i h = ap (λ z. type_at ns z i) g.is ∙ built_old (meaning ns) old g.more a_unit i h
