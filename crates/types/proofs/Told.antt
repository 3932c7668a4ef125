-- One number for each type, one type for each number. Assumes nothing.
use Rattle.std.proofs.Common.{◌≡◌, ℕ, zero, suc, ◌<◌, not, T, eqb, List, [], ◌∷◌, length, get_or, sym, refl, ap, ◌∙◌, ap₂, arith}
use Rattle.query.specs.Data.{Name, same_text}
use Rattle.query.specs.Query.{Ty, a_unit, a_num, a_truth, a_text, a_bag, a_rec, an_either}
use Rattle.query.proofs.Tests.{eqb_true}
use Rattle.query.proofs.Texts.{same_text_self}
use Rattle.types.specs.Shapes.{Shape, s_unit, s_num, s_truth, s_text, s_bag, s_either, s_rec, run, meaning, types, type_at, Ranked, Rising, Below, Good}
use Rattle.types.specs.declared.entry.Field.{Field}
use Rattle.types.proofs.Built.{type_is}

abbrev kind : Ty → ℕ
kind a_unit = 0
kind a_num = 1
kind a_truth = 2
kind a_text = 3
kind (a_bag t) = 4
kind (a_rec ts) = 5
kind (an_either t u) = 6

clash : (t u : Ty) → T (not (eqb (kind t) (kind u))) → t ≡ u → ⊥
clash t u n h = let e : kind t ≡ kind u = ap kind h in grind arith

pub name_told : {ns : List Name} {w : ℕ} → Ranked ns w → (i j : ℕ) → i < w → j < w → get_or ns i [] ≡ get_or ns j [] → i ≡ j
name_told {ns} {w} r i j h l e =
    eqb_true i j (sym (r.same i j h l) ∙ (ap (λ (z : Name). same_text (get_or ns i []) z) (sym e) ∙ same_text_self (get_or ns i [])))

run_told : (ns : List Name) (w : ℕ) → Ranked ns w → (ts : List Ty) (b c p q : ℕ) (fs gs : List Field) → Rising w b p fs → Rising w c q gs
    → ((k l : ℕ) → k < b → l < c → get_or ts k a_unit ≡ get_or ts l a_unit → k ≡ l) → run ns ts fs ≡ run ns ts gs → fs ≡ gs
unfolding run Rising
run_told ns w rk ts b c p q [] [] r s inj h = refl
run_told ns w rk ts b c p q [] (g ∷ gs) r s inj h = absurd cc
run_told ns w rk ts b c p q (f ∷ fs) [] r s inj h = absurd cc
run_told ns w rk ts b c p q (f ∷ fs) (g ∷ gs) r s inj h =
    let en : get_or ns f.name [] ≡ get_or ns g.name [] = cc in
    let et : get_or ts f.of a_unit ≡ get_or ts g.of a_unit = cc in
    let er : run ns ts fs ≡ run ns ts gs = cc in
    let a : f.name ≡ g.name = name_told rk f.name g.name r.1 s.1 en in
    let o : f.of ≡ g.of = inj f.of g.of r.2 s.2 et in
    let m : fs ≡ gs = run_told ns w rk ts b c (suc f.name) (suc g.name) fs gs r.3 s.3 inj er in
    let e : ◌≡◌ {A = Field} f g = λ i. record { name = a i; of = o i } in
    ap₂ (λ (x : Field) (z : List Field). x ∷ z) e m

shape_told : (ns : List Name) (w : ℕ) → Ranked ns w → (ts : List Ty) (b c : ℕ) (s t : Shape) → Below w b s → Below w c t
    → ((k l : ℕ) → k < b → l < c → get_or ts k a_unit ≡ get_or ts l a_unit → k ≡ l) → meaning ns ts s ≡ meaning ns ts t → s ≡ t
unfolding meaning Below
shape_told ns w rk ts b c s_unit s_unit p q inj h = refl
shape_told ns w rk ts b c s_unit s_num p q inj h = absurd (clash _ _ tt h)
shape_told ns w rk ts b c s_unit s_truth p q inj h = absurd (clash _ _ tt h)
shape_told ns w rk ts b c s_unit s_text p q inj h = absurd (clash _ _ tt h)
shape_told ns w rk ts b c s_unit (s_bag j') p q inj h = absurd (clash _ _ tt h)
shape_told ns w rk ts b c s_unit (s_either j' k') p q inj h = absurd (clash _ _ tt h)
shape_told ns w rk ts b c s_unit (s_rec fs') p q inj h = absurd (clash _ _ tt h)
shape_told ns w rk ts b c s_num s_unit p q inj h = absurd (clash _ _ tt h)
shape_told ns w rk ts b c s_num s_num p q inj h = refl
shape_told ns w rk ts b c s_num s_truth p q inj h = absurd (clash _ _ tt h)
shape_told ns w rk ts b c s_num s_text p q inj h = absurd (clash _ _ tt h)
shape_told ns w rk ts b c s_num (s_bag j') p q inj h = absurd (clash _ _ tt h)
shape_told ns w rk ts b c s_num (s_either j' k') p q inj h = absurd (clash _ _ tt h)
shape_told ns w rk ts b c s_num (s_rec fs') p q inj h = absurd (clash _ _ tt h)
shape_told ns w rk ts b c s_truth s_unit p q inj h = absurd (clash _ _ tt h)
shape_told ns w rk ts b c s_truth s_num p q inj h = absurd (clash _ _ tt h)
shape_told ns w rk ts b c s_truth s_truth p q inj h = refl
shape_told ns w rk ts b c s_truth s_text p q inj h = absurd (clash _ _ tt h)
shape_told ns w rk ts b c s_truth (s_bag j') p q inj h = absurd (clash _ _ tt h)
shape_told ns w rk ts b c s_truth (s_either j' k') p q inj h = absurd (clash _ _ tt h)
shape_told ns w rk ts b c s_truth (s_rec fs') p q inj h = absurd (clash _ _ tt h)
shape_told ns w rk ts b c s_text s_unit p q inj h = absurd (clash _ _ tt h)
shape_told ns w rk ts b c s_text s_num p q inj h = absurd (clash _ _ tt h)
shape_told ns w rk ts b c s_text s_truth p q inj h = absurd (clash _ _ tt h)
shape_told ns w rk ts b c s_text s_text p q inj h = refl
shape_told ns w rk ts b c s_text (s_bag j') p q inj h = absurd (clash _ _ tt h)
shape_told ns w rk ts b c s_text (s_either j' k') p q inj h = absurd (clash _ _ tt h)
shape_told ns w rk ts b c s_text (s_rec fs') p q inj h = absurd (clash _ _ tt h)
shape_told ns w rk ts b c (s_bag j) s_unit p q inj h = absurd (clash _ _ tt h)
shape_told ns w rk ts b c (s_bag j) s_num p q inj h = absurd (clash _ _ tt h)
shape_told ns w rk ts b c (s_bag j) s_truth p q inj h = absurd (clash _ _ tt h)
shape_told ns w rk ts b c (s_bag j) s_text p q inj h = absurd (clash _ _ tt h)
shape_told ns w rk ts b c (s_bag j) (s_bag j') p q inj h = let e : get_or ts j a_unit ≡ get_or ts j' a_unit = cc in ap s_bag (inj j j' p q e)
shape_told ns w rk ts b c (s_bag j) (s_either j' k') p q inj h = absurd (clash _ _ tt h)
shape_told ns w rk ts b c (s_bag j) (s_rec fs') p q inj h = absurd (clash _ _ tt h)
shape_told ns w rk ts b c (s_either j k) s_unit p q inj h = absurd (clash _ _ tt h)
shape_told ns w rk ts b c (s_either j k) s_num p q inj h = absurd (clash _ _ tt h)
shape_told ns w rk ts b c (s_either j k) s_truth p q inj h = absurd (clash _ _ tt h)
shape_told ns w rk ts b c (s_either j k) s_text p q inj h = absurd (clash _ _ tt h)
shape_told ns w rk ts b c (s_either j k) (s_bag j') p q inj h = absurd (clash _ _ tt h)
shape_told ns w rk ts b c (s_either j k) (s_either j' k') p q inj h = let e : get_or ts j a_unit ≡ get_or ts j' a_unit = cc in let f : get_or ts k a_unit ≡ get_or ts k' a_unit = cc in ap₂ s_either (inj j j' p.0 q.0 e) (inj k k' p.1 q.1 f)
shape_told ns w rk ts b c (s_either j k) (s_rec fs') p q inj h = absurd (clash _ _ tt h)
shape_told ns w rk ts b c (s_rec fs) s_unit p q inj h = absurd (clash _ _ tt h)
shape_told ns w rk ts b c (s_rec fs) s_num p q inj h = absurd (clash _ _ tt h)
shape_told ns w rk ts b c (s_rec fs) s_truth p q inj h = absurd (clash _ _ tt h)
shape_told ns w rk ts b c (s_rec fs) s_text p q inj h = absurd (clash _ _ tt h)
shape_told ns w rk ts b c (s_rec fs) (s_bag j') p q inj h = absurd (clash _ _ tt h)
shape_told ns w rk ts b c (s_rec fs) (s_either j' k') p q inj h = absurd (clash _ _ tt h)
shape_told ns w rk ts b c (s_rec fs) (s_rec fs') p q inj h = let e : run ns ts fs ≡ run ns ts fs' = cc in ap s_rec (run_told ns w rk ts b c 0 0 fs fs' p q inj e)

told : {ns : List Name} {w : ℕ} → Ranked ns w → {ss : List Shape} → Good w ss → (n i j : ℕ) → i < n → i < length ss → j < length ss → type_at ns ss i ≡ type_at ns ss j → i ≡ j
told rk g zero i j n h l e = absurd (omega arith)
told {ns} {w} rk {ss} g (suc n) i j m h l e =
    g.once i j h l (shape_told ns w rk (types ns ss) i j (get_or ss i s_unit) (get_or ss j s_unit) (g.parts i h) (g.parts j l)
    (λ k k' x y. told rk g n k k' (omega arith) (omega arith) (omega arith))
    (sym (type_is ns g i h) ∙ (e ∙ type_is ns g j l)))

-- two numbers of one type are equal
pub one_number : {ns : List Name} {w : ℕ} → Ranked ns w → {ss : List Shape} → Good w ss → (i j : ℕ) → i < length ss → j < length ss → type_at ns ss i ≡ type_at ns ss j → i ≡ j
one_number {ns} {w} rk {ss} g i j h l e = told rk g (suc i) i j (omega arith) h l e
