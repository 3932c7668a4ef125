-- A table with one more shape, or none. Assumes nothing.
use Rattle.std.proofs.Common.{◌≡◌, ℕ, zero, suc, ◌+◌, ◌-◌, ◌<◌, ◌≤◌, Bool, true, false, ◌⊎◌, List, [], ◌∷◌, ◌++◌, length, get_or, take, drop, Some, None, sym, refl, ap, ◌∙◌, subst, inl, inr, arith}
use Rattle.std.proofs.lemmas.List.{length-append, length-drop, length-take-le, get_or_append_left, get_or_at, append-nil, ext_get_or, take_all, take-take, drop-take}
use Rattle.std.specs.Bool.{Decides}
use Rattle.types.specs.Shapes.{Shape, s_unit, s_rec, shape, held, shapes, Rising, Below, Good, Grown}
use Rattle.types.specs.Tables.{Lies, Sound, Made, Found, Tells}
use Rattle.types.specs.declared.entry.Run.{Run}
use Rattle.types.specs.declared.entry.Two.{Two}
use Rattle.types.specs.declared.entry.Field.{Field}
use Rattle.types.specs.declared.entry.Entry.{Entry}
use Rattle.types.specs.declared.entry.Entry.TheVariants.{Unit as Unit', Num, Truth, Text, Bag, Either, Record}

pub shapes_length : (fs : List Field) (es : List Entry) → length (shapes fs es) ≡ length es
unfolding shapes
shapes_length fs [] = refl
shapes_length fs (e ∷ es) = ap suc (shapes_length fs es)

pub shapes_at : (fs : List Field) (es : List Entry) (i : ℕ) → get_or (shapes fs es) i s_unit ≡ shape fs (get_or es i Unit')
unfolding shapes
shapes_at fs [] i = refl
shapes_at fs (e ∷ es) zero = refl
shapes_at fs (e ∷ es) (suc i) = shapes_at fs es i

pub shapes_append : (fs : List Field) (es xs : List Entry) → shapes fs (es ++ xs) ≡ shapes fs es ++ shapes fs xs
unfolding shapes
shapes_append fs [] xs = refl
shapes_append fs (e ∷ es) xs = ap (λ (z : List Shape). shape fs e ∷ z) (shapes_append fs es xs)

front : (fs : List Field) (n s k : ℕ) → s + k ≤ n → take k (drop s (take n fs)) ≡ take k (drop s fs)
front fs n s k h =
    let e : s + (n - s) ≡ n = omega arith in
    ap (λ z. take k (drop s (take z fs))) (sym e) ∙ (ap (λ (z : List Field). take k z) (drop-take s (n - s) fs) ∙ take-take k (n - s) (drop s fs) (omega arith))

pub shape_front : (fs : List Field) (n : ℕ) (e : Entry) → Lies n e → shape (take n fs) e ≡ shape fs e
shape_front fs n Unit' l = refl
shape_front fs n Num l = refl
shape_front fs n Truth l = refl
shape_front fs n Text l = refl
shape_front fs n (Bag j) l = refl
shape_front fs n (Either p) l = refl
shape_front fs n (Record p) l = ap s_rec (front fs n p.start p.count l)

pub lies_more : (m n : ℕ) (e : Entry) → m ≤ n → Lies m e → Lies n e
lies_more m n Unit' h l = tt
lies_more m n Num h l = tt
lies_more m n Truth h l = tt
lies_more m n Text h l = tt
lies_more m n (Bag j) h l = tt
lies_more m n (Either p) h l = tt
lies_more m n (Record p) h l = omega arith

pub shapes_front : (fs : List Field) (n : ℕ) (es : List Entry) → ((i : ℕ) → i < length es → Lies n (get_or es i Unit')) → shapes (take n fs) es ≡ shapes fs es
shapes_front fs n es h =
    ext_get_or s_unit (shapes (take n fs) es) (shapes fs es) (shapes_length (take n fs) es ∙ sym (shapes_length fs es))
    (λ i l. shapes_at (take n fs) es i ∙ (shape_front fs n (get_or es i Unit') (h i (omega (arith, shapes_length (take n fs) es))) ∙ sym (shapes_at fs es i)))

-- the last of a list is new, the others are old
last_or : (n i : ℕ) → i < n + 1 → (i < n) ⊎ (n ≡ i)
last_or n i h = grind arith

good_more : {w : ℕ} {ss : List Shape} (s : Shape) → Good w ss → Below w (length ss) s → ((i : ℕ) → i < length ss → get_or ss i s_unit ≡ s → ⊥) → Good w (ss ++ (s ∷ []))
good_more {w} {ss} s g b f =
    let l : length (ss ++ (s ∷ [])) ≡ length ss + 1 = length-append ss (s ∷ []) in
    let old : (i : ℕ) → i < length ss → get_or (ss ++ (s ∷ [])) i s_unit ≡ get_or ss i s_unit = λ i h. get_or_append_left ss (s ∷ []) s_unit i h in
    let new : (i : ℕ) → length ss ≡ i → get_or (ss ++ (s ∷ [])) i s_unit ≡ s = λ i h. get_or_at ss s [] s_unit i h in
    record {
      parts = λ i h. elim (last_or (length ss) i (omega arith)) [
        | inl o ↦ subst (λ z. Below w i z) (sym (old i o)) (g.parts i o)
        | inr n ↦ subst (λ z. Below w i z) (sym (new i n)) (subst (λ z. Below w z s) n b)
      ];
      once = λ i j h k e. elim (last_or (length ss) i (omega arith)) [
        | inl o ↦ elim (last_or (length ss) j (omega arith)) [
          | inl p ↦ g.once i j o p (sym (old i o) ∙ (e ∙ old j p))
          | inr p ↦ absurd (f i o (sym (old i o) ∙ (e ∙ new j p)))
        ]
        | inr n ↦ elim (last_or (length ss) j (omega arith)) [
          | inl p ↦ absurd (f j p (sym (old j p) ∙ (sym e ∙ new i n)))
          | inr p ↦ sym n ∙ p
        ]
      ];
    }

sound_more : (w : ℕ) (es : List Entry) (fs : List Field) (e : Entry) → Sound w es fs → Lies (length fs) e → Below w (length es) (shape fs e) → Found fs es e None → Sound w (es ++ (e ∷ [])) fs
unfolding shapes
sound_more w es fs e s l b f =
    let len : length (es ++ (e ∷ [])) ≡ length es + 1 = length-append es (e ∷ []) in
    record {
      lies = λ i h. elim (last_or (length es) i (omega arith)) [
        | inl o ↦ subst (λ z. Lies (length fs) z) (sym (get_or_append_left es (e ∷ []) Unit' i o)) (s.lies i o)
        | inr n ↦ subst (λ z. Lies (length fs) z) (sym (get_or_at es e [] Unit' i n)) l
      ];
      good = subst (λ z. Good w z) (sym (shapes_append fs es (e ∷ [])))
          (good_more (shape fs e) s.good (subst (λ z. Below w z (shape fs e)) (sym (shapes_length fs es)) b)
          (λ i h q. f i (omega (arith, shapes_length fs es)) (sym (shapes_at fs es i) ∙ q)));
    }

pub grown_none : {ss : List Shape} → Grown ss ss
grown_none {ss} = record { more = []; is = sym (append-nil ss) }

-- there was such a shape
pub made_old : (w : ℕ) (es : List Entry) (fs : List Field) (s : Shape) (i : ℕ) → Sound w es fs → i < length es → shape fs (get_or es i Unit') ≡ s → Made w es fs es fs s 0 i
made_old w es fs s i sd h q = record { sound = sd; grown = grown_none; here = h; is = shapes_at fs es i ∙ q; few = omega arith; slim = omega arith }

-- there was none
pub made_new : (w : ℕ) (es : List Entry) (fs : List Field) (e : Entry) → Sound w es fs → Lies (length fs) e → Below w (length es) (shape fs e) → Found fs es e None
    → Made w es fs (es ++ (e ∷ [])) fs (shape fs e) 0 (length es)
unfolding shapes
made_new w es fs e s l b f = record {
  sound = sound_more w es fs e s l b f;
  grown = record { more = shape fs e ∷ []; is = shapes_append fs es (e ∷ []) };
  here = omega (arith, length-append es (e ∷ []));
  is = shapes_at fs (es ++ (e ∷ [])) (length es) ∙ ap (λ z. shape fs z) (get_or_at es e [] Unit' (length es) refl);
  few = omega (arith, length-append es (e ∷ []));
  slim = omega arith;
}

-- more fields than are used
pub sound_wide : (w : ℕ) (es : List Entry) (fs : List Field) (n : ℕ) → n ≤ length fs → Sound w es (take n fs) → Sound w es fs
sound_wide w es fs n h s =
    let l : length (take n fs) ≡ n = length-take-le n fs h in
    record {
      lies = λ i k. lies_more (length (take n fs)) (length fs) (get_or es i Unit') (omega arith) (s.lies i k);
      good = subst (λ z. Good w z) (shapes_front fs n es (λ i k. subst (λ z. Lies z (get_or es i Unit')) l (s.lies i k))) s.good;
    }

pub wide_same : (w : ℕ) (es : List Entry) (fs : List Field) (n : ℕ) → n ≤ length fs → Sound w es (take n fs) → shapes (take n fs) es ≡ shapes fs es
wide_same w es fs n h s = shapes_front fs n es (λ i k. subst (λ z. Lies z (get_or es i Unit')) (length-take-le n fs h) (s.lies i k))

whole : (fs : List Field) (n : ℕ) → n ≤ length fs → take (length fs - n) (drop n fs) ≡ drop n fs
whole fs n h = take_all (length fs - n) (drop n fs) (omega (arith, length-drop n fs))

pub sealed_old : (w : ℕ) (es : List Entry) (fs gs : List Field) (n i : ℕ) → n ≤ length fs → Sound w es (take n fs) → gs ≡ take n fs → Found fs es (Record (record { start = n; count = length fs - n })) (Some i)
    → Made w es (take n fs) es gs (s_rec (drop n fs)) (length fs - n) i
sealed_old w es fs gs n i h s q f =
    let m = made_old w es (take n fs) (s_rec (drop n fs)) i s f.0
    (shape_front fs n (get_or es i Unit') (subst (λ z. Lies z (get_or es i Unit')) (length-take-le n fs h) (s.lies i f.0)) ∙ (f.1 ∙ ap s_rec (whole fs n h))) in
    subst (λ z. Made w es (take n fs) es z (s_rec (drop n fs)) (length fs - n) i) (sym q)
    (record { sound = m.sound; grown = m.grown; here = m.here; is = m.is; few = m.few; slim = omega arith })

pub sealed_new : (w : ℕ) (es : List Entry) (fs : List Field) (n : ℕ) → n ≤ length fs → Sound w es (take n fs) → Rising w (length es) 0 (drop n fs) → Found fs es (Record (record { start = n; count = length fs - n })) None
    → Made w es (take n fs) (es ++ (Record (record { start = n; count = length fs - n }) ∷ [])) fs (s_rec (drop n fs)) (length fs - n) (length es)
unfolding Below
sealed_new w es fs n h s r f =
    let sw = sound_wide w es fs n h s in
    let m = made_new w es fs (Record (record { start = n; count = length fs - n })) sw (omega arith) (subst (λ z. Rising w (length es) 0 z) (sym (whole fs n h)) r) f in
    record {
      sound = m.sound;
      grown = subst (λ z. Grown z (shapes fs (es ++ (Record (record { start = n; count = length fs - n }) ∷ [])))) (sym (wide_same w es fs n h s)) m.grown;
      here = m.here;
      is = m.is ∙ ap s_rec (whole fs n h);
      few = m.few;
      slim = omega (arith, length-take-le n fs h);
    }

pub made_push : (w : ℕ) (es xs : List Entry) (fs : List Field) (e : Entry) (r : ℕ) → Sound w es fs → Lies (length fs) e → Below w (length es) (shape fs e) → Found fs es e None → xs ≡ es ++ (e ∷ []) → r ≡ length es
    → Made w es fs xs fs (shape fs e) 0 r
made_push w es xs fs e r s l b f q n =
    subst (λ z. Made w es fs z fs (shape fs e) 0 r) (sym q) (subst (λ z. Made w es fs (es ++ (e ∷ [])) fs (shape fs e) 0 z) (sym n) (made_new w es fs e s l b f))

pub sealed_push : (w : ℕ) (es xs : List Entry) (fs : List Field) (n r k : ℕ) → n ≤ length fs → Sound w es (take n fs) → Rising w (length es) 0 (drop n fs) → k ≡ length fs - n → Found fs es (Record (record { start = n; count = k })) None → xs ≡ es ++ (Record (record { start = n; count = k }) ∷ []) → r ≡ length es
    → Made w es (take n fs) xs fs (s_rec (drop n fs)) (length fs - n) r
sealed_push w es xs fs n r k h s b e f q m =
    subst (λ z. Made w es (take n fs) z fs (s_rec (drop n fs)) (length fs - n) r) (sym (q ∙ ap (λ z. es ++ (Record (record { start = n; count = z }) ∷ [])) e))
    (subst (λ z. Made w es (take n fs) (es ++ (Record (record { start = n; count = length fs - n }) ∷ [])) fs (s_rec (drop n fs)) (length fs - n) z) (sym m)
    (sealed_new w es fs n h s b (subst (λ z. Found fs es (Record (record { start = n; count = z })) None) e f)))

pub sealed_cut : (w : ℕ) (es : List Entry) (fs gs : List Field) (n i k : ℕ) → n ≤ length fs → Sound w es (take n fs) → gs ≡ take n fs → k ≡ length fs - n → Found fs es (Record (record { start = n; count = k })) (Some i)
    → Made w es (take n fs) es gs (s_rec (drop n fs)) (length fs - n) i
sealed_cut w es fs gs n i k h s q e f = sealed_old w es fs gs n i h s q (subst (λ z. Found fs es (Record (record { start = n; count = z })) (Some i)) e f)

-- the parts of each type stand before it
pub sound_part : (w : ℕ) (es : List Entry) (fs : List Field) (i : ℕ) → Sound w es fs → i < length es → Below w i (shape fs (get_or es i Unit'))
sound_part w es fs i s h = subst (λ z. Below w i z) (shapes_at fs es i) (s.good.parts i (omega (arith, h, shapes_length fs es)))

pub bag_after : (w n : ℕ) (fs : List Field) (e : Entry) (j : ℕ) → e ≡ Bag j → Below w n (shape fs e) → j < n
unfolding Below
bag_after w n fs e j q b = subst (λ (x : Entry). Below w n (shape fs x)) q b

pub either_after : (w n : ℕ) (fs : List Field) (e : Entry) (p : Two) → e ≡ Either p → Below w n (shape fs e) → (p.left < n) × (p.right < n)
unfolding Below
either_after w n fs e p q b = subst (λ (x : Entry). Below w n (shape fs x)) q b

-- what decides tells
pub told_by : {P : Type 0} (r : Bool) → Decides r P → Tells r P
told_by true d = d.0 refl
told_by false d = λ p. let z : ◌≡◌ {A = Bool} false true = d.1 p in cc

-- a table of no types
pub sound_none : (w : ℕ) (es : List Entry) (fs : List Field) → es ≡ [] → Sound w es fs
unfolding shapes
sound_none w es fs e = subst (λ z. Sound w z fs) (sym e) (record { lies = λ i h. absurd (omega arith); good = record { parts = λ i h. absurd (omega arith); once = λ i j h k q. absurd (omega arith) } })
