-- What a field is in a record with one put in, and in two records joined.
use mathlib.Core.Path.{◌≡◌, refl, sym, ◌∙◌}
use mathlib.Core.Bool.{Bool, true, false}
use mathlib.Core.List.{List, [], ◌∷◌}
use Prim.Native.Nat.{ℕ}
use native.Mathlib.Omega.{arith}
use Rattle.query.specs.Data.{pick, same_text, less_text, Name, Data, Fields, get, put, both, after_name, in_order, no_field, field}
use Rattle.query.proofs.Tests.{and_l, and_r}
use Rattle.query.proofs.Texts.{same_text_true, less_trans, less_differs}

pick_pick : (b : Bool) (x y z : List Data) → pick b x z ≡ pick b x (pick b y z)
unfolding pick
pick_pick true x y z = refl
pick_pick false x y z = refl

pub differs : (a n m : Name) → same_text n m ≡ false → same_text a m ≡ true → same_text a n ≡ false
differs a n m p q = by (same_text a n) refl
  where
    by : (b : Bool) → same_text a n ≡ b → b ≡ false
    by true e = sym q ∙ rw (same_text_true a n e) p
    by false e = refl

-- a field of a record with one put in
get_put : (a n : Name) (d : Data) (fs : Fields) → get a (put n d fs) ≡ pick (same_text a n) (d ∷ []) (get a fs)
unfolding get put pick
get_put a n d no_field = refl
get_put a n d (field m e fs) = by (same_text n m) refl (less_text n m) (same_text a m) refl (get_put a n d fs)
  where
    by : (b : Bool) → same_text n m ≡ b → (c : Bool) (x : Bool) → same_text a m ≡ x → get a (put n d fs) ≡ pick (same_text a n) (d ∷ []) (get a fs) →
        get a (pick b (field n d fs) (pick c (field n d (field m e fs)) (field m e (put n d fs)))) ≡ pick (same_text a n) (d ∷ []) (get a (field m e fs))
    by true p c x q ih = rw (same_text_true n m p) (pick_pick (same_text a m) (d ∷ []) (e ∷ []) (get a fs))
    by false p true x q ih = refl
    by false p false true q ih = rw (q, differs a n m p q)
    by false p false false q ih = rw q ih

pub get_both_none : (a : Name) (fs gs : Fields) → get a gs ≡ [] → get a (both fs gs) ≡ get a fs
unfolding get both pick
get_both_none a fs no_field h = refl
get_both_none a fs (field n d gs) h = by (same_text a n) refl h (get_both_none a (put n d fs) gs)
  where
    by : (b : Bool) → same_text a n ≡ b → pick b (d ∷ []) (get a gs) ≡ [] → (get a gs ≡ [] → get a (both (put n d fs) gs) ≡ get a (put n d fs)) → get a (both (put n d fs) gs) ≡ get a fs
    by true p q ih = let z : ◌≡◌ {A = ℕ} 0 1 = cc in absurd (omega arith)
    by false p q ih = ih q ∙ (get_put a n d fs ∙ rw p)

not_after : (a : Name) (gs : Fields) → after_name a gs ≡ true → in_order gs ≡ true → get a gs ≡ []
unfolding get in_order after_name pick
not_after a no_field h k = refl
not_after a (field b d gs) h k =
    rw (less_differs a b h) (not_after a gs (further gs (and_l (after_name b gs) (in_order gs) k)) (and_r (after_name b gs) (in_order gs) k))
  where
    further : (hs : Fields) → after_name b hs ≡ true → after_name a hs ≡ true
    further no_field l = refl
    further (field c e hs) l = less_trans a b c h l

pub get_both_some : (a : Name) (fs gs : Fields) (x : Data) (l : List Data) → in_order gs ≡ true → get a gs ≡ x ∷ l → get a (both fs gs) ≡ get a gs
unfolding get both in_order pick
get_both_some a fs no_field x l o h = let z : ◌≡◌ {A = ℕ} 0 1 = cc in absurd (omega arith)
get_both_some a fs (field n d gs) x l o h = by (same_text a n) refl h (get_both_some a (put n d fs) gs x l (and_r (after_name n gs) (in_order gs) o))
  where
    by : (b : Bool) → same_text a n ≡ b → pick b (d ∷ []) (get a gs) ≡ x ∷ l → (get a gs ≡ x ∷ l → get a (both (put n d fs) gs) ≡ get a gs) → get a (both (put n d fs) gs) ≡ pick b (d ∷ []) (get a gs)
    by true p q ih =
        let away : get a gs ≡ [] = rw (same_text_true a n p) (not_after n gs (and_l (after_name n gs) (in_order gs) o) (and_r (after_name n gs) (in_order gs) o)) in
        get_both_none a (put n d fs) gs away ∙ (get_put a n d fs ∙ rw p)
    by false p q ih = ih q
