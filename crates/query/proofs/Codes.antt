-- No two types have the same numbers.
use mathlib.Core.Path.{◌≡◌, refl, sym, ◌∙◌, ap, ap₂}
use mathlib.Core.Bool.{not}
use mathlib.Core.List.{List, [], ◌∷◌, ◌++◌, append_assoc}
use Prim.Native.Nat.{ℕ}
use native.Mathlib.Omega.{arith}
use lib.Dec.{eqb, T}
use lib.ListN.{length}
use Rattle.query.specs.Query.{Ty, Tys, a_unit, a_num, a_truth, a_text, a_bag, a_rec, an_either, no_ty, ty}
use Rattle.query.specs.Types.{text_code, code, codes}
use Rattle.query.specs.Laws.{CodeTells}

off : (a b : ℕ) (x y : List ℕ) → T (not (eqb a b)) → a ∷ x ≡ b ∷ y → ⊥
off a b x y t h = let e : a ≡ b = cc in grind arith

rest : (a b : ℕ) (x y : List ℕ) → a ∷ x ≡ b ∷ y → x ≡ y
rest a b x y h = cc

split : (m n r s : List ℕ) → length m ≡ length n → m ++ r ≡ n ++ s → (m ≡ n) × (r ≡ s)
split [] [] r s l h = (refl, h)
split [] (y ∷ n) r s l h = absurd (omega arith)
split (x ∷ m) [] r s l h = absurd (omega arith)
split (x ∷ m) (y ∷ n) r s l h =
    let k : x ≡ y = cc in
    let t = split m n r s (omega arith) (rest x y (m ++ r) (n ++ s) h) in
    (ap₂ (λ (a : ℕ) (c : List ℕ). a ∷ c) k t.0, t.1)

text_tells : (m n r s : List ℕ) → text_code m ++ r ≡ text_code n ++ s → (m ≡ n) × (r ≡ s)
unfolding text_code
text_tells m n r s h = let l : length m ≡ length n = cc in split m n r s l (rest (length m) (length n) (m ++ r) (n ++ s) h)

mutual
  unfolding code codes

  tells : (t u : Ty) (r s : List ℕ) → code t ++ r ≡ code u ++ s → (t ≡ u) × (r ≡ s)
  tells a_unit a_unit r s h = (refl, rest 0 0 r s h)
  tells a_unit a_num r s h = absurd (off 0 1 _ _ tt h)
  tells a_unit a_truth r s h = absurd (off 0 2 _ _ tt h)
  tells a_unit a_text r s h = absurd (off 0 3 _ _ tt h)
  tells a_unit (a_bag t') r s h = absurd (off 0 4 _ _ tt h)
  tells a_unit (a_rec ts') r s h = absurd (off 0 5 _ _ tt h)
  tells a_unit (an_either t' u') r s h = absurd (off 0 6 _ _ tt h)
  tells a_num a_unit r s h = absurd (off 1 0 _ _ tt h)
  tells a_num a_num r s h = (refl, rest 1 1 r s h)
  tells a_num a_truth r s h = absurd (off 1 2 _ _ tt h)
  tells a_num a_text r s h = absurd (off 1 3 _ _ tt h)
  tells a_num (a_bag t') r s h = absurd (off 1 4 _ _ tt h)
  tells a_num (a_rec ts') r s h = absurd (off 1 5 _ _ tt h)
  tells a_num (an_either t' u') r s h = absurd (off 1 6 _ _ tt h)
  tells a_truth a_unit r s h = absurd (off 2 0 _ _ tt h)
  tells a_truth a_num r s h = absurd (off 2 1 _ _ tt h)
  tells a_truth a_truth r s h = (refl, rest 2 2 r s h)
  tells a_truth a_text r s h = absurd (off 2 3 _ _ tt h)
  tells a_truth (a_bag t') r s h = absurd (off 2 4 _ _ tt h)
  tells a_truth (a_rec ts') r s h = absurd (off 2 5 _ _ tt h)
  tells a_truth (an_either t' u') r s h = absurd (off 2 6 _ _ tt h)
  tells a_text a_unit r s h = absurd (off 3 0 _ _ tt h)
  tells a_text a_num r s h = absurd (off 3 1 _ _ tt h)
  tells a_text a_truth r s h = absurd (off 3 2 _ _ tt h)
  tells a_text a_text r s h = (refl, rest 3 3 r s h)
  tells a_text (a_bag t') r s h = absurd (off 3 4 _ _ tt h)
  tells a_text (a_rec ts') r s h = absurd (off 3 5 _ _ tt h)
  tells a_text (an_either t' u') r s h = absurd (off 3 6 _ _ tt h)
  tells (a_bag t) a_unit r s h = absurd (off 4 0 _ _ tt h)
  tells (a_bag t) a_num r s h = absurd (off 4 1 _ _ tt h)
  tells (a_bag t) a_truth r s h = absurd (off 4 2 _ _ tt h)
  tells (a_bag t) a_text r s h = absurd (off 4 3 _ _ tt h)
  tells (a_bag t) (a_bag t') r s h = let k = tells t t' r s (rest 4 4 (code t ++ r) (code t' ++ s) h) in (ap a_bag k.0, k.1)
  tells (a_bag t) (a_rec ts') r s h = absurd (off 4 5 _ _ tt h)
  tells (a_bag t) (an_either t' u') r s h = absurd (off 4 6 _ _ tt h)
  tells (a_rec ts) a_unit r s h = absurd (off 5 0 _ _ tt h)
  tells (a_rec ts) a_num r s h = absurd (off 5 1 _ _ tt h)
  tells (a_rec ts) a_truth r s h = absurd (off 5 2 _ _ tt h)
  tells (a_rec ts) a_text r s h = absurd (off 5 3 _ _ tt h)
  tells (a_rec ts) (a_bag t') r s h = absurd (off 5 4 _ _ tt h)
  tells (a_rec ts) (a_rec ts') r s h = let k = tells_all ts ts' r s (rest 5 5 (codes ts ++ r) (codes ts' ++ s) h) in (ap a_rec k.0, k.1)
  tells (a_rec ts) (an_either t' u') r s h = absurd (off 5 6 _ _ tt h)
  tells (an_either t u) a_unit r s h = absurd (off 6 0 _ _ tt h)
  tells (an_either t u) a_num r s h = absurd (off 6 1 _ _ tt h)
  tells (an_either t u) a_truth r s h = absurd (off 6 2 _ _ tt h)
  tells (an_either t u) a_text r s h = absurd (off 6 3 _ _ tt h)
  tells (an_either t u) (a_bag t') r s h = absurd (off 6 4 _ _ tt h)
  tells (an_either t u) (a_rec ts') r s h = absurd (off 6 5 _ _ tt h)
  tells (an_either t u) (an_either t' u') r s h =
      let h' : code t ++ (code u ++ r) ≡ code t' ++ (code u' ++ s) = sym (append_assoc (code t) (code u) r) ∙ (rest 6 6 ((code t ++ code u) ++ r) ((code t' ++ code u') ++ s) h ∙ append_assoc (code t') (code u') s) in
      let k = tells t t' (code u ++ r) (code u' ++ s) h' in
      let l = tells u u' r s k.1 in
      (ap₂ an_either k.0 l.0, l.1)

  tells_all : (ts us : Tys) (r s : List ℕ) → codes ts ++ r ≡ codes us ++ s → (ts ≡ us) × (r ≡ s)
  tells_all no_ty no_ty r s h = (refl, rest 0 0 r s h)
  tells_all no_ty (ty m u us) r s h = absurd (off 0 1 _ _ tt h)
  tells_all (ty n t ts) no_ty r s h = absurd (off 1 0 _ _ tt h)
  tells_all (ty n t ts) (ty m u us) r s h =
      let h' : text_code n ++ (code t ++ (codes ts ++ r)) ≡ text_code m ++ (code u ++ (codes us ++ s)) = simp append_assoc at (rest 1 1 ((text_code n ++ (code t ++ codes ts)) ++ r) ((text_code m ++ (code u ++ codes us)) ++ s) h) in
      let j = text_tells n m (code t ++ (codes ts ++ r)) (code u ++ (codes us ++ s)) h' in
      let k = tells t u (codes ts ++ r) (codes us ++ s) j.1 in
      let l = tells_all ts us r s k.1 in
      (λ i. ty (j.0 i) (k.0 i) (l.0 i), l.1)

pub code_tells : CodeTells
unfolding CodeTells
code_tells t u h = (tells t u [] [] (ap (λ (x : List ℕ). x ++ []) h)).0
