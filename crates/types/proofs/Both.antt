-- Two records in one. Assumes nothing.
use Rattle.std.proofs.Common.{◌≡◌, ℕ, zero, suc, ◌+◌, ◌<◌, ◌≤◌, Bool, true, false, eqb, ltb, ◌⊎◌, List, [], ◌∷◌, length, drop, Some, None, Option, sym, refl, ap, ◌∙◌, subst, ap₂, inl, inr, arith}
use Rattle.query.specs.Data.{pick}
use Rattle.types.specs.Shapes.{held, Rising}
use Rattle.types.specs.Fields.{put_f, both_f, Stepped, FirstOf}
use Rattle.types.specs.declared.entry.Field.{Field}
use Rattle.types.specs.declared.entry.Next.{Next}
use Rattle.types.specs.declared.entry.Run.{Run}

pub eqb_no : (a b : ℕ) → (a ≡ b → ⊥) → eqb a b ≡ false
eqb_no a b h = grind arith

pub eqb_yes : (a b : ℕ) → a ≡ b → eqb a b ≡ true
eqb_yes a b h = grind arith

pub ltb_no : (a b : ℕ) → b ≤ a → ltb a b ≡ false
ltb_no a b h = grind arith

pub ltb_yes : (a b : ℕ) → a < b → ltb a b ≡ true
ltb_yes a b h = grind arith

pub pick_true : {A : Type 0} (b : Bool) (x y : A) → b ≡ true → pick b x y ≡ x
unfolding pick
pick_true true x y h = refl
pick_true false x y h = absurd cc

pub pick_false : {A : Type 0} (b : Bool) (x y : A) → b ≡ false → pick b x y ≡ y
unfolding pick
pick_false true x y h = absurd cc
pick_false false x y h = refl

pub rising_low : (w k p q : ℕ) (fs : List Field) → p ≤ q → Rising w k q fs → Rising w k p fs
unfolding Rising
rising_low w k p q [] h r = tt
rising_low w k p q (f ∷ fs) h r = (omega (arith, r.0), r.1, r.2, r.3)

pub rising_drop : (w k : ℕ) (i : ℕ) (fs : List Field) → Rising w k 0 fs → Rising w k 0 (drop i fs)
unfolding Rising
rising_drop w k zero fs r = r
rising_drop w k (suc i) [] r = r
rising_drop w k (suc i) (f ∷ fs) r = rising_drop w k i fs (rising_low w k 0 (suc f.name) fs (omega arith) r.3)

pub rising_length : (w k p : ℕ) (fs : List Field) → p ≤ w → Rising w k p fs → p + length fs ≤ w
unfolding Rising
rising_length w k p [] h r = omega arith
rising_length w k p (f ∷ fs) h r = omega (arith, r.0, rising_length w k (suc f.name) fs r.1 r.3)

-- a field put in
put_low : (y x : Field) (xs : List Field) → x.name < y.name → put_f y (x ∷ xs) ≡ x ∷ put_f y xs
unfolding put_f
put_low y x xs h =
    pick_false (eqb y.name x.name) _ _ (eqb_no y.name x.name (λ e. omega arith)) ∙ pick_false (ltb y.name x.name) _ _ (ltb_no y.name x.name (omega arith))

put_same : (y x : Field) (xs : List Field) → y.name ≡ x.name → put_f y (x ∷ xs) ≡ y ∷ xs
unfolding put_f
put_same y x xs h = pick_true (eqb y.name x.name) _ _ (eqb_yes y.name x.name h)

put_high : (w k : ℕ) (y : Field) (xs : List Field) → Rising w k (suc y.name) xs → put_f y xs ≡ y ∷ xs
unfolding put_f Rising
put_high w k y [] r = refl
put_high w k y (x ∷ xs) r =
    pick_false (eqb y.name x.name) _ _ (eqb_no y.name x.name (λ e. omega (arith, r.0))) ∙ pick_true (ltb y.name x.name) _ _ (ltb_yes y.name x.name (omega (arith, r.0)))

pub both_low : (w k : ℕ) (x : Field) (xs ys : List Field) → Rising w k (suc x.name) ys → both_f (x ∷ xs) ys ≡ x ∷ both_f xs ys
unfolding both_f Rising
both_low w k x xs [] r = refl
both_low w k x xs (y ∷ ys) r =
    ap (λ (z : List Field). both_f z ys) (put_low y x xs (omega (arith, r.0))) ∙ both_low w k x (put_f y xs) ys (rising_low w k (suc x.name) (suc y.name) ys (omega (arith, r.0)) r.3)

pub both_high : (w k : ℕ) (y : Field) (xs ys : List Field) → Rising w k (suc y.name) xs → Rising w k (suc y.name) ys → both_f xs (y ∷ ys) ≡ y ∷ both_f xs ys
unfolding both_f
both_high w k y xs ys r s = ap (λ (z : List Field). both_f z ys) (put_high w k y xs r) ∙ both_low w k y xs ys s

pub both_same : (w k : ℕ) (x y : Field) (xs ys : List Field) → y.name ≡ x.name → Rising w k (suc y.name) ys → both_f (x ∷ xs) (y ∷ ys) ≡ y ∷ both_f xs ys
unfolding both_f
both_same w k x y xs ys e s = ap (λ (z : List Field). both_f z ys) (put_same y x xs e) ∙ both_low w k y xs ys s

-- in order still
put_rises : (w k p : ℕ) (y : Field) (xs : List Field) → p ≤ y.name → y.name < w → y.of < k → Rising w k p xs → Rising w k p (put_f y xs)
unfolding Rising put_f
put_rises w k p y [] a b c r = (a, b, c, tt)
put_rises w k p y (x ∷ xs) a b c r =
    elim (three y.name x.name) [
      | inl e ↦ subst (λ z. Rising w k p z) (sym (put_same y x xs e)) (a, b, c, subst (λ z. Rising w k (suc z) xs) (sym e) r.3)
      | inr d ↦ elim d [
        | inl l ↦ subst (λ z. Rising w k p z) (sym (put_high w k y (x ∷ xs) (l, r.1, r.2, r.3))) (a, b, c, (l, r.1, r.2, r.3))
        | inr l ↦ subst (λ z. Rising w k p z) (sym (put_low y x xs l)) (r.0, r.1, r.2, put_rises w k (suc x.name) y xs l b c r.3)
      ]
    ]
  where
    three : (m n : ℕ) → (m ≡ n) ⊎ ((m < n) ⊎ (n < m))
    three m n = grind arith

pub both_rises : (w k p : ℕ) (xs ys : List Field) → Rising w k p xs → Rising w k p ys → Rising w k p (both_f xs ys)
unfolding Rising both_f
both_rises w k p xs [] r s = r
both_rises w k p xs (y ∷ ys) r s =
    both_rises w k p (put_f y xs) ys (put_rises w k p y xs s.0 s.1 s.2 r) (rising_low w k p (suc y.name) ys (omega (arith, s.0)) s.3)

-- the next of both
rising_tail : (w k : ℕ) (y : Field) (ys zs : List Field) → ys ≡ y ∷ zs → Rising w k 0 ys → Rising w k (suc y.name) zs
unfolding Rising
rising_tail w k y ys zs e r = (subst (λ z. Rising w k 0 z) e r).3

rising_head : (w k p : ℕ) (y : Field) (ys zs : List Field) → ys ≡ y ∷ zs → p ≤ y.name → Rising w k 0 ys → Rising w k p ys
unfolding Rising
rising_head w k p y ys zs e l r = let q : Rising w k 0 (y ∷ zs) = subst (λ z. Rising w k 0 z) e r in subst (λ z. Rising w k p z) (sym e) (l, q.1, q.2, q.3)

long : (x : Field) (xs zs : List Field) → xs ≡ x ∷ zs → 1 ≤ length xs
long x xs zs e = omega (arith, ap (λ (z : List Field). length z) e)

stepped_low : (w k : ℕ) (x : Field) (xs ys : List Field) → xs ≡ x ∷ drop 1 xs → Rising w k (suc x.name) ys → Stepped xs ys (record { field = x; first = 1; second = 0 })
stepped_low w k x xs ys e r = record { is = ap (λ (z : List Field). both_f z ys) e ∙ both_low w k x (drop 1 xs) ys r; first = long x xs (drop 1 xs) e; second = omega arith; some = omega arith }

stepped_high : (w k : ℕ) (y : Field) (xs ys : List Field) → ys ≡ y ∷ drop 1 ys → Rising w k (suc y.name) xs → Rising w k 0 ys → Stepped xs ys (record { field = y; first = 0; second = 1 })
stepped_high w k y xs ys e r s = record { is = ap (λ (z : List Field). both_f xs z) e ∙ both_high w k y xs (drop 1 ys) r (rising_tail w k y ys (drop 1 ys) e s); first = omega arith; second = long y ys (drop 1 ys) e; some = omega arith }

stepped_first : (w k : ℕ) (x : Field) (xs ys : List Field) → xs ≡ x ∷ drop 1 xs → ys ≡ [] → Stepped xs ys (record { field = x; first = 1; second = 0 })
unfolding Rising
stepped_first w k x xs ys e q = stepped_low w k x xs ys e (subst (λ z. Rising w k (suc x.name) z) (sym q) tt)

stepped_second : (w k : ℕ) (y : Field) (xs ys : List Field) → ys ≡ y ∷ drop 1 ys → xs ≡ [] → Rising w k 0 ys → Stepped xs ys (record { field = y; first = 0; second = 1 })
unfolding Rising
stepped_second w k y xs ys e q s = stepped_high w k y xs ys e (subst (λ z. Rising w k (suc y.name) z) (sym q) tt) s

stepped_less : (w k : ℕ) (x y : Field) (xs ys : List Field) → xs ≡ x ∷ drop 1 xs → ys ≡ y ∷ drop 1 ys → x.name < y.name → Rising w k 0 ys → Stepped xs ys (record { field = x; first = 1; second = 0 })
stepped_less w k x y xs ys e q l s = stepped_low w k x xs ys e (rising_head w k (suc x.name) y ys (drop 1 ys) q l s)

stepped_more : (w k : ℕ) (x y : Field) (xs ys : List Field) → xs ≡ x ∷ drop 1 xs → ys ≡ y ∷ drop 1 ys → y.name < x.name → Rising w k 0 xs → Rising w k 0 ys → Stepped xs ys (record { field = y; first = 0; second = 1 })
stepped_more w k x y xs ys e q l r s = stepped_high w k y xs ys q (rising_head w k (suc y.name) x xs (drop 1 xs) e l r) s

stepped_same : (w k : ℕ) (x y : Field) (xs ys : List Field) → xs ≡ x ∷ drop 1 xs → ys ≡ y ∷ drop 1 ys → x.name ≡ y.name → Rising w k 0 ys → Stepped xs ys (record { field = y; first = 1; second = 1 })
stepped_same w k x y xs ys e q l s = record {
  is = ap₂ (λ (z v : List Field). both_f z v) e q ∙ both_same w k x y (drop 1 xs) (drop 1 ys) (sym l) (rising_tail w k y ys (drop 1 ys) q s);
  first = long x xs (drop 1 xs) e;
  second = long y ys (drop 1 ys) q;
  some = omega arith;
}

-- the next of two runs of fields, as it was found
module _ (w k : ℕ) (xs ys : List Field) (rx : Rising w k 0 xs) (ry : Rising w k 0 ys) (r : Next) where
  from_these : (s : Next) → r ≡ s → Stepped xs ys s → Stepped xs ys r
  from_these s q t = subst (λ (z : Next). Stepped xs ys z) (sym q) t

  pub next_first : (x : Field) → FirstOf xs (Some x) → FirstOf ys None → r ≡ record { field = x; first = 1; second = 0 } → Stepped xs ys r
  next_first x a b q = from_these _ q (stepped_first w k x xs ys a b)

  pub next_second : (y : Field) → FirstOf xs None → FirstOf ys (Some y) → r ≡ record { field = y; first = 0; second = 1 } → Stepped xs ys r
  next_second y a b q = from_these _ q (stepped_second w k y xs ys b a ry)

  pub next_less : (x y : Field) → FirstOf xs (Some x) → FirstOf ys (Some y) → x.name < y.name → r ≡ record { field = x; first = 1; second = 0 } → Stepped xs ys r
  next_less x y a b l q = from_these _ q (stepped_less w k x y xs ys a b l ry)

  pub next_more : (x y : Field) → FirstOf xs (Some x) → FirstOf ys (Some y) → y.name < x.name → r ≡ record { field = y; first = 0; second = 1 } → Stepped xs ys r
  next_more x y a b l q = from_these _ q (stepped_more w k x y xs ys a b l rx ry)

  pub next_same : (x y : Field) → FirstOf xs (Some x) → FirstOf ys (Some y) → x.name ≡ y.name → r ≡ record { field = y; first = 1; second = 1 } → Stepped xs ys r
  next_same x y a b l q = from_these _ q (stepped_same w k x y xs ys a b l ry)

pub first_as : (p : Run) (us fs : List Field) (r s : Option Field) → us ≡ fs → r ≡ s → FirstOf (held us p) r → FirstOf (held fs p) s
first_as p us fs r s e f h = subst (λ (z : List Field). FirstOf (held z p) s) e (subst (λ (z : Option Field). FirstOf (held us p) z) f h)
