-- Heads by their tag: a table with, for each tag from 0 on, what follows it and which head that is.
use Rattle.std.specs.Prelude.{◌≡◌, ℕ, zero, suc, ◌+◌, ◌<◌, ◌≤◌, true, List, [], ◌∷◌, ◌++◌, length, slice_index, refl}
use Rattle.std.proofs.Common.{sym, ap, ◌∙◌, arith, length-append}
use Rattle.std.proofs.Math.Path.{subst}
use Rattle.query.specs.Types.{bytes}
use Rattle.format.specs.Coding.{Coding, tag}
use Rattle.format.specs.Reading.{Begins, ReadAs, NoneInFront, Stuck, OneWay}
use Rattle.format.specs.Lists.{from, from_drop}
use Rattle.format.specs.Codings.{Splits, begins_both, stuck_second, way_both, tag_way, tag_begins}

-- nothing follows
abbrev pub plain : Coding
plain = record { T = Unit {0}; write = λ x. []; Fits = λ x. Unit {0} }

-- no tag
abbrev pub never : Coding
never = record { T = ⊥; write = λ x. absurd x; Fits = λ x. ⊥ }

pub record Entry (H : Coding) : Type 1 where
  pub load : Coding
  pub make : load.T → H.T

abbrev pub alone : {H : Coding} → H.T → Entry H
alone h = record { load = plain; make = λ x. h }

abbrev pub no_entry : (H : Coding) → Entry H
no_entry H = record { load = never; make = λ x. absurd x }

pub data Table (H : Coding) : Type 1 where
  end : Table H
  row : Entry H → Table H → Table H

abbrev pub entry : {H : Coding} → Table H → ℕ → Entry H
entry {H} end t = no_entry H
entry (row e es) zero = e
entry (row e es) (suc t) = entry es t

abbrev pub rows : {H : Coding} → Table H → ℕ
rows end = 0
rows (row e es) = suc (rows es)

-- the entries, from the tag n on, are what heads are written as
pub record GoodEntry (H : Coding) (t : ℕ) (e : Entry H) : Type 0 where
  pub fits : (l : e.load.T) → e.load.Fits l → H.Fits (e.make l)
  pub written : (l : e.load.T) → H.write (e.make l) ≡ t ∷ e.load.write l
  pub one_way : OneWay e.load
  pub some : e.load.T
  pub some_fits : e.load.Fits some

abbrev pub Good : (H : Coding) → ℕ → Table H → Type 0
Good H n end = Unit {0}
Good H n (row e es) = GoodEntry H n e × Good H (suc n) es

pub plain_way : OneWay plain
plain_way x y xs ys f g e = (refl, e)

never_way : OneWay never
never_way x y xs ys f g e = absurd x

module _ (H : Coding) where
  good_at : (n t : ℕ) (es : Table H) → Good H n es → t < rows es → GoodEntry H (n + t) (entry es t)
  good_at n t end g h = absurd (omega arith)
  good_at n zero (row e es) g h = subst (λ (v : ℕ). GoodEntry H v e) (omega arith) g.0
  good_at n (suc t) (row e es) g h = let q : suc n + t ≡ n + suc t = omega arith in subst (λ (v : ℕ). GoodEntry H v (entry es t)) q (good_at (suc n) t es g.1 (omega arith))

  pub beyond : (es : Table H) (t : ℕ) → rows es ≤ t → (entry es t).load.T → ⊥
  beyond end t h l = l
  beyond (row e es) zero h l = omega arith
  beyond (row e es) (suc t) h l = beyond es t (omega arith) l

  within_rows : (es : Table H) (t : ℕ) → (entry es t).load.T → t < rows es
  within_rows end t l = absurd l
  within_rows (row e es) zero l = omega arith
  within_rows (row e es) (suc t) l = omega (arith, within_rows es t l)

-- a head taken apart: its tag and what follows
pub record Tagged (H : Coding) (es : Table H) (h : H.T) : Type 0 where
  pub tag_is : ℕ
  pub load_is : (entry es tag_is).load.T
  pub load_fits : (entry es tag_is).load.Fits load_is
  pub is : h ≡ (entry es tag_is).make load_is

module _ (H : Coding) (es : Table H) (good : Good H 0 es) (few : rows es ≤ 256) (tagged : (h : H.T) → H.Fits h → Tagged H es h) where
  good_entry : (t : ℕ) → (entry es t).load.T → GoodEntry H t (entry es t)
  good_entry t l = let q : 0 + t ≡ t = omega arith in subst (λ (v : ℕ). GoodEntry H v (entry es t)) q (good_at H 0 t es good (within_rows H es t l))

  pub splits : Splits H tag (λ t. (entry es t).load)
  splits =
      record {
        make = λ t l. (entry es t).make l;
        fits = λ t l ft fl. (good_entry t l).fits l fl;
        written = λ t l ft fl. (good_entry t l).written l;
        out = λ h f. let o = tagged h f in record { a = o.tag_is; b = o.load_is; a_fits = omega (arith, within_rows H es o.tag_is o.load_is); b_fits = o.load_fits; is = o.is };
      }

  pub heads_way : OneWay H
  heads_way = way_both H tag (λ t. (entry es t).load) splits tag_way (λ t x y xs ys f g e. (good_entry t x).one_way x y xs ys f g e)

  pub heads_long : (h : H.T) → H.Fits h → 0 < length (H.write h)
  heads_long h f = let o = tagged h f in let q = ap H.write o.is ∙ (good_entry o.tag_is o.load_is).written o.load_is in omega (arith, ap length q)

  -- a head of a known tag, by what was read after it
  pub head_begins : (xs : List ℕ) (t f e : ℕ) (l : (entry es t).load.T) → bytes xs ≡ true → 0 < length xs → slice_index xs 0 ≡ t → Begins (entry es t).load (from 1 xs) f l → e ≡ 1 + f → Begins H xs e ((entry es t).make l)
  unfolding splits
  head_begins xs t f e l b n g r q =
      subst (λ (v : ℕ). Begins H xs v ((entry es t).make l)) (sym q)
      (begins_both H tag (λ v. (entry es v).load) splits xs 1 f t l (tag_begins xs t n b g) (subst (λ (v : List ℕ). Begins (entry es t).load v f l) (from_drop 1 xs) r))

  pub head_stuck : (xs : List ℕ) (t p e : ℕ) → bytes xs ≡ true → 0 < length xs → slice_index xs 0 ≡ t → Stuck (entry es t).load (from 1 xs) p → e ≡ 1 + p → Stuck H xs e
  head_stuck xs t p e b n g r q =
      subst (λ (v : ℕ). Stuck H xs v) (sym q)
      (stuck_second H tag (λ v. (entry es v).load) splits xs 1 p t tag_way (tag_begins xs t n b g) (subst (λ (v : List ℕ). Stuck (entry es t).load v p) (from_drop 1 xs) r))

  -- a head of which nothing follows the tag
  pub head_alone : (xs : List ℕ) (t : ℕ) (l : (entry es t).load.T) → bytes xs ≡ true → 0 < length xs → slice_index xs 0 ≡ t → (entry es t).load.Fits l → (entry es t).load.write l ≡ [] → Begins H xs 1 ((entry es t).make l)
  head_alone xs t l b n g f w = head_begins xs t 0 1 l b n g record { within = omega arith; fits = f; is = sym w } refl

  -- the same, with what the node says of it
  module _ {N : Type 0} (Tells : N → H.T → Type 0) where
    pub node_alone : (xs : List ℕ) (t : ℕ) (node : N) (l : (entry es t).load.T) → bytes xs ≡ true → 0 < length xs → slice_index xs 0 ≡ t → (entry es t).load.Fits l → (entry es t).load.write l ≡ []
        → Tells node ((entry es t).make l) → ReadAs H xs 1 (Tells node)
    node_alone xs t node l b n g f w s = record { thing = (entry es t).make l; begins = head_alone xs t l b n g f w; says = s }

    pub node_begins : (xs : List ℕ) (t f e : ℕ) (node : N) (l : (entry es t).load.T) → bytes xs ≡ true → 0 < length xs → slice_index xs 0 ≡ t → Begins (entry es t).load (from 1 xs) f l → e ≡ 1 + f
        → Tells node ((entry es t).make l) → ReadAs H xs e (Tells node)
    node_begins xs t f e node l b n g r q s = record { thing = (entry es t).make l; begins = head_begins xs t f e l b n g r q; says = s }

  module _ (h₀ : H.T) (f₀ : H.Fits h₀) where
    -- no head has such a tag
    none_tag : (t : ℕ) (xs : List ℕ) → rows es ≤ t → NoneInFront H (t ∷ xs)
    none_tag t xs h x rest f e =
        let o = tagged x f in
        let g = good_entry o.tag_is o.load_is in
        let q : t ∷ xs ≡ o.tag_is ∷ ((entry es o.tag_is).load.write o.load_is ++ rest) = e ∙ ap (λ (v : List ℕ). v ++ rest) (ap H.write o.is ∙ g.written o.load_is) in
        let s : t ≡ o.tag_is = cc in
        omega (arith, within_rows H es o.tag_is o.load_is)

    pub stuck_tag : (xs : List ℕ) → 0 < length xs → rows es ≤ slice_index xs 0 → Stuck H xs 0
    stuck_tag [] n h = absurd (omega arith)
    stuck_tag (x ∷ xs) n h = record { within = omega arith; rest = H.write h₀; thing = h₀; fits = f₀; goes_on = refl; absent = none_tag x xs h; wrong = λ l ys. none_tag x ys h }

    pub stuck_empty : (xs : List ℕ) → length xs ≡ 0 → Stuck H xs 0
    stuck_empty [] n =
        record { within = omega arith; rest = H.write h₀; thing = h₀; fits = f₀; goes_on = refl; absent = λ x rest f e. omega (arith, heads_long x f, ap length e ∙ length-append (H.write x) rest); wrong = λ l ys. absurd (omega arith) }
    stuck_empty (x ∷ xs) n = absurd (omega (arith, n))
