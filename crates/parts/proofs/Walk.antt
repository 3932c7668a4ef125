-- What the walk over heads has gone through, and what is still to come.
use Rattle.std.proofs.Common.{◌≡◌, ℕ, ◌+◌, ◌-◌, ◌*◌, ◌^◌, ◌<◌, ◌≤◌, Bool, true, false, ◌&&◌, List, [], ◌∷◌, ◌++◌, length, drop, Some, None, Option, sym, refl, ap, ◌∙◌, subst, arith, length-append, length-drop, true≢false}
use Rattle.std.proofs.lemmas.List.{append_assoc, append-nil, drop-drop}
use Rattle.format.specs.Coding.{Coding, writes, AllFit, many}
use Rattle.format.specs.Lists.{from, from_drop, after_of}
use Rattle.format.specs.Trees.{writes_append, fits_append}
use Rattle.parts.specs.declared.counted.Counted.{Counted}
use Rattle.parts.specs.declared.measured.Front.{Front}
use Rattle.parts.specs.Counts.{total, Counts, CountedInFront, all_hold, Measures, FrontTold}

-- the part from a place on is no longer than what is left
pub from_length : (e : ℕ) (xs : List ℕ) → length (from e xs) ≡ length xs - e
from_length e xs = ap length (from_drop e xs) ∙ length-drop e xs

-- what stands after the first of several
pub drop_front : (n : ℕ) (xs w ys : List ℕ) → xs ≡ w ++ ys → n ≡ length w → drop n xs ≡ ys
drop_front n xs w ys q l = ap (λ (v : List ℕ). drop n v) q ∙ ap (λ (k : ℕ). drop k (w ++ ys)) l ∙ after_of w ys

pub drop_first : (e n : ℕ) (xs w ys : List ℕ) → drop e xs ≡ w ++ ys → n ≡ length w → drop (e + n) xs ≡ ys
drop_first e n xs w ys q l = sym (drop-drop n e xs) ∙ drop_front n (drop e xs) w ys q l

-- few things, and how many parts they have
pub total_none : {A : Type 0} (size : A → ℕ) (us : List A) → length us ≡ 0 → total size us ≡ 0
total_none size [] e = refl
total_none size (u ∷ us) e = absurd (omega (arith, e))

total_append : {A : Type 0} (size : A → ℕ) (us vs : List A) → total size (us ++ vs) ≡ total size us + total size vs
total_append size [] vs = omega arith
total_append size (u ∷ us) vs = omega (arith, total_append size us vs)

and_assoc : (a b c : Bool) → (a && b) && c ≡ a && (b && c)
and_assoc true b c = refl
and_assoc false b c = refl

hold_append : {A : Type 0} (holds : A → Bool) (us vs : List A) → all_hold holds (us ++ vs) ≡ all_hold holds us && all_hold holds vs
hold_append holds [] vs = refl
hold_append holds (u ∷ us) vs = ap (λ (b : Bool). holds u && b) (hold_append holds us vs) ∙ sym (and_assoc (holds u) (all_hold holds us) (all_hold holds vs))

and_r : (a b : Bool) → b ≡ false → a && b ≡ false
and_r true b e = e
and_r false b e = refl

pub and_l : (a b : Bool) → a ≡ false → a && b ≡ false
and_l true b e = absurd cc
and_l false b e = refl

module _ (S : Coding) (size : S.T → ℕ) (holds : S.T → Bool) where
  -- of the things at the start, these are still to come, with their parts
  pub record ToCome (xs : List ℕ) (pending parts end : ℕ) (us : List S.T) (rest : List ℕ) : Type 0 where
    pub those : List S.T
    pub how_many : length those ≡ pending
    pub fits : AllFit S those
    pub after : drop end xs ≡ writes S those ++ rest
    pub parts_are : parts + total size those ≡ total size us
    pub holds_is : all_hold holds us ≡ all_hold holds those

  pub record Walked (limit count : ℕ) (xs : List ℕ) (pending parts end : ℕ) : Type 0 where
    pub low : parts ≤ limit
    pub within : end ≤ length xs
    pub few : pending ≤ count + 2 ^ 32 * end
    pub left : (us : List S.T) (rest : List ℕ) → (many S count).Fits us → xs ≡ writes S us ++ rest → ToCome xs pending parts end us rest

  pub walk_none : (limit count : ℕ) (xs : List ℕ) → Walked limit count xs count 0 0
  walk_none limit count xs =
      record { low = omega arith; within = omega arith; few = omega arith; left = λ us rest f q. record { those = us; how_many = f.0; fits = f.1; after = q; parts_are = omega arith; holds_is = refl } }

  module _ (limit count : ℕ) (xs : List ℕ) (pending parts end : ℕ) (w : Walked limit count xs pending parts end) where
    next : (u : S.T) (those : List S.T) (rest : List ℕ) → drop end xs ≡ writes S (u ∷ those) ++ rest → from end xs ≡ S.write u ++ (writes S those ++ rest)
    next u those rest q = from_drop end xs ∙ q ∙ append_assoc (S.write u) (writes S those) rest

    on : (f : Front) (us : List S.T) (rest : List ℕ) → 0 < pending → FrontTold S size holds (limit - parts) (from end xs) (Some f) → (those : List S.T) → length those ≡ pending → AllFit S those → drop end xs ≡ writes S those ++ rest → parts + total size those ≡ total size us → all_hold holds us ≡ all_hold holds those
        → ToCome xs ((pending - 1) + f.after) (parts + f.own) (end + f.length) us rest
    on f us rest h r [] m g q p a = absurd (omega (arith, m))
    on f us rest h r (u ∷ those) m g q p a =
        let t = r.tells u (writes S those ++ rest) g.0 (next u those rest q) in
        record {
          those = t.kids ++ those;
          how_many = (let e : length (t.kids ++ those) ≡ (pending - 1) + f.after = omega (arith, m, t.many, length-append t.kids those) in e);
          fits = fits_append S t.kids those t.fits g.1;
          after = sym (drop-drop f.length end xs) ∙ ap (λ (v : List ℕ). drop f.length v) (sym (from_drop end xs)) ∙ t.after ∙ sym (append_assoc (writes S t.kids) (writes S those) rest) ∙ ap (λ (v : List ℕ). v ++ rest) (sym (writes_append S t.kids those));
          parts_are = omega (arith, p, t.size_is, total_append size t.kids those);
          holds_is = a ∙ ap (λ (b : Bool). b && all_hold holds those) t.holds_is ∙ sym (hold_append holds t.kids those);
        }

    pub walk_more : (f : Front) → 0 < pending → FrontTold S size holds (limit - parts) (from end xs) (Some f) → Walked limit count xs ((pending - 1) + f.after) (parts + f.own) (end + f.length)
    walk_more f h r =
        record {
          low = omega (arith, w.low, r.bounded);
          within = omega (arith, w.within, r.bounded, from_length end xs);
          few = omega (arith, w.few, r.bounded);
          left = λ us rest g q. let l = w.left us rest g q in on f us rest h r l.those l.how_many l.fits l.after l.parts_are l.holds_is;
        }

    fails : (us : List S.T) (rest : List ℕ) → 0 < pending → FrontTold S size holds (limit - parts) (from end xs) None → (those : List S.T) → length those ≡ pending → AllFit S those → drop end xs ≡ writes S those ++ rest → parts + total size those ≡ total size us → total size us ≤ limit → all_hold holds those ≡ false
    fails us rest h r [] m g q p l = absurd (omega (arith, m))
    fails us rest h r (u ∷ those) m g q p l = and_l (holds u) (all_hold holds those) (r.tells u (writes S those ++ rest) g.0 (next u those rest q) (omega (arith, p, l)))

    pub walk_fails : 0 < pending → FrontTold S size holds (limit - parts) (from end xs) None → Measures (many S count) (total size) (all_hold holds) limit xs None
    walk_fails h r = record { measured = λ us rest g q l. let t = w.left us rest g q in t.holds_is ∙ fails us rest h r t.those t.how_many t.fits t.after t.parts_are l; bounded = tt }

    done : (us : List S.T) (rest : List ℕ) → xs ≡ writes S us ++ rest → pending ≡ 0 → (those : List S.T) → length those ≡ pending → drop end xs ≡ writes S those ++ rest → parts + total size those ≡ total size us → all_hold holds us ≡ all_hold holds those
        → (all_hold holds us ≡ true) × (parts ≡ total size us) × (total size us ≤ limit) × (end ≡ length (writes S us))
    done us rest q h [] m d p a =
        let k = ap length d in
        (a, omega (arith, p), omega (arith, p, w.low), omega (arith, w.within, k, length-drop end xs, ap length q, length-append (writes S us) rest))
    done us rest q h (u ∷ those) m d p a = absurd (omega (arith, m))

    pub walk_done : pending ≡ 0 → Measures (many S count) (total size) (all_hold holds) limit xs (Some record { parts = parts; length = end })
    walk_done h = record { measured = λ us rest g q. let l = w.left us rest g q in done us rest q h l.those l.how_many l.after l.parts_are l.holds_is; bounded = (w.low, w.within) }

-- where nothing is asked, what was measured was counted
pub all_true : {A : Type 0} (us : List A) → all_hold (λ (u : A). true) us ≡ true
all_true [] = refl
all_true (u ∷ us) = all_true us

module _ (S : Coding) (size : S.T → ℕ) (limit : ℕ) (xs : List ℕ) where
  pub counted_many : (k : ℕ) (r : Option Counted) → Measures (many S k) (total size) (all_hold (λ _. true)) limit xs r → CountedInFront (many S k) (total size) limit xs r
  counted_many k None m = record { counts = λ us rest f q. over us (m.measured us rest f q); bounded = tt }
    where
      over : (us : List S.T) → (total size us ≤ limit → all_hold (λ _. true) us ≡ false) → limit < total size us
      over us h = omega (arith, λ (l : total size us ≤ limit). true≢false (sym (all_true us) ∙ h l))
  counted_many k (Some c) m = record { counts = λ us rest f q. let t = m.measured us rest f q in (t.1, t.2, t.3); bounded = m.bounded }

  pub counted_one : (r : Option Counted) → Measures (many S 1) (total size) (all_hold (λ _. true)) limit xs r → CountedInFront S size limit xs r
  counted_one r m = record { counts = λ u rest f q. one u r ((counted_many 1 r m).counts (u ∷ []) rest (refl, (f, tt)) (q ∙ ap (λ (v : List ℕ). v ++ rest) (sym (append-nil (S.write u))))); bounded = m.bounded }
    where
      one : (u : S.T) (r : Option Counted) → Counts limit (total size (u ∷ [])) (length (writes S (u ∷ []))) r → Counts limit (size u) (length (S.write u)) r
      one u r c = subst (λ (n : ℕ). Counts limit n (length (S.write u)) r) (let z : size u + 0 ≡ size u = omega arith in z) (subst (λ (v : List ℕ). Counts limit (size u + 0) (length v) r) (append-nil (S.write u)) c)
