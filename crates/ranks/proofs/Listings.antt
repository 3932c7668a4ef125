-- Names by their places: looking one up, and putting one in.
use Rattle.std.proofs.Common.{◌≡◌, ℕ, zero, suc, ◌+◌, ◌-◌, ◌<◌, ◌≤◌, true, ◌⊎◌, List, [], ◌∷◌, length, get_or, take, drop, vec_items, vec_capacity, sym, refl, ap, ◌∙◌, subst, ap₂, inl, inr, true≢false, MatchResult, Option, Result, Ok, Err, arith}
use Rattle.query.specs.Data.{Name, less_text}
use Rattle.query.proofs.Texts.{less_self}
use Rattle.std.specs.List.{insert}
use Rattle.std.specs.Result.{result_ok}
use Rattle.std.specs.List.Sorted.{IsSearchInRange, IsBinarySearchResult, IsNonDecreasingBy}
use Rattle.std.specs.declared.cmp.Ordering.{Ordering}
use Rattle.std.specs.declared.cmp.Ordering.TheVariants.{Less, Equal, Greater}
use Rattle.std.specs.Ordering.{ordering_index, nat_cmp}
use Rattle.std.specs.Cmp.Lexicographic.{slice_cmp}
use Rattle.std.proofs.lemmas.List.{get_or_default}
use Rattle.std.proofs.lemmas.List.Edits.{length-insert, get_or-insert_below, get_or-insert_at, get_or-insert_above}
use Rattle.ranks.specs.Ranks.{Ways, name_at, names_at, nowhere, Ordered, In, names_of, Listed, PutAt, Put, RankOf}
use Rattle.ranks.specs.declared.names.Place.{Place}
use Rattle.ranks.specs.declared.names.Names.{Names}
use Rattle.ranks.proofs.Compares.{ways, rises}

pub names_length : (xs : List ℕ) (ps : List Place) → length (names_at xs ps) ≡ length ps
unfolding names_at
names_length xs [] = refl
names_length xs (p ∷ ps) = ap suc (names_length xs ps)

pub names_get : (xs : List ℕ) (ps : List Place) (k : ℕ) → get_or (names_at xs ps) k [] ≡ name_at xs (get_or ps k nowhere)
unfolding names_at
names_get xs [] k = refl
names_get xs (p ∷ ps) zero = refl
names_get xs (p ∷ ps) (suc k) = names_get xs ps k

-- a name comes after itself never
before_not : (a b : Name) → less_text a b ≡ true → a ≡ b → ⊥
before_not a b h e = true≢false (sym h ∙ (ap (λ (z : Name). less_text z b) e ∙ less_self b))

found : (xs : List ℕ) (ps : List Place) (n : Name) (k : ℕ) (o : Ordering) → slice_cmp nat_cmp (name_at xs (get_or ps k nowhere)) n ≡ o → Ways (get_or (names_at xs ps) k []) n o
found xs ps n k o e = subst (λ (z : Name). Ways z n o) (sym (names_get xs ps k)) (subst (λ (z : Ordering). Ways (name_at xs (get_or ps k nowhere)) n z) e (ways (name_at xs (get_or ps k nowhere)) n))

in_turn : (xs : List ℕ) (ps : List Place) (n : Name) → Ordered (names_at xs ps) → IsNonDecreasingBy (λ p. ordering_index (slice_cmp nat_cmp (name_at xs p) n)) ps
in_turn xs ps n o i j d l m = elim (less_or i j l) [
  | inl h ↦ rises (name_at xs (get_or ps i d)) (name_at xs (get_or ps j d)) n _ _ (ap₂ (λ (u v : Name). less_text u v) (at i (omega arith)) (at j m) ∙ o i j h (omega (arith, names_length xs ps))) (ways _ n) (ways _ n)
  | inr e ↦ let q = ap (λ k. ordering_index (slice_cmp nat_cmp (name_at xs (get_or ps k d)) n)) e in omega arith
]
  where
    less_or : (k m : ℕ) → k ≤ m → (k < m) ⊎ (k ≡ m)
    less_or k m l = grind arith

    at : (k : ℕ) → k < length ps → name_at xs (get_or ps k d) ≡ get_or (names_at xs ps) k []
    at k h = ap (λ (z : Place). name_at xs z) (get_or_default ps k d nowhere h) ∙ sym (names_get xs ps k)

-- what a search among the places finds
pub searched : (xs : List ℕ) (ps : List Place) (n : Name) (r : Result ℕ ℕ) → Ordered (names_at xs ps) → IsSearchInRange r (length ps) → IsBinarySearchResult (λ p. slice_cmp nat_cmp (name_at xs p) n) ps r
    → MatchResult r (λ i. (i < length ps) × (name_at xs (get_or ps i nowhere) ≡ n)) (λ i. PutAt (names_at xs ps) n i)
searched xs ps n (Ok i) o b h = (b, sym (names_get xs ps i) ∙ found xs ps n i Equal (h nowhere))
searched xs ps n (Err i) o b h =
    let parted = h (in_turn xs ps n o) in
    let len = names_length xs ps in
    record {
      within = omega (arith, b);
      before = λ k l. found xs ps n k Less (parted.0 k nowhere (omega arith) l);
      after = λ k l m. found xs ps n k Greater (parted.1 k nowhere l (omega arith));
    }

-- where it is to be put it is not yet
pub absent : (ns : List Name) (n : Name) (i : ℕ) → PutAt ns n i → In ns n → ⊥
absent ns n i p m = elim (less_or m.at i) [
  | inl l ↦ before_not _ _ (p.before m.at l) m.is
  | inr l ↦ before_not _ _ (p.after m.at l m.within) (sym m.is)
]
  where
    less_or : (k m : ℕ) → (k < m) ⊎ (m ≤ k)
    less_or k m = grind arith

pub there : (xs : List ℕ) (ps : List Place) (n : Name) (i : ℕ) → i < length ps → name_at xs (get_or ps i nowhere) ≡ n → In (names_at xs ps) n
there xs ps n i h e = record { at = i; within = omega (arith, names_length xs ps); is = names_get xs ps i ∙ e }

-- nothing was put
pub put_none : (xs : List ℕ) (v : Names) (n : Name) → Listed xs v → In (names_of xs v) n → Put xs v v n
put_none xs v n l m = record { listed = l; among = λ k h. h; there = λ h. m; few = omega arith; same = λ h. refl }

pub put_full : (xs : List ℕ) (v : Names) (n : Name) → Listed xs v → 8200 ≤ length (vec_items v.places) → Put xs v v n
put_full xs v n l h = record { listed = l; among = λ k m. m; there = λ m. absurd (omega (arith, names_length xs (vec_items v.places))); few = omega arith; same = λ m. refl }

module _ (xs : List ℕ) (ps qs : List Place) (p : Place) (i : ℕ) (h : i ≤ length ps) (e : qs ≡ insert ps i p) where
  qs_length : length qs ≡ length ps + 1
  qs_length = ap (λ (z : List Place). length z) e ∙ length-insert ps i p h

  get_below : (k : ℕ) → k < i → get_or (names_at xs qs) k [] ≡ get_or (names_at xs ps) k []
  get_below k l = names_get xs qs k ∙ (ap (λ (z : Place). name_at xs z) (ap (λ (z : List Place). get_or z k nowhere) e ∙ get_or-insert_below ps i p nowhere k l h) ∙ sym (names_get xs ps k))

  get_here : get_or (names_at xs qs) i [] ≡ name_at xs p
  get_here = names_get xs qs i ∙ ap (λ (z : Place). name_at xs z) (ap (λ (z : List Place). get_or z i nowhere) e ∙ get_or-insert_at ps i p nowhere h)

  get_above : (k : ℕ) → i ≤ k → get_or (names_at xs qs) (k + 1) [] ≡ get_or (names_at xs ps) k []
  get_above k l = names_get xs qs (k + 1) ∙ (ap (λ (z : Place). name_at xs z) (ap (λ (z : List Place). get_or z (k + 1) nowhere) e ∙ get_or-insert_above ps i p nowhere k l h) ∙ sym (names_get xs ps k))

  -- which of the three a number is
  data Side (k : ℕ) : Type 0 where
    low : k < i → Side k
    mid : k ≡ i → Side k
    high : (j : ℕ) → i ≤ j → k ≡ j + 1 → Side k

  side : (k : ℕ) → Side k
  side k = go (three k i)
    where
      three : (m n : ℕ) → (m < n) ⊎ ((m ≡ n) ⊎ (n < m))
      three m n = grind arith

      go : (k < i) ⊎ ((k ≡ i) ⊎ (i < k)) → Side k
      go (inl a) = low a
      go (inr (inl a)) = mid a
      go (inr (inr a)) = high (k - 1) (omega arith) (omega arith)

  module _ (o : Ordered (names_at xs ps)) (q : PutAt (names_at xs ps) (name_at xs p) i) where
    in_order : Ordered (names_at xs qs)
    in_order a b l m = go (side a) (side b)
      where
        n : length (names_at xs qs) ≡ length (names_at xs ps) + 1
        n = names_length xs qs ∙ (qs_length ∙ ap (λ z. z + 1) (sym (names_length xs ps)))

        at_high : (k j : ℕ) → i ≤ j → k ≡ j + 1 → get_or (names_at xs qs) k [] ≡ get_or (names_at xs ps) j []
        at_high k j z y = ap (λ v. get_or (names_at xs qs) v []) y ∙ get_above j z

        at_mid : (k : ℕ) → k ≡ i → get_or (names_at xs qs) k [] ≡ name_at xs p
        at_mid k y = ap (λ v. get_or (names_at xs qs) v []) y ∙ get_here

        go : Side a → Side b → less_text (get_or (names_at xs qs) a []) (get_or (names_at xs qs) b []) ≡ true
        go (low x) (low y) = ap₂ (λ (u v : Name). less_text u v) (get_below a x) (get_below b y) ∙ o a b l (omega (arith, q.within))
        go (low x) (mid y) = ap₂ (λ (u v : Name). less_text u v) (get_below a x) (at_mid b y) ∙ q.before a x
        go (low x) (high j z y) = ap₂ (λ (u v : Name). less_text u v) (get_below a x) (at_high b j z y) ∙ o a j (omega arith) (omega (arith, n))
        go (mid x) (low y) = absurd (omega arith)
        go (mid x) (mid y) = absurd (omega arith)
        go (mid x) (high j z y) = ap₂ (λ (u v : Name). less_text u v) (at_mid a x) (at_high b j z y) ∙ q.after j z (omega (arith, n))
        go (high j z x) (low y) = absurd (omega arith)
        go (high j z x) (mid y) = absurd (omega arith)
        go (high j z x) (high k w y) = ap₂ (λ (u v : Name). less_text u v) (at_high a j z x) (at_high b k w y) ∙ o j k (omega arith) (omega (arith, n))

    stays_in : (n : Name) → In (names_at xs ps) n → In (names_at xs qs) n
    stays_in n m = go (below m.at i)
      where
        below : (j k : ℕ) → (j < k) ⊎ (k ≤ j)
        below j k = grind arith

        len : length (names_at xs qs) ≡ length (names_at xs ps) + 1
        len = names_length xs qs ∙ (qs_length ∙ ap (λ z. z + 1) (sym (names_length xs ps)))

        go : (m.at < i) ⊎ (i ≤ m.at) → In (names_at xs qs) n
        go (inl l) = record { at = m.at; within = omega (arith, len, m.within); is = get_below m.at l ∙ m.is }
        go (inr l) = record { at = m.at + 1; within = omega (arith, len, m.within); is = get_above m.at l ∙ m.is }

    lie_still : (b : ℕ) → p.start + p.length ≤ b → ((k : ℕ) → k < length ps → (get_or ps k nowhere).start + (get_or ps k nowhere).length ≤ b) → (k : ℕ) → k < length qs → (get_or qs k nowhere).start + (get_or qs k nowhere).length ≤ b
    lie_still b x y k l = go (side k)
      where
        go : Side k → (get_or qs k nowhere).start + (get_or qs k nowhere).length ≤ b
        go (low z) = subst (λ (v : Place). v.start + v.length ≤ b) (sym (ap (λ (v : List Place). get_or v k nowhere) e ∙ get_or-insert_below ps i p nowhere k z h)) (y k (omega arith))
        go (mid z) = subst (λ (v : Place). v.start + v.length ≤ b) (sym (ap (λ v. get_or qs v nowhere) z ∙ (ap (λ (v : List Place). get_or v i nowhere) e ∙ get_or-insert_at ps i p nowhere h))) x
        go (high j z w) = subst (λ (v : Place). v.start + v.length ≤ b) (sym (ap (λ v. get_or qs v nowhere) w ∙ (ap (λ (v : List Place). get_or v (j + 1) nowhere) e ∙ get_or-insert_above ps i p nowhere j z h))) (y j (omega (arith, qs_length)))

pub put_in : (xs : List ℕ) (v u : Names) (p : Place) (i : ℕ) → Listed xs v → p.start + p.length ≤ length xs → PutAt (names_of xs v) (name_at xs p) i → length (vec_items v.places) < 8200
    → vec_items u.places ≡ insert (vec_items v.places) i p → 8200 ≤ vec_capacity u.places → Put xs v u (name_at xs p)
put_in xs v u p i l h q m e k =
    let ps = vec_items v.places in
    let qs = vec_items u.places in
    let n = names_length xs ps in
    let n2 = names_length xs qs in
    let w : i ≤ length ps = omega (arith, q.within) in
    let z = qs_length xs ps qs p i w e in
    record {
      listed = record { lie = lie_still xs ps qs p i w e l.ordered q (length xs) h l.lie; ordered = in_order xs ps qs p i w e l.ordered q; few = omega arith; cap = k };
      among = stays_in xs ps qs p i w e l.ordered q;
      there = λ o. record { at = i; within = omega arith; is = get_here xs ps qs p i w e };
      few = omega arith;
      same = λ o. absurd (absent (names_of xs v) (name_at xs p) i q o);
    }

-- ranks are names' numbers
rank_some : (xs : List ℕ) (ps : List Place) (n : Name) (i : ℕ) → i < length ps → name_at xs (get_or ps i nowhere) ≡ n → (i < length (names_at xs ps)) × (get_or (names_at xs ps) i [] ≡ n)
rank_some xs ps n i h e = (omega (arith, names_length xs ps), names_get xs ps i ∙ e)

pub rank_of : (xs : List ℕ) (ps qs : List Place) (n : Name) (r : Result ℕ ℕ) (o : Option ℕ) → qs ≡ ps → o ≡ result_ok r → MatchResult r (λ i. (i < length qs) × (name_at xs (get_or qs i nowhere) ≡ n)) (λ i. PutAt (names_at xs qs) n i) → RankOf (names_at xs ps) n o
rank_of xs ps qs n r o e f m = subst (λ (z : List Place). RankOf (names_at xs z) n o) e (subst (λ (z : Option ℕ). RankOf (names_at xs qs) n z) (sym f) (go r m))
  where
    go : (r : Result ℕ ℕ) → MatchResult r (λ i. (i < length qs) × (name_at xs (get_or qs i nowhere) ≡ n)) (λ i. PutAt (names_at xs qs) n i) → RankOf (names_at xs qs) n (result_ok r)
    go (Ok i) m = rank_some xs qs n i m.0 m.1
    go (Err i) m = absent (names_at xs qs) n i m

pub part_same : (xs : List ℕ) (s l : ℕ) → take ((s + l) - s) (drop s xs) ≡ take l (drop s xs)
part_same xs s l = ap (λ k. take k (drop s xs)) (sums s l)
  where
    sums : (a b : ℕ) → (a + b) - a ≡ b
    sums a b = omega arith

pub put_at_part : (xs : List ℕ) (ps qs : List Place) (s l i : ℕ) → qs ≡ ps → PutAt (names_at xs qs) (take ((s + l) - s) (drop s xs)) i → PutAt (names_at xs ps) (take l (drop s xs)) i
put_at_part xs ps qs s l i e p = subst (λ (z : List ℕ). PutAt (names_at xs ps) z i) (part_same xs s l) (subst (λ (z : List Place). PutAt (names_at xs z) (take ((s + l) - s) (drop s xs)) i) e p)
