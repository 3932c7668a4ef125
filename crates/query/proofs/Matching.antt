-- Matching two bags is keeping those of their product whose fields are the same.
use mathlib.Core.Path.{◌≡◌, refl, sym, ◌∙◌, ap}
use mathlib.Core.Bool.{Bool, true, false, false≢true}
use mathlib.Core.List.{List, [], ◌∷◌}
use Rattle.query.specs.Data.{pick, Name, Data, Datas, Fields, same, join, get, both, in_order, unit, num, truth, text, bag, rec, left, right, none, more, no_field}
use Rattle.query.specs.Query.{Got, Tables, came, on_list, on_rec, on_truth, get_or_fail, apply1, apply2, keep_of, with_each, all_pairs, same_there, with_same, matched_pairs, eval}
use Rattle.query.specs.Promise.{same_fields_of}
use Rattle.query.specs.Laws.{some_datum, has_field, lacks_field, rec_in_order, all_recs_with, none_with, all_in_order, MatchedIsKept}
use Rattle.query.proofs.Tests.{and_l, and_r}
use Rattle.query.proofs.Fields.{get_both_none, get_both_some}

-- of each of a bag
abbrev pub All : (Data → Type 0) → Datas → Type 0
All P none = Unit {0}
All P (more d ds) = P d × All P ds

-- a record with a field
abbrev pub With : Name → Data → Type 0
With m d = (fs : Fields) × (x : Data) × (l : List Data) × (d ≡ rec fs) × (get m fs ≡ x ∷ l)

-- and without another, in order
abbrev pub OnlyWith : Name → Name → Data → Type 0
OnlyWith n m d = (fs : Fields) × (x : Data) × (l : List Data) × (d ≡ rec fs) × (get n fs ≡ x ∷ l) × (get m fs ≡ []) × (in_order fs ≡ true)

-- a record with a field, and what the test of it says
with_of : (m : Name) (d : Data) → has_field m d ≡ true → With m d
unfolding has_field some_datum
with_of m unit h = absurd (false≢true h)
with_of m (num y) h = absurd (false≢true h)
with_of m (truth y) h = absurd (false≢true h)
with_of m (text y) h = absurd (false≢true h)
with_of m (bag y) h = absurd (false≢true h)
with_of m (rec fs) h = by (get m fs) refl
  where
    by : (l : List Data) → get m fs ≡ l → With m (rec fs)
    by [] e = absurd (false≢true (rw e at h))
    by (x ∷ l) e = (fs, x, l, refl, e)
with_of m (left y) h = absurd (false≢true h)
with_of m (right y) h = absurd (false≢true h)

only_with_of : (n m : Name) (d : Data) → has_field n d ≡ true → lacks_field m d ≡ true → rec_in_order d ≡ true → OnlyWith n m d
unfolding has_field lacks_field rec_in_order some_datum
only_with_of n m unit h k o = absurd (false≢true h)
only_with_of n m (num y) h k o = absurd (false≢true h)
only_with_of n m (truth y) h k o = absurd (false≢true h)
only_with_of n m (text y) h k o = absurd (false≢true h)
only_with_of n m (bag y) h k o = absurd (false≢true h)
only_with_of n m (rec fs) h k o = by (get n fs) refl (get m fs) refl
  where
    by : (l : List Data) → get n fs ≡ l → (r : List Data) → get m fs ≡ r → OnlyWith n m (rec fs)
    by [] e r f = absurd (false≢true (rw e at h))
    by (x ∷ l) e (y ∷ r) f = absurd (false≢true (rw f at k))
    by (x ∷ l) e [] f = (fs, x, l, refl, e, f, o)
only_with_of n m (left y) h k o = absurd (false≢true h)
only_with_of n m (right y) h k o = absurd (false≢true h)

all_with : (m : Name) (xs : Datas) → all_recs_with m xs ≡ true → All (With m) xs
unfolding all_recs_with
all_with m none h = tt
all_with m (more x xs) h = (with_of m x (and_l (has_field m x) (all_recs_with m xs) h), all_with m xs (and_r (has_field m x) (all_recs_with m xs) h))

all_only : (n m : Name) (ys : Datas) → all_recs_with n ys ≡ true → none_with m ys ≡ true → all_in_order ys ≡ true → All (OnlyWith n m) ys
unfolding all_recs_with none_with all_in_order
all_only n m none h k o = tt
all_only n m (more y ys) h k o = (
  only_with_of n m y (and_l (has_field n y) (all_recs_with n ys) h) (and_l (lacks_field m y) (none_with m ys) k) (and_l (rec_in_order y) (all_in_order ys) o),
  all_only n m ys (and_r (has_field n y) (all_recs_with n ys) h) (and_r (lacks_field m y) (none_with m ys) k) (and_r (rec_in_order y) (all_in_order ys) o),
)

-- the records of a product, and those that are kept
unfoldable pub parts_of : Data → Fields
parts_of unit = no_field
parts_of (num y) = no_field
parts_of (truth y) = no_field
parts_of (text y) = no_field
parts_of (bag y) = no_field
parts_of (rec fs) = fs
parts_of (left y) = no_field
parts_of (right y) = no_field

unfoldable pub pairs : Fields → Datas → Datas
pairs fs none = none
pairs fs (more e es) = more (rec (both fs (parts_of e))) (pairs fs es)

unfoldable pub cross : Datas → Datas → Datas
cross none es = none
cross (more d ds) es = join (pairs (parts_of d) es) (cross ds es)

unfoldable pub filt : (Data → Bool) → Datas → Datas
filt t none = none
filt t (more d ds) = pick (t d) (more d (filt t ds)) (filt t ds)

unfoldable pub firsts : List Data → List Data → Bool
firsts [] ys = false
firsts (x ∷ xs) [] = false
firsts (x ∷ xs) (y ∷ ys) = same x y

unfoldable pub alike : Name → Name → Data → Bool
alike m n z = firsts (get m (parts_of z)) (get n (parts_of z))

pub filt_join : (t : Data → Bool) (xs ys : Datas) → filt t (join xs ys) ≡ join (filt t xs) (filt t ys)
unfolding filt join pick
filt_join t none ys = refl
filt_join t (more x xs) ys = by (t x) (filt_join t xs ys)
  where
    by : (b : Bool) → filt t (join xs ys) ≡ join (filt t xs) (filt t ys) → pick b (more x (filt t (join xs ys))) (filt t (join xs ys)) ≡ join (pick b (more x (filt t xs)) (filt t xs)) (filt t ys)
    by true e = ap (more x) e
    by false e = e

with_each_is : (n m : Name) (fs : Fields) (es : Datas) → All (OnlyWith n m) es → (g : Datas → Got) → (with_each fs es g).is ≡ (g (pairs fs es)).is
unfolding with_each pairs on_rec parts_of
with_each_is n m fs none h g = refl
with_each_is n m fs (more e es) h g = let r = h.0.3 in rw r (with_each_is n m fs es h.1 (λ xs. g (more (rec (both fs h.0.0)) xs)))

all_pairs_is : (n m : Name) (ds es : Datas) → All (With m) ds → All (OnlyWith n m) es → (g : Datas → Got) → (all_pairs ds es g).is ≡ (g (cross ds es)).is
unfolding all_pairs cross on_rec parts_of
all_pairs_is n m none es h k g = refl
all_pairs_is n m (more d ds) es h k g =
    let r = h.0.3 in
    rw r (with_each_is n m h.0.0 es k (λ xs. all_pairs ds es (λ ys. g (join xs ys))) ∙ all_pairs_is n m ds es h.1 k (λ ys. g (join (pairs h.0.0 es) ys)))

keep_is : (f : Data → Got) (t : Data → Bool) (zs : Datas) → All (λ z. (f z).is ≡ truth (t z) ∷ []) zs → (g : Datas → Got) → (keep_of f zs g).is ≡ (g (filt t zs)).is
unfolding keep_of filt on_list on_truth
keep_is f t none h g = refl
keep_is f t (more z zs) h g = rw h.0 (keep_is f t zs h.1 (λ es. g (pick (t z) (more z es) es)))

-- the test of a pair
alike_is : (ts : Tables) (m n : Name) (e d f : Data) → With m d → OnlyWith n m f → (eval ts (same_fields_of m n) e (rec (both (parts_of d) (parts_of f)))).is ≡ truth (alike m n (rec (both (parts_of d) (parts_of f)))) ∷ []
unfolding eval alike on_list on_rec get_or_fail apply1 apply2 firsts parts_of
alike_is ts m n e d f h k =
    let r = h.3 in
    let s = k.3 in
    let a : get m (both h.0 k.0) ≡ h.1 ∷ h.2 = get_both_none m h.0 k.0 k.5 ∙ h.4 in
    let b : get n (both h.0 k.0) ≡ k.1 ∷ k.2 = get_both_some n h.0 k.0 k.1 k.2 k.6 k.4 ∙ k.4 in
    rw (r, s) (rw (a, b) refl)

with_same_is : (m n : Name) (fs : Fields) (es : Datas) → With m (rec fs) → All (OnlyWith n m) es → (g : Datas → Got) →
    (with_same m n fs es g).is ≡ (g (filt (alike m n) (pairs fs es))).is
unfolding with_same same_there pairs filt on_rec on_list alike firsts parts_of
with_same_is m n fs none h k g = refl
with_same_is m n fs (more e es) h k g =
    let c = k.0 in
    let r : e ≡ rec c.0 = c.3 in
    let own : rec fs ≡ rec h.0 = h.3 in
    let own_fs : fs ≡ h.0 = cc in
    let x : get m fs ≡ h.1 ∷ h.2 = ap (get m) own_fs ∙ h.4 in
    let y : get n c.0 ≡ c.1 ∷ c.2 = c.4 in
    let a : get m (both fs c.0) ≡ h.1 ∷ h.2 = get_both_none m fs c.0 c.5 ∙ x in
    let b : get n (both fs c.0) ≡ c.1 ∷ c.2 = get_both_some n fs c.0 c.1 c.2 c.6 c.4 ∙ c.4 in
    rw r (rw (x, y) (rw (a, b) (with_same_is m n fs es h k.1 (λ xs. g (pick (same h.1 c.1) (more (rec (both fs c.0)) xs) xs)))))

matched_is : (m n : Name) (ds es : Datas) → All (With m) ds → All (OnlyWith n m) es → (g : Datas → Got) → (matched_pairs m n ds es g).is ≡ (g (filt (alike m n) (cross ds es))).is
unfolding matched_pairs cross filt on_rec parts_of
matched_is m n none es h k g = refl
matched_is m n (more d ds) es h k g =
    let c = h.0 in
    let r : d ≡ rec c.0 = c.3 in
    rw r
    (with_same_is m n c.0 es (c.0, c.1, c.2, refl, c.4) k (λ xs. matched_pairs m n ds es (λ ys. g (join xs ys)))
    ∙ (matched_is m n ds es h.1 k (λ ys. g (join (filt (alike m n) (pairs c.0 es)) ys))
    ∙ ap (λ (zs : Datas). (g zs).is) (sym (filt_join (alike m n) (pairs c.0 es) (cross ds es)))))

all_join : (P : Data → Type 0) (xs ys : Datas) → All P xs → All P ys → All P (join xs ys)
unfolding join
all_join P none ys h k = k
all_join P (more x xs) ys h k = (h.0, all_join P xs ys h.1 k)

pairs_alike : (ts : Tables) (m n : Name) (e d : Data) (es : Datas) → With m d → All (OnlyWith n m) es →
    All (λ z. (eval ts (same_fields_of m n) e z).is ≡ truth (alike m n z) ∷ []) (pairs (parts_of d) es)
unfolding pairs
pairs_alike ts m n e d none h k = tt
pairs_alike ts m n e d (more f es) h k = (alike_is ts m n e d f h k.0, pairs_alike ts m n e d es h k.1)

pub cross_alike : (ts : Tables) (m n : Name) (e : Data) (ds es : Datas) → All (With m) ds → All (OnlyWith n m) es →
    All (λ z. (eval ts (same_fields_of m n) e z).is ≡ truth (alike m n z) ∷ []) (cross ds es)
unfolding cross
cross_alike ts m n e none es h k = tt
cross_alike ts m n e (more d ds) es h k = all_join _ (pairs (parts_of d) es) (cross ds es) (pairs_alike ts m n e d es h.0 k) (cross_alike ts m n e ds es h.1 k)

pub matched_is_kept : MatchedIsKept
unfolding MatchedIsKept
matched_is_kept ts m n xs ys e h k l o o' =
    let a = all_with m xs h in
    let b = all_only n m ys k l o' in
    let test : Data → Got = λ z. eval ts (same_fields_of m n) e z in
    matched_is m n xs ys a b (λ zs. came 0 (bag zs))
    ∙ sym (all_pairs_is n m xs ys a b (λ zs. keep_of test zs (λ ws. came 0 (bag ws))) ∙ keep_is test (alike m n) (cross xs ys) (cross_alike ts m n e xs ys a b) (λ ws. came 0 (bag ws)))
