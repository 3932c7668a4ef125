-- Each step of working a question out, given something of its type, comes to something of its type.
use mathlib.Core.Path.{◌≡◌, refl}
use mathlib.Core.Logic.{◌⊎◌, inl, inr}
use mathlib.Core.Bool.{Bool, true, false}
use mathlib.Core.List.{List, [], ◌∷◌}
use Prim.Native.Nat.{ℕ, ◌+◌, ◌%◌}
use lib.Dec.{ltb}
use Rattle.query.specs.Data.{pick, Name, Data, Datas, Fields, same, join, both, rec, left, right, none, more}
use Rattle.query.specs.Query.{Got, Ty, Tys, adding, on_list, after, on_bag, on_rec, on_num, on_truth, on_either, word, flat_all, sum_all, each_of, keep_of, with_each, all_pairs, same_there, with_same, matched_pairs, a_num, a_truth, a_bag, a_rec, an_either}
use Rattle.query.specs.Types.{is_of, all_of, fields_are, get_ty, both_tys}
use Rattle.query.proofs.OfType.{of_bag, of_rec, of_num, of_truth, mod_small, rec_of, of_either, get_of, both_of, more_of, first_of, rest_of, none_of, join_of, pick_of}

-- what comes to something of a type, and what comes after it
abbrev pub Is : Got → Ty → Type 0
Is g u = (d : Data) × (g.is ≡ d ∷ []) × (is_of d u ≡ true)

pub after_of : (g : Got) (k : Data → Got) (u v : Ty) → Is g u → ((d : Data) → is_of d u ≡ true → Is (k d) v) → Is (after g k) v
unfolding on_list
after_of g k u v h f = rw h.1 (f h.0 h.2)

pub on_bag_of : (a : Data) (k : Datas → Got) (u v : Ty) → is_of a (a_bag u) ≡ true → ((ds : Datas) → all_of ds u ≡ true → Is (k ds) v) → Is (on_bag a k) v
unfolding on_bag
on_bag_of a k u v h f = let b = of_bag a u h in rw b.1 (f b.0 b.2)

pub on_rec_of : (a : Data) (k : Fields → Got) (us : Tys) (v : Ty) → is_of a (a_rec us) ≡ true →
    ((fs : Fields) → fields_are fs us ≡ true → Is (k fs) v) → Is (on_rec a k) v
unfolding on_rec
on_rec_of a k us v h f = let b = of_rec a us h in rw b.1 (f b.0 b.2)

pub on_num_of : (a : Data) (k : ℕ → Got) (v : Ty) → is_of a a_num ≡ true → ((n : ℕ) → ltb n word ≡ true → Is (k n) v) → Is (on_num a k) v
unfolding on_num
on_num_of a k v h f = let b = of_num a h in rw b.1 (f b.0 b.2)

pub on_truth_of : (a : Data) (k : Bool → Got) (v : Ty) → is_of a a_truth ≡ true → ((b : Bool) → Is (k b) v) → Is (on_truth a k) v
unfolding on_truth
on_truth_of a k v h f = let b = of_truth a h in rw b.1 (f b.0)

pub flat_all_of : (ds : Datas) (k : Datas → Got) (u v : Ty) → all_of ds (a_bag u) ≡ true → ((xs : Datas) → all_of xs u ≡ true → Is (k xs) v) → Is (flat_all ds k) v
unfolding flat_all
flat_all_of none k u v h f = f none (none_of u)
flat_all_of (more d ds) k u v h f =
    on_bag_of d _ u v (first_of d ds (a_bag u) h) (λ es l. flat_all_of ds (λ xs. k (join es xs)) u v (rest_of d ds (a_bag u) h) (λ xs m. f (join es xs) (join_of es xs u l m)))

pub sum_all_of : (ds : Datas) (k : ℕ → Got) (v : Ty) → all_of ds a_num ≡ true → ((n : ℕ) → ltb n word ≡ true → Is (k n) v) → Is (sum_all ds k) v
unfolding sum_all
sum_all_of none k v h f = f 0 refl
sum_all_of (more d ds) k v h f =
    on_num_of d _ v (first_of d ds a_num h) (λ n l. sum_all_of ds (λ m. k ((n + m) % word)) v (rest_of d ds a_num h) (λ m _. f ((n + m) % word) (mod_small (n + m))))

pub each_of_of : (f : Data → Got) (u v w : Ty) → ((x : Data) → is_of x u ≡ true → Is (f x) v) → (xs : Datas) → all_of xs u ≡ true →
    (g : Datas → Got) → ((ys : Datas) → all_of ys v ≡ true → Is (g ys) w) → Is (each_of f xs g) w
unfolding each_of
each_of_of f u v w h none k g m = m none (none_of v)
each_of_of f u v w h (more x xs) k g m =
    after_of (adding 1 (f x)) _ v w (h x (first_of x xs u k)) (λ e l. each_of_of f u v w h xs (rest_of x xs u k) (λ es. g (more e es)) (λ es n. m (more e es) (more_of e es v l n)))

pub keep_of_of : (f : Data → Got) (u w : Ty) → ((x : Data) → is_of x u ≡ true → Is (f x) a_truth) → (xs : Datas) → all_of xs u ≡ true →
    (g : Datas → Got) → ((ys : Datas) → all_of ys u ≡ true → Is (g ys) w) → Is (keep_of f xs g) w
unfolding keep_of
keep_of_of f u w h none k g m = m none (none_of u)
keep_of_of f u w h (more x xs) k g m =
    after_of (adding 1 (f x)) _ a_truth w (h x (first_of x xs u k))
    (λ e l. on_truth_of e _ w l (λ b. keep_of_of f u w h xs (rest_of x xs u k) (λ es. g (pick b (more x es) es)) (λ es n. m (pick b (more x es) es) (pick_of b x es u (first_of x xs u k) n))))

pub with_each_of : (fs : Fields) (ts us : Tys) (w : Ty) → fields_are fs ts ≡ true → (es : Datas) → all_of es (a_rec us) ≡ true → (g : Datas → Got) →
    ((ys : Datas) → all_of ys (a_rec (both_tys ts us)) ≡ true → Is (g ys) w) → Is (with_each fs es g) w
unfolding with_each
with_each_of fs ts us w h none k g m = m none (none_of (a_rec (both_tys ts us)))
with_each_of fs ts us w h (more e es) k g m =
    on_rec_of e _ us w (first_of e es (a_rec us) k)
    (λ gs l. with_each_of fs ts us w h es (rest_of e es (a_rec us) k) (λ xs. g (more (rec (both fs gs)) xs))
    (λ xs n. m (more (rec (both fs gs)) xs) (more_of (rec (both fs gs)) xs (a_rec (both_tys ts us)) (rec_of (both fs gs) (both_tys ts us) (both_of fs gs ts us h l)) n)))

pub all_pairs_of : (ts us : Tys) (w : Ty) (ds es : Datas) → all_of ds (a_rec ts) ≡ true → all_of es (a_rec us) ≡ true → (g : Datas → Got) →
    ((ys : Datas) → all_of ys (a_rec (both_tys ts us)) ≡ true → Is (g ys) w) → Is (all_pairs ds es g) w
unfolding all_pairs
all_pairs_of ts us w none es h k g m = m none (none_of (a_rec (both_tys ts us)))
all_pairs_of ts us w (more d ds) es h k g m =
    on_rec_of d _ ts w (first_of d ds (a_rec ts) h)
    (λ fs l. with_each_of fs ts us w l es k _ (λ xs n. all_pairs_of ts us w ds es (rest_of d ds (a_rec ts) h) k (λ ys. g (join xs ys)) (λ ys r. m (join xs ys) (join_of xs ys (a_rec (both_tys ts us)) n r))))

pub with_same_of : (a b : Name) (fs : Fields) (ts us : Tys) (x y : Ty) (l r : List Ty) (w : Ty) → get_ty a ts ≡ x ∷ l → get_ty b us ≡ y ∷ r →
    fields_are fs ts ≡ true → (es : Datas) → all_of es (a_rec us) ≡ true → (g : Datas → Got) →
    ((ys : Datas) → all_of ys (a_rec (both_tys ts us)) ≡ true → Is (g ys) w) → Is (with_same a b fs es g) w
unfolding with_same same_there on_list
with_same_of a b fs ts us x y l r w p q h none k g m = m none (none_of (a_rec (both_tys ts us)))
with_same_of a b fs ts us x y l r w p q h (more e es) k g m =
    on_rec_of e _ us w (first_of e es (a_rec us) k)
    (λ gs n.
    let c = get_of a fs ts x l h p in
    let d = get_of b gs us y r n q in
    rw (c.1, d.1)
    (with_same_of a b fs ts us x y l r w p q h es (rest_of e es (a_rec us) k) (λ xs. g (pick (same c.0 d.0) (more (rec (both fs gs)) xs) xs))
    (λ xs o. m (pick (same c.0 d.0) (more (rec (both fs gs)) xs) xs) (pick_of (same c.0 d.0) (rec (both fs gs)) xs (a_rec (both_tys ts us)) (rec_of (both fs gs) (both_tys ts us) (both_of fs gs ts us h n)) o))))

pub matched_pairs_of : (a b : Name) (ts us : Tys) (x y : Ty) (l r : List Ty) (w : Ty) → get_ty a ts ≡ x ∷ l → get_ty b us ≡ y ∷ r → (ds es : Datas) →
    all_of ds (a_rec ts) ≡ true → all_of es (a_rec us) ≡ true → (g : Datas → Got) →
    ((ys : Datas) → all_of ys (a_rec (both_tys ts us)) ≡ true → Is (g ys) w) → Is (matched_pairs a b ds es g) w
unfolding matched_pairs
matched_pairs_of a b ts us x y l r w p q none es h k g m = m none (none_of (a_rec (both_tys ts us)))
matched_pairs_of a b ts us x y l r w p q (more d ds) es h k g m =
    on_rec_of d _ ts w (first_of d ds (a_rec ts) h)
    (λ fs n. with_same_of a b fs ts us x y l r w p q n es k _ (λ xs o. matched_pairs_of a b ts us x y l r w p q ds es (rest_of d ds (a_rec ts) h) k (λ ys. g (join xs ys)) (λ ys s. m (join xs ys) (join_of xs ys (a_rec (both_tys ts us)) o s))))

pub on_either_of : (a : Data) (f g : Data → Got) (t u v : Ty) → is_of a (an_either t u) ≡ true → ((x : Data) → is_of x t ≡ true → Is (f x) v) →
    ((x : Data) → is_of x u ≡ true → Is (g x) v) → Is (on_either a f g) v
unfolding on_either
on_either_of a f g t u v h p q = by (of_either a t u h)
  where
    by : ((y : Data) × (a ≡ left y) × (is_of y t ≡ true)) ⊎ ((y : Data) × (a ≡ right y) × (is_of y u ≡ true)) → Is (on_either a f g) v
    by (inl w) = rw w.1 (p w.0 w.2)
    by (inr w) = rw w.1 (q w.0 w.2)

pub pick_is : (b : Bool) (g h : Got) (u : Ty) → Is g u → Is h u → Is (pick b g h) u
unfolding pick
pick_is true g h u p q = p
pick_is false g h u p q = q
