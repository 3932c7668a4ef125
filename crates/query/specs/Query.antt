-- Questions, what they come to, and how much is looked at. Assumes nothing: these are definitions.
use Rattle.std.specs.Prelude.{Bool, true, false, not, ◌&&◌, ◌||◌, List, [], ◌∷◌, ℕ, zero, suc, ◌+◌, ◌*◌, ◌%◌, ltb}
use Rattle.query.specs.Data.{pick, Name, Data, unit, num, truth, text, bag, rec, left, right, Datas, none, more, Fields, no_field, field, same, join, how_many, is_in, once, get, left_out, both, only}

pub data Op2 : Type 0 where
  equal : Op2
  and : Op2
  or : Op2
  plus : Op2
  less : Op2
  join_bags : Op2
  join_recs : Op2
  within : Op2

pub data Op1 : Type 0 where
  not_so : Op1
  in_bag : Op1
  flat : Op1
  count : Op1
  sum : Op1
  distinct : Op1
  dot : Name → Op1
  as_field : Name → Op1
  without : Name → Op1
  project : List Name → Op1

-- types, which are written where a question can't tell otherwise
mutual
  pub data Ty : Type 0 where
    a_unit : Ty
    a_num : Ty
    a_truth : Ty
    a_text : Ty
    a_bag : Ty → Ty
    a_rec : Tys → Ty
    an_either : Ty → Ty → Ty

  pub data Tys : Type 0 where
    no_ty : Tys
    ty : Name → Ty → Tys → Tys

pub data Query : Type 0 where
  table : ℕ → Query  -- what is kept, by its number
  it : Query  -- what is looked at
  env : Query  -- and what goes along
  just : Ty → Data → Query
  two : Op2 → Query → Query → Query
  one : Op1 → Query → Query
  each : Query → Query → Query  -- the first of each of the second
  keep : Query → Query → Query  -- those of the second for which the first is true
  product : Query → Query → Query  -- each record of one with each of the other
  matched : Name → Name → Query → Query → Query  -- of these, where two fields are the same
  default : Query → Query → Query  -- the second if the first is an empty bag
  as_left : Ty → Query → Query  -- and the type of the other side
  as_right : Ty → Query → Query
  either : Query → Query → Query  -- the first on a left, the second on a right
  then : Query → Query → Query  -- the first of what the second comes to
  with_env : Query → Query → Query  -- the first, with what the second comes to going along

abbrev pub Tables : Type 0
Tables = List Data

unfoldable pub table_at : Tables → ℕ → List Data
table_at [] n = []
table_at (d ∷ ds) zero = d ∷ []
table_at (d ∷ ds) (suc n) = table_at ds n

-- what something comes to, none or one, and how much was looked at
pub record Got : Type 0 where
  pub work : ℕ
  pub is : List Data

abbrev pub came : ℕ → Data → Got
came n d = record { work = n; is = d ∷ [] }

abbrev pub failed : ℕ → Got
failed n = record { work = n; is = [] }

abbrev pub adding : ℕ → Got → Got
adding n g = record { work = n + g.work; is = g.is }

unfoldable pub on_list : List Data → Got → (Data → Got) → Got
on_list [] g f = g
on_list (d ∷ ds) g f = f d

-- after one, with what it came to
abbrev pub after : Got → (Data → Got) → Got
after g f = on_list g.is g (λ d. adding g.work (f d))

unfoldable pub on_bag : Data → (Datas → Got) → Got
on_bag unit f = failed 0
on_bag (num n) f = failed 0
on_bag (truth b) f = failed 0
on_bag (text t) f = failed 0
on_bag (bag ds) f = f ds
on_bag (rec fs) f = failed 0
on_bag (left d) f = failed 0
on_bag (right d) f = failed 0

unfoldable pub on_rec : Data → (Fields → Got) → Got
on_rec unit f = failed 0
on_rec (num n) f = failed 0
on_rec (truth b) f = failed 0
on_rec (text t) f = failed 0
on_rec (bag ds) f = failed 0
on_rec (rec fs) f = f fs
on_rec (left d) f = failed 0
on_rec (right d) f = failed 0

unfoldable pub on_num : Data → (ℕ → Got) → Got
on_num unit f = failed 0
on_num (num n) f = f n
on_num (truth b) f = failed 0
on_num (text t) f = failed 0
on_num (bag ds) f = failed 0
on_num (rec fs) f = failed 0
on_num (left d) f = failed 0
on_num (right d) f = failed 0

unfoldable pub on_truth : Data → (Bool → Got) → Got
on_truth unit f = failed 0
on_truth (num n) f = failed 0
on_truth (truth b) f = f b
on_truth (text t) f = failed 0
on_truth (bag ds) f = failed 0
on_truth (rec fs) f = failed 0
on_truth (left d) f = failed 0
on_truth (right d) f = failed 0

unfoldable pub on_either : Data → (Data → Got) → (Data → Got) → Got
on_either unit f g = failed 0
on_either (num n) f g = failed 0
on_either (truth b) f g = failed 0
on_either (text t) f g = failed 0
on_either (bag ds) f g = failed 0
on_either (rec fs) f g = failed 0
on_either (left d) f g = f d
on_either (right d) f g = g d

-- numbers are below 2^64, and sums of that
abbrev pub word : ℕ
word = 18446744073709551616

unfoldable pub flat_all : Datas → (Datas → Got) → Got
flat_all none f = f none
flat_all (more d ds) f = on_bag d (λ es. flat_all ds (λ xs. f (join es xs)))

unfoldable pub sum_all : Datas → (ℕ → Got) → Got
sum_all none f = f 0
sum_all (more d ds) f = on_num d (λ n. sum_all ds (λ m. f ((n + m) % word)))

unfoldable pub get_or_fail : List Data → Got
get_or_fail [] = failed 0
get_or_fail (d ∷ ds) = came 0 d

unfoldable pub apply1 : Op1 → Data → Got
apply1 not_so d = on_truth d (λ b. came 0 (truth (not b)))
apply1 in_bag d = came 0 (bag (more d none))
apply1 flat d = on_bag d (λ ds. adding (how_many ds) (flat_all ds (λ xs. adding (how_many xs) (came 0 (bag xs)))))
apply1 count d = on_bag d (λ ds. adding (how_many ds) (came 0 (num (how_many ds % word))))
apply1 sum d = on_bag d (λ ds. adding (how_many ds) (sum_all ds (λ n. came 0 (num n))))
apply1 distinct d = on_bag d (λ ds. adding (how_many ds * how_many ds) (came 0 (bag (once ds))))
apply1 (dot n) d = on_rec d (λ fs. get_or_fail (get n fs))
apply1 (as_field n) d = came 0 (rec (field n d no_field))
apply1 (without n) d = on_rec d (λ fs. came 0 (rec (left_out n fs)))
apply1 (project ns) d = on_rec d (λ fs. came 0 (rec (only ns fs)))

unfoldable pub apply2 : Op2 → Data → Data → Got
apply2 equal d e = came 0 (truth (same d e))
apply2 and d e = on_truth d (λ a. on_truth e (λ b. came 0 (truth (a && b))))
apply2 or d e = on_truth d (λ a. on_truth e (λ b. came 0 (truth (a || b))))
apply2 plus d e = on_num d (λ a. on_num e (λ b. came 0 (num ((a + b) % word))))
apply2 less d e = on_num d (λ a. on_num e (λ b. came 0 (truth (ltb a b))))
apply2 join_bags d e = on_bag d (λ ds. on_bag e (λ es. adding (how_many ds + how_many es) (came 0 (bag (join ds es)))))
apply2 join_recs d e = on_rec d (λ fs. on_rec e (λ gs. came 0 (rec (both fs gs))))
apply2 within d e = on_bag e (λ es. adding (how_many es) (came 0 (truth (is_in d es))))

-- each of a bag, in order
unfoldable pub each_of : (Data → Got) → Datas → (Datas → Got) → Got
each_of f none g = g none
each_of f (more d ds) g = after (adding 1 (f d)) (λ e. each_of f ds (λ es. g (more e es)))

unfoldable pub keep_of : (Data → Got) → Datas → (Datas → Got) → Got
keep_of f none g = g none
keep_of f (more d ds) g = after (adding 1 (f d)) (λ e. on_truth e (λ b. keep_of f ds (λ es. g (pick b (more d es) es))))

-- one record with each of a bag
unfoldable pub with_each : Fields → Datas → (Datas → Got) → Got
with_each fs none g = g none
with_each fs (more e es) g = on_rec e (λ gs. adding 1 (with_each fs es (λ xs. g (more (rec (both fs gs)) xs))))

unfoldable pub all_pairs : Datas → Datas → (Datas → Got) → Got
all_pairs none es g = g none
all_pairs (more d ds) es g = on_rec d (λ fs. with_each fs es (λ xs. all_pairs ds es (λ ys. g (join xs ys))))

-- those where two fields are the same
unfoldable pub same_there : Name → Name → Fields → Fields → (Bool → Got) → Got
same_there a b fs gs h = on_list (get a fs) (failed 0) (λ d. on_list (get b gs) (failed 0) (λ e. h (same d e)))

unfoldable pub with_same : Name → Name → Fields → Datas → (Datas → Got) → Got
with_same a b fs none g = g none
with_same a b fs (more e es) g = on_rec e (λ gs. same_there a b fs gs (λ t. with_same a b fs es (λ xs. g (pick t (more (rec (both fs gs)) xs) xs))))

unfoldable pub matched_pairs : Name → Name → Datas → Datas → (Datas → Got) → Got
matched_pairs a b none es g = g none
matched_pairs a b (more d ds) es g = on_rec d (λ fs. with_same a b fs es (λ xs. matched_pairs a b ds es (λ ys. g (join xs ys))))

unfoldable pub is_empty : Data → Bool
is_empty unit = false
is_empty (num n) = false
is_empty (truth b) = false
is_empty (text t) = false
is_empty (bag none) = true
is_empty (bag (more d ds)) = false
is_empty (rec fs) = false
is_empty (left d) = false
is_empty (right d) = false

-- what a question comes to. A product looks at both bags and at each pair; matching at both bags and at what comes of it
unfoldable pub eval : Tables → Query → Data → Data → Got
eval ts (table n) e d = get_or_fail (table_at ts n)
eval ts it e d = came 0 d
eval ts env e d = came 0 e
eval ts (just t x) e d = came 0 x
eval ts (two o p q) e d = adding 1 (after (eval ts p e d) (λ a. after (eval ts q e d) (λ b. apply2 o a b)))
eval ts (one o q) e d = adding 1 (after (eval ts q e d) (λ a. apply1 o a))
eval ts (each p q) e d = after (eval ts q e d) (λ a. on_bag a (λ xs. each_of (λ x. eval ts p e x) xs (λ ys. came 0 (bag ys))))
eval ts (keep p q) e d = after (eval ts q e d) (λ a. on_bag a (λ xs. keep_of (λ x. eval ts p e x) xs (λ ys. came 0 (bag ys))))
eval ts (product p q) e d =
    after (eval ts p e d) (λ a. on_bag a (λ xs. after (eval ts q e d) (λ b. on_bag b (λ ys. adding (how_many xs + how_many ys) (all_pairs xs ys (λ zs. came 0 (bag zs)))))))
eval ts (matched m n p q) e d =
    after (eval ts p e d) (λ a. on_bag a (λ xs. after (eval ts q e d) (λ b. on_bag b (λ ys. matched_pairs m n xs ys (λ zs. came (how_many xs + (how_many ys + how_many zs)) (bag zs))))))
eval ts (default p q) e d = after (eval ts p e d) (λ a. pick (is_empty a) (eval ts q e d) (came 0 a))
eval ts (as_left t q) e d = adding 1 (after (eval ts q e d) (λ a. came 0 (left a)))
eval ts (as_right t q) e d = adding 1 (after (eval ts q e d) (λ a. came 0 (right a)))
eval ts (either p q) e d = adding 1 (on_either d (λ x. eval ts p e x) (λ x. eval ts q e x))
eval ts (then p q) e d = after (eval ts q e d) (λ a. eval ts p e a)
eval ts (with_env p q) e d = after (eval ts q e d) (λ a. eval ts p a d)

-- a question is asked of nothing
abbrev pub asked : Tables → Query → Got
asked ts q = eval ts q unit unit
