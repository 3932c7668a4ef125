-- Queries by how many parts they have: what is written before the parts, and what a guide says of them.
use Rattle.std.proofs.Common.{◌≡◌, ℕ, suc, ◌+◌, max, List, [], ◌∷◌, ◌++◌, length, get_or, sym, refl, ap, ◌∙◌, subst, arith, length-append}
use Rattle.query.specs.Query.{Query, table, it, env, just, two, one, each, keep, product, matched, default, as_left, as_right, either, then, with_env}
use Rattle.format.specs.Coding.{name}
use Rattle.format.specs.Wire.{write_ty, tag_2, write_1, write_query, FitsQuery}
use Rattle.guide.specs.Guide.{first_part, last_part, Guided}
use Rattle.guide.specs.Marks.{nesting}

abbrev pub parts : Query → List Query
parts (table n) = []
parts it = []
parts env = []
parts (just t d) = []
parts (two o p q) = p ∷ q ∷ []
parts (one o q) = q ∷ []
parts (each p q) = p ∷ q ∷ []
parts (keep p q) = p ∷ q ∷ []
parts (product p q) = p ∷ q ∷ []
parts (matched m n p q) = p ∷ q ∷ []
parts (default p q) = p ∷ q ∷ []
parts (as_left t q) = q ∷ []
parts (as_right t q) = q ∷ []
parts (either p q) = p ∷ q ∷ []
parts (then p q) = p ∷ q ∷ []
parts (with_env p q) = p ∷ q ∷ []

-- a query of one part
pub record Single (x p : Query) : Type 0 where
  pub front : List ℕ
  pub first : first_part x ≡ length front
  pub last : last_part x ≡ length front
  pub written : write_query x ≡ front ++ write_query p
  pub fits : FitsQuery x → FitsQuery p
  pub nested : nesting x ≡ suc (nesting p)
  pub out : (g : List ℕ) (at : ℕ) → Guided g at x → (get_or g at 0 ≡ last_part x) × Guided g (at + last_part x) p
  pub into : (g : List ℕ) (at : ℕ) → get_or g at 0 ≡ last_part x → Guided g (at + last_part x) p → Guided g at x

-- a query of two parts
pub record Pair (x p q : Query) : Type 0 where
  pub front : List ℕ
  pub first : first_part x ≡ length front
  pub last : last_part x ≡ length front + length (write_query p)
  pub written : write_query x ≡ front ++ (write_query p ++ write_query q)
  pub fits : FitsQuery x → FitsQuery p × FitsQuery q
  pub nested : nesting x ≡ suc (max (nesting p) (nesting q))
  pub out : (g : List ℕ) (at : ℕ) → Guided g at x → (get_or g at 0 ≡ last_part x) × Guided g (at + first_part x) p × Guided g (at + last_part x) q
  pub into : (g : List ℕ) (at : ℕ) → get_or g at 0 ≡ last_part x → Guided g (at + first_part x) p → Guided g (at + last_part x) q → Guided g at x

moved_1 : (P : Query → Type 0) (a p : Query) → a ∷ [] ≡ p ∷ [] → P a → P p
moved_1 P a p e h = let s : a ≡ p = cc in subst P s h

moved_2 : (P : Query → Query → Type 0) (a b p q : Query) → a ∷ b ∷ [] ≡ p ∷ q ∷ [] → P a b → P p q
moved_2 P a b p q e h = let s : a ≡ p = cc in let t : b ≡ q = cc in subst (λ (v : Query). P p v) t (subst (λ (v : Query). P v b) s h)

no_one : (p : Query) → [] ≡ p ∷ [] → ⊥
no_one p e = omega (arith, ap length e)

no_two : (p q : Query) → [] ≡ p ∷ q ∷ [] → ⊥
no_two p q e = omega (arith, ap length e)

one_not_two : (a p q : Query) → a ∷ [] ≡ p ∷ q ∷ [] → ⊥
one_not_two a p q e = omega (arith, ap length e)

two_not_one : (a b p : Query) → a ∷ b ∷ [] ≡ p ∷ [] → ⊥
two_not_one a b p e = omega (arith, ap length e)

pub single : (x p : Query) → parts x ≡ p ∷ [] → Single x p
unfolding first_part last_part Guided nesting write_query FitsQuery
single (table n) p e = absurd (no_one p e)
single it p e = absurd (no_one p e)
single env p e = absurd (no_one p e)
single (just t d) p e = absurd (no_one p e)
single (two o a b) p e = absurd (two_not_one a b p e)
single (one o a) p e =
    moved_1 (Single (one o a)) a p e
    record { front = write_1 o; first = refl; last = refl; written = refl; fits = λ f. f.1; nested = refl; out = λ g at h. h; into = λ g at h k. (h, k) }
single (each a b) p e = absurd (two_not_one a b p e)
single (keep a b) p e = absurd (two_not_one a b p e)
single (product a b) p e = absurd (two_not_one a b p e)
single (matched m n a b) p e = absurd (two_not_one a b p e)
single (default a b) p e = absurd (two_not_one a b p e)
single (as_left t a) p e =
    let l : 1 + length (write_ty t) ≡ suc (length (write_ty t)) = omega arith in
    moved_1 (Single (as_left t a)) a p e
    record { front = 27 ∷ write_ty t; first = l; last = l; written = refl; fits = λ f. f.1; nested = refl; out = λ g at h. h; into = λ g at h k. (h, k) }
single (as_right t a) p e =
    let l : 1 + length (write_ty t) ≡ suc (length (write_ty t)) = omega arith in
    moved_1 (Single (as_right t a)) a p e
    record { front = 28 ∷ write_ty t; first = l; last = l; written = refl; fits = λ f. f.1; nested = refl; out = λ g at h. h; into = λ g at h k. (h, k) }
single (either a b) p e = absurd (two_not_one a b p e)
single (then a b) p e = absurd (two_not_one a b p e)
single (with_env a b) p e = absurd (two_not_one a b p e)

-- a query of two parts of which nothing but a tag comes before them
tagged : (x p q : Query) (t : ℕ) → first_part x ≡ 1 → last_part x ≡ 1 + length (write_query p) → write_query x ≡ t ∷ (write_query p ++ write_query q)
    → (FitsQuery x → FitsQuery p × FitsQuery q) → nesting x ≡ suc (max (nesting p) (nesting q))
    → ((g : List ℕ) (at : ℕ) → Guided g at x → (get_or g at 0 ≡ last_part x) × Guided g (at + first_part x) p × Guided g (at + last_part x) q)
    → ((g : List ℕ) (at : ℕ) → get_or g at 0 ≡ last_part x → Guided g (at + first_part x) p → Guided g (at + last_part x) q → Guided g at x) → Pair x p q
tagged x p q t first last written fits nested out into = record { front = t ∷ []; first = first; last = last; written = written; fits = fits; nested = nested; out = out; into = into }

pub pair : (x p q : Query) → parts x ≡ p ∷ q ∷ [] → Pair x p q
unfolding first_part last_part Guided nesting write_query FitsQuery
pair (table n) p q e = absurd (no_two p q e)
pair it p q e = absurd (no_two p q e)
pair env p q e = absurd (no_two p q e)
pair (just t d) p q e = absurd (no_two p q e)
pair (two o a b) p q e = moved_2 (Pair (two o a b)) a b p q e (tagged (two o a b) a b (tag_2 o) refl refl refl (λ f. f) refl (λ g at h. h) (λ g at h k l. (h, k, l)))
pair (one o a) p q e = absurd (one_not_two a p q e)
pair (each a b) p q e = moved_2 (Pair (each a b)) a b p q e (tagged (each a b) a b 22 refl refl refl (λ f. f) refl (λ g at h. h) (λ g at h k l. (h, k, l)))
pair (keep a b) p q e = moved_2 (Pair (keep a b)) a b p q e (tagged (keep a b) a b 23 refl refl refl (λ f. f) refl (λ g at h. h) (λ g at h k l. (h, k, l)))
pair (product a b) p q e = moved_2 (Pair (product a b)) a b p q e (tagged (product a b) a b 24 refl refl refl (λ f. f) refl (λ g at h. h) (λ g at h k l. (h, k, l)))
pair (matched m n a b) p q e =
    let ns : List ℕ = name.write m ++ name.write n in
    let l : 1 + length ns ≡ suc (length ns) = omega arith in
    moved_2 (Pair (matched m n a b)) a b p q e
    record { front = 25 ∷ ns; first = l; last = ap (λ (v : ℕ). v + length (write_query a)) l; written = refl; fits = λ f. f.1; nested = refl; out = λ g at h. h; into = λ g at h k l. (h, k, l) }
pair (default a b) p q e = moved_2 (Pair (default a b)) a b p q e (tagged (default a b) a b 26 refl refl refl (λ f. f) refl (λ g at h. h) (λ g at h k l. (h, k, l)))
pair (as_left t a) p q e = absurd (one_not_two a p q e)
pair (as_right t a) p q e = absurd (one_not_two a p q e)
pair (either a b) p q e = moved_2 (Pair (either a b)) a b p q e (tagged (either a b) a b 29 refl refl refl (λ f. f) refl (λ g at h. h) (λ g at h k l. (h, k, l)))
pair (then a b) p q e = moved_2 (Pair (then a b)) a b p q e (tagged (then a b) a b 30 refl refl refl (λ f. f) refl (λ g at h. h) (λ g at h k l. (h, k, l)))
pair (with_env a b) p q e = moved_2 (Pair (with_env a b)) a b p q e (tagged (with_env a b) a b 31 refl refl refl (λ f. f) refl (λ g at h. h) (λ g at h k l. (h, k, l)))

-- a query without parts is not nested
pub leaf_nested : (x : Query) → parts x ≡ [] → nesting x ≡ 1
unfolding nesting
leaf_nested (table n) e = refl
leaf_nested it e = refl
leaf_nested env e = refl
leaf_nested (just t d) e = refl
leaf_nested (two o a b) e = absurd (omega (arith, ap length e))
leaf_nested (one o a) e = absurd (omega (arith, ap length e))
leaf_nested (each a b) e = absurd (omega (arith, ap length e))
leaf_nested (keep a b) e = absurd (omega (arith, ap length e))
leaf_nested (product a b) e = absurd (omega (arith, ap length e))
leaf_nested (matched m n a b) e = absurd (omega (arith, ap length e))
leaf_nested (default a b) e = absurd (omega (arith, ap length e))
leaf_nested (as_left t a) e = absurd (omega (arith, ap length e))
leaf_nested (as_right t a) e = absurd (omega (arith, ap length e))
leaf_nested (either a b) e = absurd (omega (arith, ap length e))
leaf_nested (then a b) e = absurd (omega (arith, ap length e))
leaf_nested (with_env a b) e = absurd (omega (arith, ap length e))

-- how many bytes there are in all
pub single_long : (x p : Query) → Single x p → length (write_query x) ≡ first_part x + length (write_query p)
single_long x p s = ap length s.written ∙ length-append s.front (write_query p) ∙ ap (λ (v : ℕ). v + length (write_query p)) (sym s.first)

pub pair_long : (x p q : Query) → Pair x p q → length (write_query x) ≡ last_part x + length (write_query q)
pair_long x p q s =
    let a = length-append s.front (write_query p ++ write_query q) in
    let b = length-append (write_query p) (write_query q) in
    omega (arith, ap length s.written, s.last)
