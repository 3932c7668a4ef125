-- Data: what tables hold and what queries come to. Numbers, truths, texts, bags, records and the two sides of an either.
use Rattle.std.specs.Prelude.{Bool, true, false, not, ◌&&◌, ◌||◌, List, [], ◌∷◌, ℕ, suc, ltb, eqb}

unfoldable pub pick : {A : Type 0} → Bool → A → A → A
pick true a b = a
pick false a b = b

unfoldable pub same_text : List ℕ → List ℕ → Bool
same_text [] [] = true
same_text [] (y ∷ ys) = false
same_text (x ∷ xs) [] = false
same_text (x ∷ xs) (y ∷ ys) = eqb x y && same_text xs ys

unfoldable pub less_text : List ℕ → List ℕ → Bool
less_text [] [] = false
less_text [] (y ∷ ys) = true
less_text (x ∷ xs) [] = false
less_text (x ∷ xs) (y ∷ ys) = ltb x y || (eqb x y && less_text xs ys)

abbrev pub Name : Type 0
Name = List ℕ

mutual
  pub data Data : Type 0 where
    unit : Data
    num : ℕ → Data
    truth : Bool → Data
    text : List ℕ → Data
    bag : Datas → Data
    rec : Fields → Data
    left : Data → Data
    right : Data → Data

  pub data Datas : Type 0 where
    none : Datas
    more : Data → Datas → Datas

  -- in the order of names, each once
  pub data Fields : Type 0 where
    no_field : Fields
    field : Name → Data → Fields → Fields

unfoldable pub is_unit : Data → Bool
is_unit unit = true
is_unit (num y) = false
is_unit (truth y) = false
is_unit (text y) = false
is_unit (bag y) = false
is_unit (rec y) = false
is_unit (left y) = false
is_unit (right y) = false

unfoldable pub is_num : ℕ → Data → Bool
is_num n unit = false
is_num n (num y) = eqb n y
is_num n (truth y) = false
is_num n (text y) = false
is_num n (bag y) = false
is_num n (rec y) = false
is_num n (left y) = false
is_num n (right y) = false

unfoldable pub is_truth : Bool → Data → Bool
is_truth b unit = false
is_truth b (num y) = false
is_truth b (truth y) = (b && y) || (not b && not y)
is_truth b (text y) = false
is_truth b (bag y) = false
is_truth b (rec y) = false
is_truth b (left y) = false
is_truth b (right y) = false

unfoldable pub is_text : List ℕ → Data → Bool
is_text t unit = false
is_text t (num y) = false
is_text t (truth y) = false
is_text t (text y) = same_text t y
is_text t (bag y) = false
is_text t (rec y) = false
is_text t (left y) = false
is_text t (right y) = false

unfoldable pub is_bag : (Datas → Bool) → Data → Bool
is_bag f unit = false
is_bag f (num y) = false
is_bag f (truth y) = false
is_bag f (text y) = false
is_bag f (bag y) = f y
is_bag f (rec y) = false
is_bag f (left y) = false
is_bag f (right y) = false

unfoldable pub is_rec : (Fields → Bool) → Data → Bool
is_rec f unit = false
is_rec f (num y) = false
is_rec f (truth y) = false
is_rec f (text y) = false
is_rec f (bag y) = false
is_rec f (rec y) = f y
is_rec f (left y) = false
is_rec f (right y) = false

unfoldable pub is_left : (Data → Bool) → Data → Bool
is_left f unit = false
is_left f (num y) = false
is_left f (truth y) = false
is_left f (text y) = false
is_left f (bag y) = false
is_left f (rec y) = false
is_left f (left y) = f y
is_left f (right y) = false

unfoldable pub is_right : (Data → Bool) → Data → Bool
is_right f unit = false
is_right f (num y) = false
is_right f (truth y) = false
is_right f (text y) = false
is_right f (bag y) = false
is_right f (rec y) = false
is_right f (left y) = false
is_right f (right y) = f y

unfoldable pub is_none : Datas → Bool
is_none none = true
is_none (more d ds) = false

unfoldable pub is_more : (Data → Bool) → (Datas → Bool) → Datas → Bool
is_more f g none = false
is_more f g (more d ds) = f d && g ds

unfoldable pub is_no_field : Fields → Bool
is_no_field no_field = true
is_no_field (field n d fs) = false

unfoldable pub is_field : Name → (Data → Bool) → (Fields → Bool) → Fields → Bool
is_field n f g no_field = false
is_field n f g (field m d fs) = same_text n m && (f d && g fs)

unfoldable mutual
  pub same : Data → Data → Bool
  same unit e = is_unit e
  same (num n) e = is_num n e
  same (truth b) e = is_truth b e
  same (text t) e = is_text t e
  same (bag ds) e = is_bag (λ es. same_all ds es) e
  same (rec fs) e = is_rec (λ gs. same_fields fs gs) e
  same (left d) e = is_left (λ x. same d x) e
  same (right d) e = is_right (λ x. same d x) e

  pub same_all : Datas → Datas → Bool
  same_all none es = is_none es
  same_all (more d ds) es = is_more (λ x. same d x) (λ xs. same_all ds xs) es

  pub same_fields : Fields → Fields → Bool
  same_fields no_field gs = is_no_field gs
  same_fields (field n d fs) gs = is_field n (λ x. same d x) (λ xs. same_fields fs xs) gs

-- bags
unfoldable pub join : Datas → Datas → Datas
join none es = es
join (more d ds) es = more d (join ds es)

unfoldable pub how_many : Datas → ℕ
how_many none = 0
how_many (more d ds) = suc (how_many ds)

unfoldable pub is_in : Data → Datas → Bool
is_in d none = false
is_in d (more e es) = same d e || is_in d es

-- each once, the last of the same kept
unfoldable pub once : Datas → Datas
once none = none
once (more d ds) = pick (is_in d (once ds)) (once ds) (more d (once ds))

-- records: a field, none or one; put in; left out; all of both, the second's where both have one
unfoldable pub get : Name → Fields → List Data
get n no_field = []
get n (field m d fs) = pick (same_text n m) (d ∷ []) (get n fs)

unfoldable pub put : Name → Data → Fields → Fields
put n d no_field = field n d no_field
put n d (field m e fs) = pick (same_text n m) (field n d fs) (pick (less_text n m) (field n d (field m e fs)) (field m e (put n d fs)))

unfoldable pub left_out : Name → Fields → Fields
left_out n no_field = no_field
left_out n (field m d fs) = pick (same_text n m) fs (field m d (left_out n fs))

unfoldable pub both : Fields → Fields → Fields
both fs no_field = fs
both fs (field n d gs) = both (put n d fs) gs

unfoldable pub one_of : Name → List Name → Bool
one_of n [] = false
one_of n (m ∷ ms) = same_text n m || one_of n ms

unfoldable pub only : List Name → Fields → Fields
only ns no_field = no_field
only ns (field m d fs) = pick (one_of m ns) (field m d (only ns fs)) (only ns fs)

-- the first field, if there is one, comes after a name
unfoldable pub after_name : Name → Fields → Bool
after_name n no_field = true
after_name n (field m d fs) = less_text n m

unfoldable pub in_order : Fields → Bool
in_order no_field = true
in_order (field n d fs) = after_name n fs && in_order fs
