-- Which of two data comes first: by kind, then by what they hold. The order is total, and only data that are the same are alike.
use Rattle.std.specs.Prelude.{◌≡◌, Bool, true, false, List, [], ◌∷◌, ℕ, ltb, eqb}
use Rattle.query.specs.Data.{pick, Name, Data, unit, num, truth, text, bag, rec, left, right, Datas, none, more, Fields, no_field, field, same, same_text, less_text}

-- which of two comes first
pub data Way : Type 0 where
  before : Way
  alike : Way
  behind : Way

-- the first unless it is alike, else the second
unfoldable pub then_way : Way → Way → Way
then_way before w = before
then_way alike w = w
then_way behind w = behind

unfoldable pub flip : Way → Way
flip before = behind
flip alike = alike
flip behind = before

unfoldable pub way_num : ℕ → ℕ → Way
way_num m n = pick (ltb m n) before (pick (eqb m n) alike behind)

-- byte by byte; a text that has ended comes before one that goes on
unfoldable pub way_text : List ℕ → List ℕ → Way
way_text [] [] = alike
way_text [] (y ∷ ys) = before
way_text (x ∷ xs) [] = behind
way_text (x ∷ xs) (y ∷ ys) = then_way (way_num x y) (way_text xs ys)

-- false comes before true
unfoldable pub way_truth : Bool → Bool → Way
way_truth true true = alike
way_truth true false = behind
way_truth false true = before
way_truth false false = alike

-- the place of a datum's kind among the kinds
unfoldable pub rank : Data → ℕ
rank unit = 0
rank (num n) = 1
rank (truth b) = 2
rank (text t) = 3
rank (bag ds) = 4
rank (rec fs) = 5
rank (left d) = 6
rank (right d) = 7

-- by what a datum of one kind holds; a datum of another kind goes the way given
unfoldable pub on_num_way : Way → (ℕ → Way) → Data → Way
on_num_way w f unit = w
on_num_way w f (num y) = f y
on_num_way w f (truth y) = w
on_num_way w f (text y) = w
on_num_way w f (bag y) = w
on_num_way w f (rec y) = w
on_num_way w f (left y) = w
on_num_way w f (right y) = w

unfoldable pub on_truth_way : Way → (Bool → Way) → Data → Way
on_truth_way w f unit = w
on_truth_way w f (num y) = w
on_truth_way w f (truth y) = f y
on_truth_way w f (text y) = w
on_truth_way w f (bag y) = w
on_truth_way w f (rec y) = w
on_truth_way w f (left y) = w
on_truth_way w f (right y) = w

unfoldable pub on_text_way : Way → (List ℕ → Way) → Data → Way
on_text_way w f unit = w
on_text_way w f (num y) = w
on_text_way w f (truth y) = w
on_text_way w f (text y) = f y
on_text_way w f (bag y) = w
on_text_way w f (rec y) = w
on_text_way w f (left y) = w
on_text_way w f (right y) = w

unfoldable pub on_bag_way : Way → (Datas → Way) → Data → Way
on_bag_way w f unit = w
on_bag_way w f (num y) = w
on_bag_way w f (truth y) = w
on_bag_way w f (text y) = w
on_bag_way w f (bag y) = f y
on_bag_way w f (rec y) = w
on_bag_way w f (left y) = w
on_bag_way w f (right y) = w

unfoldable pub on_rec_way : Way → (Fields → Way) → Data → Way
on_rec_way w f unit = w
on_rec_way w f (num y) = w
on_rec_way w f (truth y) = w
on_rec_way w f (text y) = w
on_rec_way w f (bag y) = w
on_rec_way w f (rec y) = f y
on_rec_way w f (left y) = w
on_rec_way w f (right y) = w

unfoldable pub on_left_way : Way → (Data → Way) → Data → Way
on_left_way w f unit = w
on_left_way w f (num y) = w
on_left_way w f (truth y) = w
on_left_way w f (text y) = w
on_left_way w f (bag y) = w
on_left_way w f (rec y) = w
on_left_way w f (left y) = f y
on_left_way w f (right y) = w

unfoldable pub on_right_way : Way → (Data → Way) → Data → Way
on_right_way w f unit = w
on_right_way w f (num y) = w
on_right_way w f (truth y) = w
on_right_way w f (text y) = w
on_right_way w f (bag y) = w
on_right_way w f (rec y) = w
on_right_way w f (left y) = w
on_right_way w f (right y) = f y

-- parts: what has ended comes before what goes on
unfoldable pub on_none_way : Datas → Way
on_none_way none = alike
on_none_way (more d ds) = before

unfoldable pub on_more_way : (Data → Way) → (Datas → Way) → Datas → Way
on_more_way f g none = behind
on_more_way f g (more d ds) = then_way (f d) (g ds)

unfoldable pub on_no_field_way : Fields → Way
on_no_field_way no_field = alike
on_no_field_way (field n d fs) = before

unfoldable pub on_field_way : Name → (Data → Way) → (Fields → Way) → Fields → Way
on_field_way n f g no_field = behind
on_field_way n f g (field m d fs) = then_way (way_text n m) (then_way (f d) (g fs))

unfoldable mutual
  pub way : Data → Data → Way
  way unit e = way_num 0 (rank e)
  way (num n) e = on_num_way (way_num 1 (rank e)) (λ m. way_num n m) e
  way (truth b) e = on_truth_way (way_num 2 (rank e)) (λ c. way_truth b c) e
  way (text t) e = on_text_way (way_num 3 (rank e)) (λ s. way_text t s) e
  way (bag ds) e = on_bag_way (way_num 4 (rank e)) (λ es. way_all ds es) e
  way (rec fs) e = on_rec_way (way_num 5 (rank e)) (λ gs. way_fields fs gs) e
  way (left d) e = on_left_way (way_num 6 (rank e)) (λ x. way d x) e
  way (right d) e = on_right_way (way_num 7 (rank e)) (λ x. way d x) e

  -- part by part
  pub way_all : Datas → Datas → Way
  way_all none es = on_none_way es
  way_all (more d ds) es = on_more_way (λ x. way d x) (λ xs. way_all ds xs) es

  -- field by field: the name, then the datum, then the rest
  pub way_fields : Fields → Fields → Way
  way_fields no_field gs = on_no_field_way gs
  way_fields (field n d fs) gs = on_field_way n (λ x. way d x) (λ xs. way_fields fs xs) gs

-- only what is the same is alike
unfoldable pub AlikeIsSame : Type 0
AlikeIsSame = (d e : Data) → (way d e ≡ alike → d ≡ e) × (way d d ≡ alike)

unfoldable pub AlikeTextIsSame : Type 0
AlikeTextIsSame = (a b : List ℕ) → (way_text a b ≡ alike → a ≡ b) × (way_text a a ≡ alike)

unfoldable pub AlikeIffSame : Type 0
AlikeIffSame = (d e : Data) → (way d e ≡ alike → same d e ≡ true) × (same d e ≡ true → way d e ≡ alike)

-- the other way round: of two data that differ, one comes before the other, and not both
unfoldable pub WayFlips : Type 0
WayFlips = (d e : Data) → way e d ≡ flip (way d e)

unfoldable pub WayTransits : Type 0
WayTransits = (d e f : Data) → way d e ≡ before → way e f ≡ before → way d f ≡ before

-- names go by the order in which a record has them
unfoldable pub WayTextIsLess : Type 0
WayTextIsLess =
    (a b : List ℕ) →
    (way_text a b ≡ before → less_text a b ≡ true) × (less_text a b ≡ true → way_text a b ≡ before)
    × (way_text a b ≡ alike → same_text a b ≡ true) × (same_text a b ≡ true → way_text a b ≡ alike)
