-- Where the parts of a query stand in its bytes, and what else is written in it.
use Rattle.std.proofs.Common.{◌≡◌, ℕ, suc, ◌+◌, List, [], ◌∷◌, ◌++◌, length, take, drop, sym, refl, ap, ◌∙◌, arith, length-append}
use Rattle.std.proofs.lemmas.List.{append_assoc, drop_at, take_at, drop-drop}
use Rattle.query.specs.Data.{Name, Data}
use Rattle.query.specs.Query.{Op1, dot, as_field, without, project, Ty, Query, just, one, matched, as_left, as_right}
use Rattle.format.specs.Coding.{le, name, writes}
use Rattle.format.specs.Wire.{write_ty, write_data, write_1, write_query}
use Rattle.format.specs.Bytes.{length_le}
use Rattle.guide.specs.Guide.{first_part, last_part}
use Rattle.guide.proofs.Shapes.{parts, single, pair}

-- what comes after a front of so many bytes
after : (n : ℕ) (xs front more : List ℕ) → length front ≡ n → xs ≡ front ++ more → drop n xs ≡ more
after n xs front more l e = ap (drop n) e ∙ drop_at front more n l

-- the one part, and the two
pub only_stands : (x p : Query) (xs rest : List ℕ) → parts x ≡ p ∷ [] → xs ≡ write_query x ++ rest → (last_part x ≡ first_part x) × (drop (first_part x) xs ≡ write_query p ++ rest)
only_stands x p xs rest k e =
    let s = single x p k in
    (s.last ∙ sym s.first, after (first_part x) xs s.front (write_query p ++ rest) (sym s.first) (e ∙ ap (λ (v : List ℕ). v ++ rest) s.written ∙ append_assoc s.front (write_query p) rest))

module _ (x p q : Query) (xs rest : List ℕ) (k : parts x ≡ p ∷ q ∷ []) (e : xs ≡ write_query x ++ rest) where
  in_bytes : xs ≡ (pair x p q k).front ++ (write_query p ++ (write_query q ++ rest))
  in_bytes =
      let s = pair x p q k in
      e ∙ ap (λ (v : List ℕ). v ++ rest) s.written ∙ append_assoc s.front (write_query p ++ write_query q) rest ∙ ap (λ (v : List ℕ). s.front ++ v) (append_assoc (write_query p) (write_query q) rest)

  pub first_stands : drop (first_part x) xs ≡ write_query p ++ (write_query q ++ rest)
  first_stands = let s = pair x p q k in after (first_part x) xs s.front (write_query p ++ (write_query q ++ rest)) (sym s.first) in_bytes

  pub last_stands : drop (last_part x) xs ≡ write_query q ++ rest
  last_stands =
      let s = pair x p q k in
      after (last_part x) xs (s.front ++ write_query p) (write_query q ++ rest) (length-append s.front (write_query p) ∙ sym s.last) (in_bytes ∙ sym (append_assoc s.front (write_query p) (write_query q ++ rest)))

-- what is written out: its type and its datum
module _ (t : Ty) (d : Data) (xs rest : List ℕ) (e : xs ≡ write_query (just t d) ++ rest) where
  pub type_stands : drop 1 xs ≡ write_ty t ++ (write_data d ++ rest)
  unfolding write_query
  type_stands = ap (drop 1) e ∙ append_assoc (write_ty t) (write_data d) rest

  pub datum_stands : drop (last_part (just t d)) xs ≡ write_data d ++ rest
  unfolding write_query last_part
  datum_stands =
      let l : suc (length (write_ty t)) ≡ 1 + length (write_ty t) = omega arith in
      after (1 + length (write_ty t)) xs (3 ∷ write_ty t) (write_data d ++ rest) l (e ∙ ap (λ (v : List ℕ). 3 ∷ v) (append_assoc (write_ty t) (write_data d) rest))

-- the type of the other side
pub left_type_stands : (t : Ty) (q : Query) (xs rest : List ℕ) → xs ≡ write_query (as_left t q) ++ rest → drop 1 xs ≡ write_ty t ++ (write_query q ++ rest)
unfolding write_query
left_type_stands t q xs rest e = ap (drop 1) e ∙ append_assoc (write_ty t) (write_query q) rest

pub right_type_stands : (t : Ty) (q : Query) (xs rest : List ℕ) → xs ≡ write_query (as_right t q) ++ rest → drop 1 xs ≡ write_ty t ++ (write_query q ++ rest)
unfolding write_query
right_type_stands t q xs rest e = ap (drop 1) e ∙ append_assoc (write_ty t) (write_query q) rest

-- a name stands after its length
pub name_stands : (n : Name) (at : ℕ) (xs more : List ℕ) → drop at xs ≡ name.write n ++ more → take (length n) (drop (at + 4) xs) ≡ n
name_stands n at xs more e =
    ap (take (length n)) (sym (drop-drop 4 at xs) ∙ after 4 (drop at xs) (le 4 (length n)) (n ++ more) (length_le 4 (length n)) (e ∙ append_assoc (le 4 (length n)) n more)) ∙ take_at n more (length n) refl

-- an operator by a name, and one by names
named_stands : (o : Op1) (t : ℕ) (n : Name) (q : Query) (xs rest : List ℕ) → write_1 o ≡ t ∷ name.write n → xs ≡ write_query (one o q) ++ rest → take (length n) (drop 5 xs) ≡ n
unfolding write_query
named_stands o t n q xs rest w e =
    name_stands n 1 xs (write_query q ++ rest) (ap (drop 1) (e ∙ ap (λ (v : List ℕ). (v ++ write_query q) ++ rest) w) ∙ append_assoc (name.write n) (write_query q) rest)

pub dot_stands : (n : Name) (q : Query) (xs rest : List ℕ) → xs ≡ write_query (one (dot n) q) ++ rest → take (length n) (drop 5 xs) ≡ n
unfolding write_1
dot_stands n q xs rest e = named_stands (dot n) 18 n q xs rest refl e

pub as_field_stands : (n : Name) (q : Query) (xs rest : List ℕ) → xs ≡ write_query (one (as_field n) q) ++ rest → take (length n) (drop 5 xs) ≡ n
unfolding write_1
as_field_stands n q xs rest e = named_stands (as_field n) 19 n q xs rest refl e

pub without_stands : (n : Name) (q : Query) (xs rest : List ℕ) → xs ≡ write_query (one (without n) q) ++ rest → take (length n) (drop 5 xs) ≡ n
unfolding write_1
without_stands n q xs rest e = named_stands (without n) 20 n q xs rest refl e

pub names_stand : (ns : List Name) (q : Query) (xs rest : List ℕ) → xs ≡ write_query (one (project ns) q) ++ rest → drop 5 xs ≡ writes name ns ++ (write_query q ++ rest)
unfolding write_query write_1
names_stand ns q xs rest e =
    after 5 xs (21 ∷ le 4 (length ns)) (writes name ns ++ (write_query q ++ rest)) (ap suc (length_le 4 (length ns)))
    (e ∙ ap (λ (v : List ℕ). 21 ∷ v) (append_assoc (le 4 (length ns) ++ writes name ns) (write_query q) rest ∙ append_assoc (le 4 (length ns)) (writes name ns) (write_query q ++ rest)))

-- the two names of a match
module _ (m n : Name) (p q : Query) (xs rest : List ℕ) (e : xs ≡ write_query (matched m n p q) ++ rest) where
  both_stand : drop 1 xs ≡ name.write m ++ (name.write n ++ ((write_query p ++ write_query q) ++ rest))
  unfolding write_query
  both_stand =
      ap (drop 1) e ∙ append_assoc (name.write m ++ name.write n) (write_query p ++ write_query q) rest
      ∙ append_assoc (name.write m) (name.write n) ((write_query p ++ write_query q) ++ rest)

  pub first_name_stands : take (length m) (drop 5 xs) ≡ m
  first_name_stands = name_stands m 1 xs (name.write n ++ ((write_query p ++ write_query q) ++ rest)) both_stand

  pub second_name_stands : take (length n) (drop (9 + length m) xs) ≡ n
  second_name_stands =
      let l : length (name.write m) ≡ 4 + length m = length-append (le 4 (length m)) m ∙ ap (λ (v : ℕ). v + length m) (length_le 4 (length m)) in
      let f : drop (1 + (4 + length m)) xs ≡ name.write n ++ ((write_query p ++ write_query q) ++ rest)
      = sym (drop-drop (4 + length m) 1 xs) ∙ after (4 + length m) (drop 1 xs) (name.write m) (name.write n ++ ((write_query p ++ write_query q) ++ rest)) l both_stand in
      let z : 9 + length m ≡ (1 + (4 + length m)) + 4 = omega arith in
      ap (λ (v : ℕ). take (length n) (drop v xs)) z ∙ name_stands n (1 + (4 + length m)) xs ((write_query p ++ write_query q) ++ rest) f
