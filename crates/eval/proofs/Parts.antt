-- Parts of a query: where they stand, how large they are, which names they have.
use Rattle.std.proofs.Common.{◌≡◌, ℕ, ◌+◌, ◌<◌, ◌≤◌, true, List, [], ◌∷◌, ◌++◌, length, get_or, drop, sym, refl, ap, ◌∙◌, arith, length-append, length-drop}
use Rattle.std.proofs.lemmas.List.{drop-drop}
use Rattle.query.specs.Data.{Name, one_of, Datas}
use Rattle.query.specs.Query.{Op1, not_so, in_bag, flat, count, sum, distinct, dot, as_field, without, project, Query, default, either}
use Rattle.query.specs.Size.{size_q}
use Rattle.query.proofs.Tests.{and_l, and_r, and_i}
use Rattle.format.specs.Wire.{write_1, write_query}
use Rattle.format.specs.Lists.{from, from_drop}
use Rattle.bounds.specs.Names.{query_names, op_names, names_in, all_in}
use Rattle.guide.specs.Guide.{first_part, last_part}
use Rattle.guide.proofs.Shapes.{parts, single, pair}
use Rattle.guide.proofs.Standing.{only_stands, first_stands, last_stands}
use Rattle.operators.specs.Applied.{Made1, op1, on_left, on_right, one_query, Made2, op2, all, where_same, two_query}
use Rattle.eval.specs.Shaped.{over_query}
use Rattle.eval.specs.Ready.{Setting, Stands}
use Rattle.literals.specs.Numbered.{Numbered}
use Rattle.eval.specs.declared.shape.Over.{Over}
use Rattle.eval.specs.declared.shape.Over.TheVariants as ov

-- names of a part
pub all_in_l : (xs ys ns : List Name) → all_in (xs ++ ys) ns ≡ true → all_in xs ns ≡ true
unfolding all_in
all_in_l [] ys ns h = refl
all_in_l (a ∷ xs) ys ns h = and_i (one_of a ns) (all_in xs ns) (and_l (one_of a ns) (all_in (xs ++ ys) ns) h) (all_in_l xs ys ns (and_r (one_of a ns) (all_in (xs ++ ys) ns) h))

pub all_in_r : (xs ys ns : List Name) → all_in (xs ++ ys) ns ≡ true → all_in ys ns ≡ true
unfolding all_in
all_in_r [] ys ns h = h
all_in_r (a ∷ xs) ys ns h = all_in_r xs ys ns (and_r (one_of a ns) (all_in (xs ++ ys) ns) h)

pub record OnePart (x p : Query) : Type 0 where
  pub parts_are : parts x ≡ p ∷ []
  pub some : 1 ≤ last_part x
  pub size : size_q p + 1 ≤ size_q x
  pub names : (ns : List Name) → all_in (query_names x) ns ≡ true → all_in (query_names p) ns ≡ true
  pub numbered : (l : List ℕ) (ds : Datas) (at : ℕ) → Numbered l ds at x → Numbered l ds (at + last_part x) p

pub record TwoParts (x p q : Query) : Type 0 where
  pub parts_are : parts x ≡ p ∷ q ∷ []
  pub some : 1 ≤ first_part x
  pub size : size_q p + size_q q + 1 ≤ size_q x
  pub names : (ns : List Name) → all_in (query_names x) ns ≡ true → (all_in (query_names p) ns ≡ true) × (all_in (query_names q) ns ≡ true)
  pub numbered : (l : List ℕ) (ds : Datas) (at : ℕ) → Numbered l ds at x → Numbered l ds (at + first_part x) p × Numbered l ds (at + last_part x) q

some_1 : (o : Op1) → 1 ≤ length (write_1 o)
unfolding write_1
some_1 not_so = omega arith
some_1 in_bag = omega arith
some_1 flat = omega arith
some_1 count = omega arith
some_1 sum = omega arith
some_1 distinct = omega arith
some_1 (dot n) = omega arith
some_1 (as_field n) = omega arith
some_1 (without n) = omega arith
some_1 (project ns) = omega arith

pub one_part : (k : Made1) (p : Query) → OnePart (one_query k p) p
unfolding size_q query_names Numbered last_part
one_part (op1 o) p = record { parts_are = refl; some = some_1 o; size = omega arith; names = λ ns h. all_in_r (op_names o) (query_names p) ns h; numbered = λ l ds at h. h }
one_part (on_left t) p = record { parts_are = refl; some = omega arith; size = omega arith; names = λ ns h. all_in_r (names_in t) (query_names p) ns h; numbered = λ l ds at h. h }
one_part (on_right t) p = record { parts_are = refl; some = omega arith; size = omega arith; names = λ ns h. all_in_r (names_in t) (query_names p) ns h; numbered = λ l ds at h. h }

both_in : (p q : Query) (ns : List Name) → all_in (query_names p ++ query_names q) ns ≡ true → (all_in (query_names p) ns ≡ true) × (all_in (query_names q) ns ≡ true)
both_in p q ns h = (all_in_l (query_names p) (query_names q) ns h, all_in_r (query_names p) (query_names q) ns h)

pub two_parts : (k : Made2) (p q : Query) → TwoParts (two_query k p q) p q
unfolding size_q query_names Numbered first_part
two_parts (op2 o) p q = record { parts_are = refl; some = omega arith; size = omega arith; names = λ ns h. both_in p q ns h; numbered = λ l ds at h. h }
two_parts all p q = record { parts_are = refl; some = omega arith; size = omega arith; names = λ ns h. both_in p q ns h; numbered = λ l ds at h. h }
two_parts (where_same m n) p q = record { parts_are = refl; some = omega arith; size = omega arith; names = λ ns h. both_in p q ns h; numbered = λ l ds at h. h }

pub over_parts : (o : Over) (p q : Query) → TwoParts (over_query o p q) p q
unfolding size_q query_names Numbered first_part
over_parts ov.Each p q = record { parts_are = refl; some = omega arith; size = omega arith; names = λ ns h. both_in p q ns h; numbered = λ l ds at h. h }
over_parts ov.Keep p q = record { parts_are = refl; some = omega arith; size = omega arith; names = λ ns h. both_in p q ns h; numbered = λ l ds at h. h }
over_parts ov.Then p q = record { parts_are = refl; some = omega arith; size = omega arith; names = λ ns h. both_in p q ns h; numbered = λ l ds at h. h }
over_parts ov.WithEnv p q = record { parts_are = refl; some = omega arith; size = omega arith; names = λ ns h. both_in p q ns h; numbered = λ l ds at h. h }

pub default_parts : (p q : Query) → TwoParts (default p q) p q
unfolding size_q query_names Numbered first_part
default_parts p q = record { parts_are = refl; some = omega arith; size = omega arith; names = λ ns h. both_in p q ns h; numbered = λ l ds at h. h }

pub either_parts : (p q : Query) → TwoParts (either p q) p q
unfolding size_q query_names Numbered first_part
either_parts p q = record { parts_are = refl; some = omega arith; size = omega arith; names = λ ns h. both_in p q ns h; numbered = λ l ds at h. h }

-- a part's bytes are shorter
pub from_length : (i : ℕ) (qs : List ℕ) → 1 ≤ i → i ≤ length qs → length (from i qs) < length qs
from_length i qs h k = omega (arith, ap length (from_drop i qs), length-drop i qs)

spot_on : (bs qs : List ℕ) (a i : ℕ) → drop a bs ≡ qs → drop (a + i) bs ≡ from i qs
spot_on bs qs a i e = sym (drop-drop i a bs) ∙ ap (drop i) e ∙ sym (from_drop i qs)

module _ (S : Setting) (ls : Datas) (qs : List ℕ) (at : ℕ) (x p : Query) (k : OnePart x p) (s : Stands S ls qs at x) where
  written : length (write_query x) ≡ last_part x + length (write_query p)
  written = let y = single x p k.parts_are in ap length y.written ∙ length-append y.front (write_query p) ∙ ap (λ n. n + length (write_query p)) (sym y.last)

  pub only_told : get_or S.guide at 0 ≡ last_part x
  only_told = ((single x p k.parts_are).out S.guide at s.guided).0

  pub only_within : last_part x ≤ length qs
  only_within = omega (arith, ap length s.is, length-append (write_query x) s.rest, written)

  pub only_short : at + last_part x ≤ length S.guide
  only_short = omega (arith, s.guide_long, written)

  pub only_stand : Stands S ls (from (last_part x) qs) (at + last_part x) p
  only_stand =
      let y = single x p k.parts_are in
      let z = only_stands x p qs s.rest k.parts_are s.is in
      let e : S.scene.query_at + (at + last_part x) ≡ S.scene.query_at + at + last_part x = omega arith in
      record {
        rest = s.rest;
        fits = y.fits s.fits;
        is = from_drop (last_part x) qs ∙ ap (λ j. drop j qs) z.0 ∙ z.1;
        spot = ap (λ j. drop j S.bytes) e ∙ spot_on S.bytes qs (S.scene.query_at + at) (last_part x) s.spot;
        guided = (y.out S.guide at s.guided).1;
        guide_long = omega (arith, s.guide_long, written);
        marks_long = omega (arith, s.marks_long, written);
        numbered = k.numbered S.marks ls at s.numbered;
      }

module _ (S : Setting) (ls : Datas) (qs : List ℕ) (at : ℕ) (x p q : Query) (k : TwoParts x p q) (s : Stands S ls qs at x) where
  both_written : length (write_query x) ≡ last_part x + length (write_query q)
  both_written = let y = pair x p q k.parts_are in ap length y.written ∙ omega (arith, length-append y.front (write_query p ++ write_query q), length-append (write_query p) (write_query q), y.last)

  first_written : first_part x + length (write_query p) ≡ last_part x
  first_written = let y = pair x p q k.parts_are in omega (arith, y.last, y.first)

  pub last_told : get_or S.guide at 0 ≡ last_part x
  last_told = ((pair x p q k.parts_are).out S.guide at s.guided).0

  pub last_some : 1 ≤ last_part x
  last_some = omega (arith, k.some, first_written)

  pub last_within : last_part x ≤ length qs
  last_within = omega (arith, ap length s.is, length-append (write_query x) s.rest, both_written)

  pub first_within : first_part x ≤ length qs
  first_within = omega (arith, last_within, first_written)

  pub last_short : at + last_part x ≤ length S.guide
  last_short = omega (arith, s.guide_long, both_written)

  pub first_short : at + first_part x ≤ length S.guide
  first_short = omega (arith, last_short, first_written)

  pub last_stand : Stands S ls (from (last_part x) qs) (at + last_part x) q
  last_stand =
      let y = pair x p q k.parts_are in
      let e : S.scene.query_at + (at + last_part x) ≡ S.scene.query_at + at + last_part x = omega arith in
      record {
        rest = s.rest;
        fits = (y.fits s.fits).1;
        is = from_drop (last_part x) qs ∙ last_stands x p q qs s.rest k.parts_are s.is;
        spot = ap (λ j. drop j S.bytes) e ∙ spot_on S.bytes qs (S.scene.query_at + at) (last_part x) s.spot;
        guided = (y.out S.guide at s.guided).2;
        guide_long = omega (arith, s.guide_long, both_written);
        marks_long = omega (arith, s.marks_long, both_written);
        numbered = (k.numbered S.marks ls at s.numbered).1;
      }

  pub first_stand : Stands S ls (from (first_part x) qs) (at + first_part x) p
  first_stand =
      let y = pair x p q k.parts_are in
      let e : S.scene.query_at + (at + first_part x) ≡ S.scene.query_at + at + first_part x = omega arith in
      record {
        rest = write_query q ++ s.rest;
        fits = (y.fits s.fits).0;
        is = from_drop (first_part x) qs ∙ first_stands x p q qs s.rest k.parts_are s.is;
        spot = ap (λ j. drop j S.bytes) e ∙ spot_on S.bytes qs (S.scene.query_at + at) (first_part x) s.spot;
        guided = (y.out S.guide at s.guided).1;
        guide_long = omega (arith, s.guide_long, both_written, first_written);
        marks_long = omega (arith, s.marks_long, both_written, first_written);
        numbered = (k.numbered S.marks ls at s.numbered).0;
      }
