-- Parts of a query: where they stand, how large they are, which names they have, and how many types and fields theirs may take.
use Rattle.std.proofs.Common.{◌≡◌, ℕ, ◌+◌, ◌-◌, ◌*◌, ◌≤◌, List, [], ◌∷◌, ◌++◌, length, get_or, drop, sym, refl, ap, ◌∙◌, subst, arith, length-append, length-drop}
use Rattle.std.proofs.lemmas.List.{drop-drop}
use Rattle.query.specs.Data.{Name}
use Rattle.query.specs.Query.{Query, table, it, env, just, two, one, each, keep, product, matched, default, as_left, as_right, either, then, with_env}
use Rattle.query.specs.Size.{size_q}
use Rattle.format.specs.Coding.{name}
use Rattle.format.specs.Wire.{write_1, write_ty, write_data, write_query}
use Rattle.guide.specs.Guide.{first_part, last_part, Guided}
use Rattle.guide.proofs.Shapes.{parts, single, pair}
use Rattle.guide.proofs.Standing.{only_stands, first_stands, last_stands}
use Rattle.ranks.specs.Known.{Knows}
use Rattle.typing.specs.Costs.{wide}
use Rattle.typed.specs.Shaped.{Made1, op1, on_left, on_right, one_query, one_types, one_fields, Made2, op2, all, where_same, or_else, two_query, over_query}
use Rattle.typed.specs.Walks.{Setting, Asked, names_in}
use Rattle.typed.specs.declared.shape.Over.{Over}
use Rattle.typed.specs.declared.shape.Over.TheVariants as ov

-- one part, and what the query costs besides it
pub record OnePart (x p : Query) (f : ℕ) (s : ℕ → ℕ) : Type 0 where
  pub parts_are : parts x ≡ p ∷ []
  pub size : size_q p + 1 ≤ size_q x
  pub types : 2 * size_q p + f ≤ 2 * size_q x
  pub fields : (w : ℕ) → wide w p + s w ≤ wide w x
  pub knows : (ns : List Name) → Knows ns x → Knows ns p

pub record TwoParts (x p q : Query) : Type 0 where
  pub parts_are : parts x ≡ p ∷ q ∷ []
  pub size : size_q p + size_q q + 1 ≤ size_q x
  pub fields : (w : ℕ) → w + (wide w p + wide w q) ≤ wide w x
  pub knows : (ns : List Name) → Knows ns x → Knows ns p × Knows ns q

pub one_part : (k : Made1) (p : Query) → OnePart (one_query k p) p (one_types k) (λ w. one_fields w k)
unfolding size_q wide Knows
one_part (op1 o) p = record { parts_are = refl; size = omega arith; types = omega arith; fields = λ w. omega arith; knows = λ ns k. k.1 }
one_part (on_left t) p = record { parts_are = refl; size = omega arith; types = omega arith; fields = λ w. omega arith; knows = λ ns k. k.1 }
one_part (on_right t) p = record { parts_are = refl; size = omega arith; types = omega arith; fields = λ w. omega arith; knows = λ ns k. k.1 }

pub two_parts : (k : Made2) (p q : Query) → TwoParts (two_query k p q) p q
unfolding size_q wide Knows
two_parts (op2 o) p q = record { parts_are = refl; size = omega arith; fields = λ w. omega arith; knows = λ ns k. k }
two_parts all p q = record { parts_are = refl; size = omega arith; fields = λ w. omega arith; knows = λ ns k. k }
two_parts (where_same m n) p q = record { parts_are = refl; size = omega arith; fields = λ w. omega arith; knows = λ ns k. k.1 }
two_parts or_else p q = record { parts_are = refl; size = omega arith; fields = λ w. omega arith; knows = λ ns k. k }

pub over_parts : (o : Over) (p q : Query) → TwoParts (over_query o p q) p q
unfolding size_q wide Knows
over_parts ov.Each p q = record { parts_are = refl; size = omega arith; fields = λ w. omega arith; knows = λ ns k. k }
over_parts ov.Keep p q = record { parts_are = refl; size = omega arith; fields = λ w. omega arith; knows = λ ns k. k }

pub then_parts : (p q : Query) → TwoParts (then p q) p q
unfolding size_q wide Knows
then_parts p q = record { parts_are = refl; size = omega arith; fields = λ w. omega arith; knows = λ ns k. k }

pub env_parts : (p q : Query) → TwoParts (with_env p q) p q
unfolding size_q wide Knows
env_parts p q = record { parts_are = refl; size = omega arith; fields = λ w. omega arith; knows = λ ns k. k }

pub either_parts : (p q : Query) → TwoParts (either p q) p q
unfolding size_q wide Knows
either_parts p q = record { parts_are = refl; size = omega arith; fields = λ w. omega arith; knows = λ ns k. k }

-- a query's parts begin in its bytes
pub first_within : (q : Query) → first_part q ≤ length (write_query q)
unfolding first_part write_query
first_within (table n) = omega arith
first_within it = omega arith
first_within env = omega arith
first_within (just t d) = omega arith
first_within (two o p q) = omega arith
first_within (one o q) = omega (arith, length-append (write_1 o) (write_query q))
first_within (each p q) = omega arith
first_within (keep p q) = omega arith
first_within (product p q) = omega arith
first_within (matched m n p q) = omega (arith, length-append (name.write m ++ name.write n) (write_query p ++ write_query q))
first_within (default p q) = omega arith
first_within (as_left t q) = omega (arith, length-append (write_ty t) (write_query q))
first_within (as_right t q) = omega (arith, length-append (write_ty t) (write_query q))
first_within (either p q) = omega arith
first_within (then p q) = omega arith
first_within (with_env p q) = omega arith

pub last_within : (q : Query) → last_part q ≤ length (write_query q)
unfolding first_part last_part write_query
last_within (table n) = omega arith
last_within it = omega arith
last_within env = omega arith
last_within (just t d) = omega (arith, length-append (write_ty t) (write_data d))
last_within (two o p q) = omega (arith, length-append (write_query p) (write_query q))
last_within (one o q) = omega (arith, length-append (write_1 o) (write_query q))
last_within (each p q) = omega (arith, length-append (write_query p) (write_query q))
last_within (keep p q) = omega (arith, length-append (write_query p) (write_query q))
last_within (product p q) = omega (arith, length-append (write_query p) (write_query q))
last_within (matched m n p q) = omega (arith, length-append (name.write m ++ name.write n) (write_query p ++ write_query q), length-append (write_query p) (write_query q))
last_within (default p q) = omega (arith, length-append (write_query p) (write_query q))
last_within (as_left t q) = omega (arith, length-append (write_ty t) (write_query q))
last_within (as_right t q) = omega (arith, length-append (write_ty t) (write_query q))
last_within (either p q) = omega (arith, length-append (write_query p) (write_query q))
last_within (then p q) = omega (arith, length-append (write_query p) (write_query q))
last_within (with_env p q) = omega (arith, length-append (write_query p) (write_query q))

-- there are as many bytes
pub in_bytes : (S : Setting) (pos depth : ℕ) (q : Query) → Asked S pos depth q → S.base + pos + length (write_query q) ≤ length S.bytes
in_bytes S pos depth q a =
    let w = a.within in
    omega (arith, ap length a.stands, length-append (write_query q) a.rest, length-drop (S.base + pos) S.bytes)

-- what stands so many bytes further
pub further : (S : Setting) (pos n next : ℕ) (more : List ℕ) → next ≡ pos + n → drop n (drop (S.base + pos) S.bytes) ≡ more → drop (S.base + next) S.bytes ≡ more
further S pos n next more e f =
    let k : S.base + next ≡ S.base + pos + n = omega arith in
    ap (λ (z : ℕ). drop z S.bytes) k ∙ (sym (drop-drop n (S.base + pos) S.bytes) ∙ f)

module _ {S : Setting} {pos depth : ℕ} {x p : Query} {f : ℕ} {s : ℕ → ℕ} (k : OnePart x p f s) (a : Asked S pos depth x) where
  pub only_told : get_or S.guide pos 0 ≡ last_part x
  only_told = ((single x p k.parts_are).out S.guide pos a.guided).0

  pub only_asked : (next : ℕ) → next ≡ pos + last_part x → Asked S next (depth - 1) p
  only_asked next e =
      let y = single x p k.parts_are in
      let z = only_stands x p (drop (S.base + pos) S.bytes) a.rest k.parts_are a.stands in
      let n = in_bytes S pos depth x a in
      let m = last_within x in
      let h = k.size in
      let d = a.deep in
      let n2 = y.nested in
      let l = a.few in
      record {
        rest = a.rest;
        fits = y.fits a.fits;
        within = omega arith;
        stands = further S pos (first_part x) next (write_query p ++ a.rest) (e ∙ ap (λ (v : ℕ). pos + v) z.0) z.1;
        guided = subst (λ (v : ℕ). Guided S.guide v p) (sym e) (y.out S.guide pos a.guided).1;
        knows = k.knows (names_in S) a.knows;
        deep = omega arith;
        few = omega arith;
      }

module _ {S : Setting} {pos depth : ℕ} {x p q : Query} (k : TwoParts x p q) (a : Asked S pos depth x) where
  pub both_told : get_or S.guide pos 0 ≡ last_part x
  both_told = ((pair x p q k.parts_are).out S.guide pos a.guided).0

  pub first_asked : (next : ℕ) → next ≡ pos + first_part x → Asked S next (depth - 1) p
  first_asked next e =
      let y = pair x p q k.parts_are in
      let n = in_bytes S pos depth x a in
      let m = first_within x in
      let h = k.size in
      let d = a.deep in
      let n2 = y.nested in
      let l = a.few in
      record {
        rest = write_query q ++ a.rest;
        fits = (y.fits a.fits).0;
        within = omega arith;
        stands = further S pos (first_part x) next (write_query p ++ (write_query q ++ a.rest)) e (first_stands x p q (drop (S.base + pos) S.bytes) a.rest k.parts_are a.stands);
        guided = subst (λ (v : ℕ). Guided S.guide v p) (sym e) (y.out S.guide pos a.guided).1;
        knows = (k.knows (names_in S) a.knows).0;
        deep = omega arith;
        few = omega arith;
      }

  pub last_asked : (next : ℕ) → next ≡ pos + last_part x → Asked S next (depth - 1) q
  last_asked next e =
      let y = pair x p q k.parts_are in
      let n = in_bytes S pos depth x a in
      let m = last_within x in
      let h = k.size in
      let d = a.deep in
      let n2 = y.nested in
      let l = a.few in
      record {
        rest = a.rest;
        fits = (y.fits a.fits).1;
        within = omega arith;
        stands = further S pos (last_part x) next (write_query q ++ a.rest) e (last_stands x p q (drop (S.base + pos) S.bytes) a.rest k.parts_are a.stands);
        guided = subst (λ (v : ℕ). Guided S.guide v q) (sym e) (y.out S.guide pos a.guided).2;
        knows = (k.knows (names_in S) a.knows).1;
        deep = omega arith;
        few = omega arith;
      }
