-- A step into a query: what stands in front before it and after it.
use Rattle.std.proofs.Common.{◌≡◌, ℕ, ◌+◌, ◌<◌, ◌≤◌, ◌⊎◌, List, ◌++◌, length, get_or, drop, Some, None, sym, ap, ◌∙◌, subst, ⊎_elim, arith, length-append}
use Rattle.std.proofs.lemmas.List.{drop-drop}
use Rattle.query.specs.Query.{Query}
use Rattle.format.specs.Wire.{write_query}
use Rattle.format.specs.Lists.{from, from_drop}
use Rattle.guide.specs.Guide.{first_part, last_part, Guided}
use Rattle.guide.specs.Visits.{Visited, IsQuery}
use Rattle.guide.specs.declared.Visit.{Visit}
use Rattle.guide.proofs.Shapes.{single, pair, single_long, pair_long}
use Rattle.guide.proofs.Frame.{written_some}
use Rattle.guide.proofs.Standing.{only_stands, first_stands, last_stands}
use Rattle.guide.proofs.Visiting.{guided_says}
use Rattle.literals.specs.Steps.{kind_of, kind_q, Here, TellsStep, Steps}
use Rattle.literals.specs.declared.step.Kind.{Kind}
use Rattle.literals.specs.declared.step.Kind.TheVariants as kd
use Rattle.literals.specs.declared.step.Step.{Step}
use Rattle.literals.specs.declared.step.Step.TheVariants as st
use Rattle.literals.proofs.Sorted.{kinds_same, placed_parts, OnePart, one_part, TwoParts, two_parts}

-- no query stands past a guide
pub past_guide : (xs g : List ℕ) (at : ℕ) (s : Step) → length g ≤ at → Steps xs g at s
past_guide xs g at s l = record { tells = λ q h. absurd (omega (arith, h.long, written_some q)) }

-- or where nothing was found
pub not_visited : (xs g : List ℕ) (at : ℕ) (s : Step) → Visited xs (get_or g at 0) None → Steps xs g at s
not_visited xs g at s v = record { tells = λ q h. absurd (v.visits q h.rest h.fits h.is (guided_says q g at h.guided)) }

module _ (xs g : List ℕ) (at : ℕ) (v : Visit) (w : Visited xs (get_or g at 0) (Some v)) where
  told : (q : Query) → Here xs g at q → IsQuery v.node q × (v.first ≡ first_part q)
  told q h = w.visits q h.rest h.fits h.is (guided_says q g at h.guided)

  kind_told : (q : Query) → Here xs g at q → kind_q q ≡ kind_of v.node
  kind_told q h = kinds_same v.node q (told q h).0

  -- places that no parts have
  pub no_places : (v.first ≡ 0) ⊎ ((get_or g at 0 < v.first) ⊎ (length xs < get_or g at 0)) → Steps xs g at st.Bare
  no_places c = record {
    tells = λ q h.
        ⊎_elim (λ b. b)
        (λ b.
        let e = (told q h).1 in
        let l : length xs ≡ length (write_query q) + length h.rest = ap length h.is ∙ length-append (write_query q) h.rest in
        absurd (⊎_elim (λ z. omega (arith, b.some)) (λ z. ⊎_elim (λ y. omega (arith, b.is, b.order)) (λ y. omega (arith, b.is, b.within)) z) c))
        (placed_parts q (get_or g at 0) (guided_says q g at h.guided));
  }

  pub bare_told : kd.Bare ≡ kind_of v.node → Steps xs g at st.Bare
  bare_told k = record { tells = λ q h. kind_told q h ∙ sym k }

  last_told : (k : Kind) → k ≡ kind_of v.node → (kd.Bare ≡ k → ⊥) → (q : Query) → Here xs g at q → get_or g at 0 ≡ last_part q
  last_told k e n q h = ⊎_elim (λ b. absurd (n (sym b ∙ kind_told q h ∙ sym e))) (λ b. b.is) (placed_parts q (get_or g at 0) (guided_says q g at h.guided))

  pub written_told : kd.Written ≡ kind_of v.node → Steps xs g at (st.Written (get_or g at 0))
  written_told k = record { tells = λ q h. (kind_told q h ∙ sym k, last_told kd.Written k (λ e. let z : ◌≡◌ {A = ℕ} 0 1 = cc in omega arith) q h) }

  pub one_told : kd.One ≡ kind_of v.node → Steps xs g at (st.One v.first)
  one_told k = record { tells = λ q h. (kind_told q h ∙ sym k, (told q h).1) }

  pub two_told : kd.Two ≡ kind_of v.node → Steps xs g at (st.Two v.first (get_or g at 0))
  two_told k = record { tells = λ q h. (kind_told q h ∙ sym k, (told q h).1, last_told kd.Two k (λ e. let z : ◌≡◌ {A = ℕ} 0 1 = cc in omega arith) q h) }

-- the one part, where it stands
pub record OnlyBelow (xs g : List ℕ) (at first : ℕ) (q : Query) : Type 0 where
  pub shape : OnePart q
  pub last : first ≡ last_part q
  pub long : length (write_query q) ≡ first + length (write_query shape.part)
  pub here : Here (from first xs) g (at + first) shape.part

pub only_below : (xs g : List ℕ) (at first : ℕ) (q : Query) → TellsStep (st.One first) q → Here xs g at q → OnlyBelow xs g at first q
only_below xs g at first q t h =
    let o = one_part q t.0 in
    let s = single q o.part o.is in
    let p = only_stands q o.part xs h.rest o.is h.is in
    let l : first ≡ last_part q = t.1 ∙ sym p.0 in
    let e = single_long q o.part s in
    record {
      shape = o;
      last = l;
      long = omega (arith, t.1);
      here = record {
        rest = h.rest;
        fits = s.fits h.fits;
        is = from_drop first xs ∙ ap (λ (v : ℕ). drop v xs) t.1 ∙ p.1;
        guided = subst (λ (v : ℕ). Guided g (at + v) o.part) (sym l) (s.out g at h.guided).1;
        long = omega (arith, h.long, t.1);
      };
    }

-- the two parts, where they stand
pub record BothBelow (xs g : List ℕ) (at first last : ℕ) (q : Query) : Type 0 where
  pub shape : TwoParts q
  pub is_first : first ≡ first_part q
  pub is_last : last ≡ last_part q
  pub long₁ : last ≡ first + length (write_query shape.part₁)
  pub long₂ : length (write_query q) ≡ last + length (write_query shape.part₂)
  pub here₁ : Here (from first xs) g (at + first) shape.part₁
  pub here₂ : Here (from last xs) g (at + last) shape.part₂

pub both_below : (xs g : List ℕ) (at first last : ℕ) (q : Query) → TellsStep (st.Two first last) q → Here xs g at q → BothBelow xs g at first last q
both_below xs g at first last q t h =
    let o = two_parts q t.0 in
    let s = pair q o.part₁ o.part₂ o.is in
    let out = s.out g at h.guided in
    let f = t.1 in
    let l = t.2 in
    let e = pair_long q o.part₁ o.part₂ s in
    let m : last ≡ first + length (write_query o.part₁) = omega (arith, s.first, s.last) in
    record {
      shape = o;
      is_first = f;
      is_last = l;
      long₁ = m;
      long₂ = omega arith;
      here₁ = record {
        rest = write_query o.part₂ ++ h.rest;
        fits = (s.fits h.fits).0;
        is = from_drop first xs ∙ ap (λ (v : ℕ). drop v xs) f ∙ first_stands q o.part₁ o.part₂ xs h.rest o.is h.is;
        guided = subst (λ (v : ℕ). Guided g (at + v) o.part₁) (sym f) out.1;
        long = omega (arith, h.long);
      };
      here₂ = record {
        rest = h.rest;
        fits = (s.fits h.fits).1;
        is = from_drop last xs ∙ ap (λ (v : ℕ). drop v xs) l ∙ last_stands q o.part₁ o.part₂ xs h.rest o.is h.is;
        guided = subst (λ (v : ℕ). Guided g (at + v) o.part₂) (sym l) out.2;
        long = omega (arith, h.long);
      };
    }

-- where a part stands in the request's bytes
pub spot_below : (bs xs : List ℕ) (place i : ℕ) → drop place bs ≡ xs → drop (place + i) bs ≡ from i xs
spot_below bs xs place i e = sym (drop-drop i place bs) ∙ ap (drop i) e ∙ sym (from_drop i xs)
