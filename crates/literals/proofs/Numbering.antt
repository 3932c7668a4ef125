-- Numbers for what a query writes out, by its kind.
use Rattle.std.proofs.Common.{◌≡◌, ℕ, ◌+◌, ◌^◌, ◌<◌, ◌≤◌, List, [], ◌∷◌, length, get_or, sym, refl, ap, ◌∙◌, subst, arith, get_or-set_same}
use Rattle.query.specs.Data.{Data, Datas, none, more, join, how_many}
use Rattle.query.specs.Query.{Ty, Query, just}
use Rattle.format.specs.Lists.{from}
use Rattle.guide.proofs.Frame.{written_some}
use Rattle.literals.specs.Numbered.{thing_at, Numbered}
use Rattle.literals.specs.Written.{written_out}
use Rattle.literals.specs.Steps.{Steps}
use Rattle.literals.specs.Literals.{Put, NumberedOn, Numbers}
use Rattle.literals.specs.declared.step.Step.TheVariants as st
use Rattle.literals.proofs.Sorted.{bare_part, written_part, numbered_same, many_joined}
use Rattle.literals.proofs.Below.{only_below, both_below}

pub join_assoc : (ds es fs : Datas) → join (join ds es) fs ≡ join ds (join es fs)
unfolding join
join_assoc none es fs = refl
join_assoc (more d ds) es fs = ap (more d) (join_assoc ds es fs)

thing_there : (before after : Datas) (d : Data) → thing_at (join before (join (more d none) after)) (how_many before) ≡ d ∷ []
unfolding thing_at join how_many
thing_there none after d = refl
thing_there (more e es) after d = thing_there es after d

module _ (xs g : List ℕ) (at : ℕ) where
  pub bare_numbers : (l : List ℕ) (next : ℕ) → Steps xs g at st.Bare → Numbers xs g l l at next next
  unfolding how_many
  bare_numbers l next s = record {
    kept = λ i lt. refl;
    numbers = λ q h room few.
        let b = bare_part q (s.tells q h) in
        let z : how_many (written_out q) ≡ 0 = ap how_many b.outs in
        record { end = omega arith; numbered = λ before after e. b.numbered l (join before (join (written_out q) after)) at };
  }

  just_numbered : (l k : List ℕ) (next r : ℕ) (t : Ty) (d : Data) → Put l k at next r → at < length l → next + how_many (written_out (just t d)) < 2 ^ 32 → NumberedOn k at next (just t d) r
  unfolding how_many written_out Numbered
  just_numbered l k next r t d p room few =
      let o = p.put room (omega arith) in
      let w : get_or k at 0 ≡ next = ap (λ (v : List ℕ). get_or v at 0) o.1 ∙ get_or-set_same l at next 0 room in
      record { end = o.0; numbered = λ before after e. ap (thing_at (join before (join (more d none) after))) (w ∙ sym e) ∙ thing_there before after d }

  pub written_numbers : (l k : List ℕ) (next r last : ℕ) → Steps xs g at (st.Written last) → Put l k at next r → Numbers xs g l k at next r
  written_numbers l k next r last s p = record {
    kept = p.kept;
    numbers = λ q h room few.
        let w = written_part q (s.tells q h).0 in
        let f : next + how_many (written_out (just w.0 w.1)) < 2 ^ 32 = omega (arith, ap (λ (v : Query). how_many (written_out v)) w.2) in
        subst (λ (v : Query). NumberedOn k at next v r) (sym w.2) (just_numbered l k next r w.0 w.1 p (omega (arith, written_some q)) f);
  }

  pub one_numbers : (l k : List ℕ) (next r first : ℕ) → Steps xs g at (st.One first) → Numbers (from first xs) g l k (at + first) next r → Numbers xs g l k at next r
  one_numbers l k next r first s n = record {
    kept = λ i lt. n.kept i (omega arith);
    numbers = λ q h room few.
        let b = only_below xs g at first q (s.tells q h) h in
        let o = b.shape in
        let c : how_many (written_out q) ≡ how_many (written_out o.part) = ap how_many o.outs in
        let w = n.numbers o.part b.here (omega (arith, b.long)) (omega arith) in
        record {
          end = omega (arith, w.end);
          numbered = λ before after e.
              o.into k (join before (join (written_out q) after)) at
              (subst (λ (v : ℕ). Numbered k (join before (join (written_out q) after)) (at + v) o.part) b.last
              (subst (λ (v : Datas). Numbered k (join before (join v after)) (at + first) o.part) (sym o.outs) (w.numbered before after e)));
        };
  }

  pub two_numbers : (l k m : List ℕ) (next middle r first last : ℕ) → Steps xs g at (st.Two first last) → length k ≡ length l → first ≤ last → Numbers (from first xs) g l k (at + first) next middle → Numbers (from last xs) g k m (at + last) middle r → Numbers xs g l m at next r
  two_numbers l k m next middle r first last s long le n₁ n₂ = record {
    kept = λ i lt. n₂.kept i (omega arith) ∙ n₁.kept i (omega arith);
    numbers = λ q h room few.
        let b = both_below xs g at first last q (s.tells q h) h in
        let o = b.shape in
        let p₁ = o.part₁ in
        let p₂ = o.part₂ in
        let c : how_many (written_out q) ≡ how_many (written_out p₁) + how_many (written_out p₂) = ap how_many o.outs ∙ many_joined (written_out p₁) (written_out p₂) in
        let w₁ = n₁.numbers p₁ b.here₁ (omega (arith, b.long₁, b.long₂)) (omega arith) in
        let w₂ = n₂.numbers p₂ b.here₂ (omega (arith, b.long₂)) (omega (arith, w₁.end)) in
        record {
          end = omega (arith, w₁.end, w₂.end);
          numbered = λ before after e.
              let ds : Datas = join before (join (written_out p₁) (join (written_out p₂) after)) in
              let z : join before (join (written_out q) after) ≡ ds = ap (λ (v : Datas). join before (join v after)) o.outs ∙ ap (join before) (join_assoc (written_out p₁) (written_out p₂) after) in
              let a₁ = w₁.numbered before (join (written_out p₂) after) e in
              let a₂ = w₂.numbered (join before (written_out p₁)) after (many_joined before (written_out p₁) ∙ ap (λ (v : ℕ). v + how_many (written_out p₁)) e ∙ sym w₁.end) in
              subst (λ (v : Datas). Numbered m v at q) (sym z)
              (o.into m ds at
              (subst (λ (v : ℕ). Numbered m ds (at + v) p₁) b.is_first (numbered_same p₁ k m ds (at + first) (λ i x y. n₂.kept i (omega (arith, b.long₁))) a₁))
              (subst (λ (v : ℕ). Numbered m ds (at + v) p₂) b.is_last (subst (λ (v : Datas). Numbered m v (at + last) p₂) (join_assoc before (written_out p₁) (join (written_out p₂) after)) a₂)));
        };
  }
