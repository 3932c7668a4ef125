-- The types of what has no parts.
use Rattle.std.proofs.Common.{◌≡◌, ℕ, zero, suc, ◌+◌, ◌*◌, ◌<◌, ◌≤◌, List, [], ◌∷◌, ◌++◌, length, get_or, drop, Some, Option, sym, refl, ap, ◌∙◌, subst, arith}
use Rattle.query.specs.Data.{Name}
use Rattle.query.specs.Query.{Query, table, it, env, just}
use Rattle.query.specs.Types.{ty_at, type_of}
use Rattle.query.specs.Size.{size_q}
use Rattle.format.specs.Wire.{write_ty, write_data, FitsQuery}
use Rattle.guide.specs.Guide.{last_part, Guided}
use Rattle.guide.proofs.Standing.{type_stands, datum_stands}
use Rattle.ranks.specs.Known.{Knows}
use Rattle.types.specs.Shapes.{Shape, type_at}
use Rattle.types.specs.Operators.{NamesOf, types_of}
use Rattle.types.specs.Outcomes.{look, told, Meant}
use Rattle.types.specs.declared.table.Table.{Table}
use Rattle.types.proofs.Meanings.{stays, meant_more}
use Rattle.typing.specs.Costs.{wide}
use Rattle.typing.specs.Typed.{DatumTold}
use Rattle.typed.specs.Shaped.{IsLeaf}
use Rattle.typed.specs.Walks.{Setting, names_in, Asked, type_by, LeafTold}
use Rattle.typed.specs.declared.shape.Leaf.{Leaf}
use Rattle.typed.specs.declared.shape.Leaf.TheVariants as lf
use Rattle.typed.proofs.Parts.{further}

-- a table's type
pub number_below : (w : ℕ) (xs : List ℕ) (n : ℕ) → n < length xs → NamesOf w xs → get_or xs n 0 < w
unfolding NamesOf
number_below w [] n h k = absurd (omega arith)
number_below w (x ∷ xs) zero h k = k.0
number_below w (x ∷ xs) (suc n) h k = number_below w xs n (omega arith) k.1

pub table_is : (ns : List Name) (ss : List Shape) (xs : List ℕ) (n : ℕ) → n < length xs → ty_at (types_of ns ss xs) n ≡ type_at ns ss (get_or xs n 0) ∷ []
unfolding ty_at types_of
table_is ns ss [] n h = absurd (omega arith)
table_is ns ss (x ∷ xs) zero h = refl
table_is ns ss (x ∷ xs) (suc n) h = table_is ns ss xs n (omega arith)

pub table_none : (ns : List Name) (ss : List Shape) (xs : List ℕ) (n : ℕ) → length xs ≤ n → ty_at (types_of ns ss xs) n ≡ []
unfolding ty_at types_of
table_none ns ss [] n h = refl
table_none ns ss (x ∷ xs) zero h = absurd (omega arith)
table_none ns ss (x ∷ xs) (suc n) h = table_none ns ss xs n (omega arith)

module _ (S : Setting) (t : Table) (pos last : ℕ) (l : Leaf) (e i : ℕ) where
  is_told : (r : Option ℕ) (x : Query) → ((q : Query) → IsLeaf l q → q ≡ x) → type_by S t x e i ≡ told (names_in S) (look t) r → LeafTold S t t pos last l e i r
  is_told r x k m q depth h a f = stays _ _ r _ (ap (λ (z : Query). type_by S t z e i) (k q h) ∙ m)

  pub leaf_table : (n : ℕ) (r : Option ℕ) → l ≡ lf.Table n → ty_at (types_of (names_in S) (look t) S.schema) n ≡ told (names_in S) (look t) r → LeafTold S t t pos last l e i r
  unfolding type_of
  leaf_table n r k m = is_told r (table n) (λ q h. subst (λ (z : Leaf). IsLeaf z q) k h) m

  pub leaf_it : l ≡ lf.It → LeafTold S t t pos last l e i (Some i)
  unfolding type_of
  leaf_it k = is_told (Some i) it (λ q h. subst (λ (z : Leaf). IsLeaf z q) k h) refl

  pub leaf_env : l ≡ lf.Env → LeafTold S t t pos last l e i (Some e)
  unfolding type_of
  leaf_env k = is_told (Some e) env (λ q h. subst (λ (z : Leaf). IsLeaf z q) k h) refl

  -- what is written out
  pub leaf_just : (u : Table) (r : Option ℕ) → l ≡ lf.Just → DatumTold S.bytes S.names t u (S.base + pos + 1) (S.base + last) r → LeafTold S t u pos last l e i r
  unfolding type_of size_q wide Knows FitsQuery Guided
  leaf_just u r k m q depth h a f =
      let j = subst (λ (z : Leaf). IsLeaf z q) k h in
      let y = j.0 in
      let d = j.1 in
      let b = subst (λ (z : Query). Asked S pos depth z) j.2 a in
      let w : last ≡ pos + last_part (just y d) = subst (λ (z : Query). get_or S.guide pos 0 ≡ last_part z → last ≡ pos + last_part z) j.2 f b.guided in
      let p : drop (S.base + (pos + 1)) S.bytes ≡ write_ty y ++ (write_data d ++ b.rest) = further S pos 1 (pos + 1) _ refl (type_stands y d _ b.rest b.stands) in
      let pe : S.base + pos + 1 ≡ S.base + (pos + 1) = omega arith in
      let n = m y d (write_data d ++ b.rest) b.rest b.fits.0 b.fits.1 (ap (λ (z : ℕ). drop z S.bytes) pe ∙ p)
      (further S pos (last_part (just y d)) last _ w (datum_stands y d _ b.rest b.stands)) b.knows (let g = b.few in omega arith) in
      subst (λ (z : Query). Meant (names_in S) t u (2 * size_q z) (wide t.names z) r (type_by S t z e i)) (sym j.2)
      (meant_more n (2 * size_q (just y d)) (wide t.names (just y d)) (omega arith) (omega arith))
