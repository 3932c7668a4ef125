-- The guide to a query within the limit is written, and the query's type is told.
use Rattle.std.proofs.Common.{◌≡◌, ℕ, ◌≤◌, List, length, drop, Some, None, Option, ◌∙◌, arith}
use Rattle.query.specs.Data.{Name}
use Rattle.query.specs.Query.{Query}
use Rattle.query.specs.Types.{Schema, type_asked}
use Rattle.query.specs.Size.{size_q}
use Rattle.format.specs.declared.node.Ask.{Ask}
use Rattle.checks.specs.Checks.{QueryAt}
use Rattle.guide.specs.Guide.{Guided}
use Rattle.guide.specs.Marks.{Markable, Marked}
use Rattle.guide.proofs.Sizes.{query_bytes, nesting_parts}
use Rattle.types.specs.Shapes.{Shape, type_at}
use Rattle.types.specs.Outcomes.{told}
use Rattle.asking_desk.specs.Checked.{TypedSo}

module _ (xs g h : List ℕ) (a : Ask) (q : Query) (at : QueryAt xs a.query_at q) (small : size_q q ≤ 8192) (long : 73728 ≤ length g) where
  markable : (qs : List ℕ) → qs ≡ drop a.query_at xs → Markable qs (length g) 0 8192 q at.stands.rest
  markable qs e = record {
    fits = at.fits;
    is = e ∙ at.stands.is;
    within = omega (arith, query_bytes q);
    short = omega (arith, query_bytes q);
    shallow = omega (arith, nesting_parts q);
  }

  pub guided : (qs : List ℕ) (n : ℕ) → qs ≡ drop a.query_at xs → Marked qs g h 0 8192 (Some n) → Guided h 0 q
  guided qs n e m = (m.marks q at.stands.rest (markable qs e)).1

  pub unguided : (qs : List ℕ) → qs ≡ drop a.query_at xs → Marked qs g h 0 8192 None → ⊥
  unguided qs e m = m.marks q at.stands.rest (markable qs e)

-- a number is that of a type
pub typed_so : (ss : Schema) (q : Query) (g : List ℕ) (ns : List Name) (ts : List Shape) (r : Option ℕ) → Guided g 0 q → type_asked ss q ≡ told ns ts r → TypedSo ss q g r
typed_so ss q g ns ts None d e = e
typed_so ss q g ns ts (Some k) d e = (type_at ns ts k, e, d)
