-- What a visit tells of the query that stands there.
use Rattle.std.proofs.Common.{◌≡◌, ℕ, ◌+◌, ◌<◌, List, length, get_or, Some, None, sym, ap, subst, arith, length-append, length-drop}
use Rattle.query.specs.Data.{Datas}
use Rattle.query.specs.Query.{Query}
use Rattle.format.specs.Wire.{write_query}
use Rattle.guide.specs.Guide.{first_part}
use Rattle.guide.specs.Visits.{Visited, SaysLast}
use Rattle.guide.specs.declared.Visit.{Visit}
use Rattle.guide.proofs.Visiting.{guided_says}
use Rattle.guide.proofs.Frame.{written_some}
use Rattle.eval.specs.Shaped.{Shaped, TellsShape}
use Rattle.eval.specs.Ready.{Setting, Stands}
use Rattle.eval.specs.declared.shape.Shape.{Shape}

abbrev pub Seen : Setting → List ℕ → ℕ → Shape → ℕ → Type 0
Seen S qs at s first = (ls : Datas) (q : Query) → Stands S ls qs at q → Shaped s q × (first ≡ first_part q)

module _ (S : Setting) (qs : List ℕ) (at last : ℕ) (l : last ≡ get_or S.guide at 0) where
  pub seen : (v : Visit) (s : Shape) → Visited qs last (Some v) → TellsShape v.node s → Seen S qs at s v.first
  seen v s k t ls q g =
      let w = k.visits q g.rest g.fits g.is (subst (λ n. SaysLast n q) (sym l) (guided_says q S.guide at g.guided)) in
      (t.tells q w.0, w.1)

  pub unseen : (ls : Datas) (q : Query) → Visited qs last None → Stands S ls qs at q → ⊥
  unseen ls q k g = k.visits q g.rest g.fits g.is (subst (λ n. SaysLast n q) (sym l) (guided_says q S.guide at g.guided))

module _ {S : Setting} {ls : Datas} {qs : List ℕ} {at : ℕ} {q : Query} (g : Stands S ls qs at q) where
  pub in_guide : at < length S.guide
  in_guide = omega (arith, g.guide_long, written_some q)

  pub in_marks : at < length S.marks
  in_marks = omega (arith, g.marks_long, written_some q)

  pub in_bytes : S.scene.query_at + at < length S.bytes
  in_bytes = omega (arith, ap length g.spot, ap length g.is, length-append (write_query q) g.rest, written_some q, length-drop (S.scene.query_at + at) S.bytes)
