use Rattle.std.proofs.Common.{refl, subst}
use Rattle.guide.specs.Visits.{IsQuery}
use Rattle.operators.specs.Applied.{op1, where_same, on_left, on_right}
use Rattle.eval.proofs.shape.shape_of.Goals as goal

pub returns-in-One : goal.returns-in-One
returns-in-One c = record { tells = λ x k. let h = subst (λ n. IsQuery n x) c.in-One.is k in (op1 h.0, h.1, h.2, (h.0, refl, h.3)) }

pub returns-in-Matched : goal.returns-in-Matched
returns-in-Matched c = record { tells = λ x k. let h = subst (λ n. IsQuery n x) c.in-Matched.is k in (where_same h.0 h.1, h.2, h.3, h.4, (h.0, h.1, refl, h.5, h.6)) }

pub returns-in-OnLeft : goal.returns-in-OnLeft
returns-in-OnLeft c = record { tells = λ x k. let h = subst (λ n. IsQuery n x) c.in-OnLeft.is k in (on_left h.0, h.1, h.2, (h.0, refl)) }

pub returns-in-OnRight : goal.returns-in-OnRight
returns-in-OnRight c = record { tells = λ x k. let h = subst (λ n. IsQuery n x) c.in-OnRight.is k in (on_right h.0, h.1, h.2, (h.0, refl)) }
