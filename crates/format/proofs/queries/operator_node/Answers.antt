use Rattle.std.proofs.Common.{◌≡◌, ℕ, [], ◌∷◌, refl}
use Rattle.query.specs.Query.{Op1, not_so, in_bag, flat, count, sum, distinct}
use Rattle.format.specs.Wire.{write_1, Fits1}
use Rattle.format.specs.Heads.{one_q, write_query_head, FitsQueryHead}
use Rattle.format.specs.Nodes.{IsOp1, PlainHead}
use Rattle.format.specs.declared.node.Unary.{Unary}
use Rattle.format.specs.declared.node.Unary.TheVariants.{Not, InBag, Flat, Count, Sum, Distinct}
use Rattle.format.specs.declared.node.QueryNode.TheVariants.{One}
use Rattle.format.proofs.queries.operator_node.Goals as goal

alone : (t k : ℕ) (u : Unary) (o : Op1) → t ≡ k → IsOp1 u o → Fits1 o → write_1 o ≡ k ∷ [] → PlainHead t (One u)
unfolding write_query_head FitsQueryHead
alone t k u o e i f w = record { head = one_q o; fits = f; written = rw e w; tells = (o, refl, i) }

pub returns-in-12 : goal.returns-in-12
unfolding write_1 Fits1
returns-in-12 c = alone _ 12 Not not_so c.in-12.is refl tt refl

pub returns-in-13 : goal.returns-in-13
unfolding write_1 Fits1
returns-in-13 c = alone _ 13 InBag in_bag c.in-13.is refl tt refl

pub returns-in-14 : goal.returns-in-14
unfolding write_1 Fits1
returns-in-14 c = alone _ 14 Flat flat c.in-14.is refl tt refl

pub returns-in-15 : goal.returns-in-15
unfolding write_1 Fits1
returns-in-15 c = alone _ 15 Count count c.in-15.is refl tt refl

pub returns-in-16 : goal.returns-in-16
unfolding write_1 Fits1
returns-in-16 c = alone _ 16 Sum sum c.in-16.is refl tt refl

pub returns-in-17 : goal.returns-in-17
unfolding write_1 Fits1
returns-in-17 c = alone _ 17 Distinct distinct c.in-17.is refl tt refl
