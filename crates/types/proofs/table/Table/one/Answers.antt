use Rattle.std.proofs.Common.{None, ap, subst, arith}
use Rattle.query.specs.Types.{type1}
use Rattle.types.specs.Shapes.{type_at}
use Rattle.types.specs.Outcomes.{tidy, look}
use Rattle.types.proofs.Meanings.{stay, meant_as, meant_more}
use Rattle.format.specs.declared.node.Unary.{Unary}
use Rattle.types.specs.Operators.{Plain1, op_1}
use Rattle.types.proofs.table.Table.one.Goals as goal

pub returns-in-Not : goal.returns-in-Not
returns-in-Not c = record { grew = c.not.ensures.grew; says = λ p ns rk. meant_more (meant_as (c.not.ensures.says ns rk) _ (ap (λ (z : Unary). type1 (op_1 z) (type_at ns (look c.args.self.now) c.args.x)) c.in-Not.is)) 1 c.args.self.now.names (omega arith) (omega arith) }

pub returns-in-InBag : goal.returns-in-InBag
returns-in-InBag c = record { grew = c.in_bag.ensures.grew; says = λ p ns rk. meant_more (meant_as (c.in_bag.ensures.says ns rk) _ (ap (λ (z : Unary). type1 (op_1 z) (type_at ns (look c.args.self.now) c.args.x)) c.in-InBag.is)) 1 c.args.self.now.names (omega arith) (omega arith) }

pub returns-in-Flat : goal.returns-in-Flat
returns-in-Flat c = record { grew = c.flat.ensures.grew; says = λ p ns rk. meant_more (meant_as (c.flat.ensures.says ns rk) _ (ap (λ (z : Unary). type1 (op_1 z) (type_at ns (look c.args.self.now) c.args.x)) c.in-Flat.is)) 1 c.args.self.now.names (omega arith) (omega arith) }

pub returns-in-Count : goal.returns-in-Count
returns-in-Count c = record { grew = c.count.ensures.grew; says = λ p ns rk. meant_more (meant_as (c.count.ensures.says ns rk) _ (ap (λ (z : Unary). type1 (op_1 z) (type_at ns (look c.args.self.now) c.args.x)) c.in-Count.is)) 1 c.args.self.now.names (omega arith) (omega arith) }

pub returns-in-Sum : goal.returns-in-Sum
returns-in-Sum c = record { grew = c.sum.ensures.grew; says = λ p ns rk. meant_more (meant_as (c.sum.ensures.says ns rk) _ (ap (λ (z : Unary). type1 (op_1 z) (type_at ns (look c.args.self.now) c.args.x)) c.in-Sum.is)) 1 c.args.self.now.names (omega arith) (omega arith) }

pub returns-in-Distinct : goal.returns-in-Distinct
returns-in-Distinct c = record { grew = c.distinct.ensures.grew; says = λ p ns rk. meant_more (meant_as (c.distinct.ensures.says ns rk) _ (ap (λ (z : Unary). type1 (op_1 z) (type_at ns (look c.args.self.now) c.args.x)) c.in-Distinct.is)) 1 c.args.self.now.names (omega arith) (omega arith) }

pub returns-in-Dot : goal.returns-in-Dot
returns-in-Dot c = record { grew = stay None (tidy c.args.self.now) tt; says = λ p ns rk. absurd (subst (λ (z : Unary). Plain1 z) c.in-Dot.is p) }

pub returns-in-AsField : goal.returns-in-AsField
returns-in-AsField c = record { grew = stay None (tidy c.args.self.now) tt; says = λ p ns rk. absurd (subst (λ (z : Unary). Plain1 z) c.in-AsField.is p) }

pub returns-in-Without : goal.returns-in-Without
returns-in-Without c = record { grew = stay None (tidy c.args.self.now) tt; says = λ p ns rk. absurd (subst (λ (z : Unary). Plain1 z) c.in-Without.is p) }

pub returns-in-Only : goal.returns-in-Only
returns-in-Only c = record { grew = stay None (tidy c.args.self.now) tt; says = λ p ns rk. absurd (subst (λ (z : Unary). Plain1 z) c.in-Only.is p) }
