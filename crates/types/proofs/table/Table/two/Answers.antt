use Rattle.std.proofs.Common.{ap, ◌∙◌, arith}
use Rattle.query.specs.Types.{type2}
use Rattle.types.specs.Shapes.{type_at}
use Rattle.types.specs.Outcomes.{look}
use Rattle.types.proofs.Meanings.{meant_as, meant_more}
use Rattle.types.proofs.Operators.{or_is}
use Rattle.format.specs.Nodes.{op_2}
use Rattle.format.specs.declared.node.Binary.{Binary}
use Rattle.types.proofs.table.Table.two.Goals as goal

pub returns-in-Equal : goal.returns-in-Equal
returns-in-Equal c = record { grew = c.equal.ensures.grew; says = λ ns rk. meant_more (meant_as (c.equal.ensures.says ns rk) _ (ap (λ (z : Binary). type2 (op_2 z) (type_at ns (look c.args.self.now) c.args.x) (type_at ns (look c.args.self.now) c.args.y)) c.in-Equal.is)) 1 c.args.self.now.names (omega arith) (omega arith) }

pub returns-in-And : goal.returns-in-And
returns-in-And c = record { grew = c.both_truths.ensures.grew; says = λ ns rk. meant_more (meant_as (c.both_truths.ensures.says ns rk) _ (ap (λ (z : Binary). type2 (op_2 z) (type_at ns (look c.args.self.now) c.args.x) (type_at ns (look c.args.self.now) c.args.y)) c.in-And.is)) 1 c.args.self.now.names (omega arith) (omega arith) }

pub returns-in-Or : goal.returns-in-Or
returns-in-Or c = record { grew = c.both_truths-in-Or.ensures.grew; says = λ ns rk. meant_more (meant_as (c.both_truths-in-Or.ensures.says ns rk) _ ((ap (λ (z : Binary). type2 (op_2 z) (type_at ns (look c.args.self.now) c.args.x) (type_at ns (look c.args.self.now) c.args.y)) c.in-Or.is ∙ or_is (type_at ns (look c.args.self.now) c.args.x) (type_at ns (look c.args.self.now) c.args.y)))) 1 c.args.self.now.names (omega arith) (omega arith) }

pub returns-in-Plus : goal.returns-in-Plus
returns-in-Plus c = record { grew = c.plus.ensures.grew; says = λ ns rk. meant_more (meant_as (c.plus.ensures.says ns rk) _ (ap (λ (z : Binary). type2 (op_2 z) (type_at ns (look c.args.self.now) c.args.x) (type_at ns (look c.args.self.now) c.args.y)) c.in-Plus.is)) 1 c.args.self.now.names (omega arith) (omega arith) }

pub returns-in-Less : goal.returns-in-Less
returns-in-Less c = record { grew = c.less.ensures.grew; says = λ ns rk. meant_more (meant_as (c.less.ensures.says ns rk) _ (ap (λ (z : Binary). type2 (op_2 z) (type_at ns (look c.args.self.now) c.args.x) (type_at ns (look c.args.self.now) c.args.y)) c.in-Less.is)) 1 c.args.self.now.names (omega arith) (omega arith) }

pub returns-in-JoinBags : goal.returns-in-JoinBags
returns-in-JoinBags c = record { grew = c.join_bags.ensures.grew; says = λ ns rk. meant_more (meant_as (c.join_bags.ensures.says ns rk) _ (ap (λ (z : Binary). type2 (op_2 z) (type_at ns (look c.args.self.now) c.args.x) (type_at ns (look c.args.self.now) c.args.y)) c.in-JoinBags.is)) 1 c.args.self.now.names (omega arith) (omega arith) }

pub returns-in-JoinRecords : goal.returns-in-JoinRecords
returns-in-JoinRecords c = record { grew = c.join_recs.ensures.grew; says = λ ns rk. meant_more (meant_as (c.join_recs.ensures.says ns rk) _ (ap (λ (z : Binary). type2 (op_2 z) (type_at ns (look c.args.self.now) c.args.x) (type_at ns (look c.args.self.now) c.args.y)) c.in-JoinRecords.is)) 1 c.args.self.now.names (omega arith) (omega arith) }

pub returns-in-Within : goal.returns-in-Within
returns-in-Within c = record { grew = c.within.ensures.grew; says = λ ns rk. meant_more (meant_as (c.within.ensures.says ns rk) _ (ap (λ (z : Binary). type2 (op_2 z) (type_at ns (look c.args.self.now) c.args.x) (type_at ns (look c.args.self.now) c.args.y)) c.in-Within.is)) 1 c.args.self.now.names (omega arith) (omega arith) }
