use Rattle.std.proofs.Common.{refl, arith}
use Rattle.format.specs.declared.node.TypeNode.TheVariants.{Nothing, Number, Truth, Text, Bag, Either}
use Rattle.format.specs.TypeLaws.{ty_alone, ty_begins, ty_stuck}
use Rattle.format.proofs.types.type_head.Goals as goal

pub returns-in-0 : goal.returns-in-0
returns-in-0 c = ty_alone _ c.type_inv.bytes (omega arith) 0 Nothing tt c.in-0.is tt refl refl

pub returns-in-1 : goal.returns-in-1
returns-in-1 c = ty_alone _ c.type_inv.bytes (omega arith) 1 Number tt c.in-1.is tt refl refl

pub returns-in-2 : goal.returns-in-2
returns-in-2 c = ty_alone _ c.type_inv.bytes (omega arith) 2 Truth tt c.in-2.is tt refl refl

pub returns-in-3 : goal.returns-in-3
returns-in-3 c = ty_alone _ c.type_inv.bytes (omega arith) 3 Text tt c.in-3.is tt refl refl

pub returns-in-4 : goal.returns-in-4
returns-in-4 c = ty_alone _ c.type_inv.bytes (omega arith) 4 Bag tt c.in-4.is tt refl refl

pub returns-in-6 : goal.returns-in-6
returns-in-6 c = ty_alone _ c.type_inv.bytes (omega arith) 6 Either tt c.in-6.is tt refl refl

pub returns-in_ok-names-in-5 : goal.returns-in_ok-names-in-5
returns-in_ok-names-in-5 c = grind (arith, ty_begins _ c.type_inv.bytes (omega arith) 5)

pub returns-in_err-names-in-5 : goal.returns-in_err-names-in-5
returns-in_err-names-in-5 c = grind (arith, ty_stuck _ c.type_inv.bytes (omega arith) 5)
