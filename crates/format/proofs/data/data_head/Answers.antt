use Rattle.std.proofs.Common.{true, false, refl, arith}
use Rattle.format.specs.declared.node.DataNode.TheVariants.{Nothing, Number, Truth, Text, Bag, Left, Right}
use Rattle.format.specs.DataLaws.{data_alone, data_begins, data_stuck}
use Rattle.format.proofs.Moved.{moved_ok}
use Rattle.format.proofs.data.data_head.Goals as goal

pub returns-in-0 : goal.returns-in-0
returns-in-0 c = data_alone _ c.type_inv.bytes (omega arith) 0 Nothing tt c.in-0.is tt refl refl

pub returns-in-2 : goal.returns-in-2
returns-in-2 c = data_alone _ c.type_inv.bytes (omega arith) 2 (Truth false) tt c.in-2.is tt refl refl

pub returns-in-3 : goal.returns-in-3
returns-in-3 c = data_alone _ c.type_inv.bytes (omega arith) 3 (Truth true) tt c.in-3.is tt refl refl

pub returns-in-7 : goal.returns-in-7
returns-in-7 c = data_alone _ c.type_inv.bytes (omega arith) 7 Left tt c.in-7.is tt refl refl

pub returns-in-8 : goal.returns-in-8
returns-in-8 c = data_alone _ c.type_inv.bytes (omega arith) 8 Right tt c.in-8.is tt refl refl

pub returns-in_ok-n-in-1 : goal.returns-in_ok-n-in-1
returns-in_ok-n-in-1 c = grind (arith, data_begins _ c.type_inv.bytes (omega arith) 1 8 9 (Number c.in_ok-n-in-1.n) c.in_ok-n-in-1.n)

pub returns-in_err-n-in-1 : goal.returns-in_err-n-in-1
returns-in_err-n-in-1 c = grind (arith, data_stuck _ c.type_inv.bytes (omega arith) 1)

pub returns-in_ok-n-in-4 : goal.returns-in_ok-n-in-4
returns-in_ok-n-in-4 c =
    let r = moved_ok _ _ _ c.read_name.result c.map_err-in-4.result c.in_ok-n-in-4.n c.read_name.ensures c.map_err-in-4.ensures.cases c.in_ok-n-in-4.was in
    data_begins _ c.type_inv.bytes (omega arith) 4 _ _ (Text c.in_ok-n-in-4.n) r.thing c.in-4.is r.begins (omega arith) (r.thing, refl, r.says)

pub returns-in_err-n-in-4 : goal.returns-in_err-n-in-4
returns-in_err-n-in-4 c = grind (arith, data_stuck _ c.type_inv.bytes (omega arith) 4)

pub returns-in_ok-things-in-5 : goal.returns-in_ok-things-in-5
returns-in_ok-things-in-5 c = grind (arith, data_begins _ c.type_inv.bytes (omega arith) 5 4 5 (Bag c.in_ok-things-in-5.things) c.in_ok-things-in-5.things)

pub returns-in_err-things-in-5 : goal.returns-in_err-things-in-5
returns-in_err-things-in-5 c = grind (arith, data_stuck _ c.type_inv.bytes (omega arith) 5)

pub returns-in_ok-names-in-6 : goal.returns-in_ok-names-in-6
returns-in_ok-names-in-6 c = grind (arith, data_begins _ c.type_inv.bytes (omega arith) 6)

pub returns-in_err-names-in-6 : goal.returns-in_err-names-in-6
returns-in_err-names-in-6 c = grind (arith, data_stuck _ c.type_inv.bytes (omega arith) 6)
