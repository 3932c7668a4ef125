use Rattle.std.proofs.Common.{arith}
use Rattle.format.specs.declared.node.DataNode.TheVariants.{Nothing, Number, Truth, Text, Bag, Record, Left, Right}
use Rattle.loading.proofs.Starts.{part_says, no_part, record_there, none_there}
use Rattle.loading.proofs.Oks.{ok_some, ok_none}
use Rattle.loading.proofs.loaded.Spot.part.Goals as goal

pub returns-then-self : goal.returns-then-self
returns-then-self c = record { inside = tt; tells = λ d s f. none_there c.args.self.bytes.now c.args.self.at (omega arith) d s }

pub returns-then-self-eq6 : goal.returns-then-self-eq6
returns-then-self-eq6 c = record { inside = omega arith; tells = λ d s f. record_there c.args.self.bytes.now c.args.self.at c.if-self-eq6.true d s }

pub returns-in_err-read : goal.returns-in_err-read
returns-in_err-read c =
    let n = ok_none c.data_node.result c.in_err-read.ensures.value in
    let s = rw n.1 at c.data_node.ensures in
    rw c.from_residual.ensures record { inside = tt; tells = no_part c.args.self.bytes.now c.args.self.at n.0 s }

pub returns-in-Nothing : goal.returns-in-Nothing
returns-in-Nothing c =
    let s = rw (ok_some c.data_node.result c.in_ok-read.read c.in_ok-read.ensures.value) at c.data_node.ensures in
    let r = part_says c.args.self.bytes.now c.args.self.at _ Nothing _ _ c.in-Nothing.is c.args.self.datum_inside s in
    record { inside = r.0; tells = r.1 }

pub returns-in-Number : goal.returns-in-Number
returns-in-Number c =
    let s = rw (ok_some c.data_node.result c.in_ok-read.read c.in_ok-read.ensures.value) at c.data_node.ensures in
    let r = part_says c.args.self.bytes.now c.args.self.at _ (Number c.in-Number.n) _ _ c.in-Number.is c.args.self.datum_inside s in
    record { inside = r.0; tells = r.1 }

pub returns-in-Truth : goal.returns-in-Truth
returns-in-Truth c =
    let s = rw (ok_some c.data_node.result c.in_ok-read.read c.in_ok-read.ensures.value) at c.data_node.ensures in
    let r = part_says c.args.self.bytes.now c.args.self.at _ (Truth c.in-Truth.b) _ _ c.in-Truth.is c.args.self.datum_inside s in
    record { inside = r.0; tells = r.1 }

pub returns-in-Text : goal.returns-in-Text
returns-in-Text c =
    let s = rw (ok_some c.data_node.result c.in_ok-read.read c.in_ok-read.ensures.value) at c.data_node.ensures in
    let r = part_says c.args.self.bytes.now c.args.self.at _ (Text c.in-Text.n) _ _ c.in-Text.is c.args.self.datum_inside s in
    record { inside = r.0; tells = r.1 }

pub returns-in-Bag : goal.returns-in-Bag
returns-in-Bag c =
    let s = rw (ok_some c.data_node.result c.in_ok-read.read c.in_ok-read.ensures.value) at c.data_node.ensures in
    let r = part_says c.args.self.bytes.now c.args.self.at _ (Bag c.in-Bag.k) _ _ c.in-Bag.is c.args.self.datum_inside s in
    record { inside = r.0; tells = r.1 }

pub returns-in-Record : goal.returns-in-Record
returns-in-Record c =
    let s = rw (ok_some c.data_node.result c.in_ok-read.read c.in_ok-read.ensures.value) at c.data_node.ensures in
    let r = part_says c.args.self.bytes.now c.args.self.at _ (Record _) _ _ c.in-Record.is c.args.self.datum_inside s in
    record { inside = r.0; tells = r.1 }

pub returns-in-Left : goal.returns-in-Left
returns-in-Left c =
    let s = rw (ok_some c.data_node.result c.in_ok-read.read c.in_ok-read.ensures.value) at c.data_node.ensures in
    let r = part_says c.args.self.bytes.now c.args.self.at _ Left _ _ c.in-Left.is c.args.self.datum_inside s in
    record { inside = r.0; tells = r.1 }

pub returns-in-Right : goal.returns-in-Right
returns-in-Right c =
    let s = rw (ok_some c.data_node.result c.in_ok-read.read c.in_ok-read.ensures.value) at c.data_node.ensures in
    let r = part_says c.args.self.bytes.now c.args.self.at _ Right _ _ c.in-Right.is c.args.self.datum_inside s in
    record { inside = r.0; tells = r.1 }
