use Rattle.std.proofs.Common.{ap, ◌∙◌, arith, rules}
use Rattle.values.specs.Lent.{words}
use Rattle.compare.specs.Compare.{stands}
use Rattle.compare.proofs.Steps.{way_of_numbers}
use Rattle.compare.proofs.Things.{bags_begin, bags_stop, bags_go_on, bags_end}
use Rattle.compare.proofs.Named.{records_begin, names_stop, fields_stop, fields_go_on, records_end}
use Rattle.compare.proofs.Whole.{whole_one, whole_known, whole_bags, whole_records, whole_lefts, whole_rights}
use Rattle.compare.proofs.+bags_records_sides_which_first.Goals.{which_first-in_default-2-via-in-Bag+in_default, which_first-in_default-2-via-in-Record+in_default, which_first-in_default-2-via-in-Left+in_default, which_first-in_default-2-via-in-Right+in_default, which_first-in_default-2-via-in_default}
use Rattle.compare.proofs.+bags_records_sides_which_first.Goals as goal

pub bags-loop-i-init : goal.bags-loop-i-init
bags-loop-i-init t c = bags_begin c.args.bytes.now (words c.args.row.now) c.args.p c.args.q c.args.depth

pub bags-returns-then-is_ne : goal.bags-returns-then-is_ne
bags-returns-then-is_ne t c =
    bags_stop c.args.bytes.now (words c.args.row.now) c.args.p c.args.q c.args.depth c.loop-i.i c.loop-i.invariant c.nth-x.result c.nth-y.result c.which_first-o.result
    (omega arith) (omega arith) c.nth-x.ensures c.nth-y.ensures c.which_first-o.ensures c.if-is_ne.ensures

pub bags-loop-i-preserved : goal.bags-loop-i-preserved
bags-loop-i-preserved t c =
    bags_go_on c.args.bytes.now (words c.args.row.now) c.args.p c.args.q c.args.depth c.loop-i.i c.loop-i.invariant c.nth-x.result c.nth-y.result c.which_first-o.result
    (omega arith) (omega arith) c.nth-x.ensures c.nth-y.ensures c.which_first-o.ensures c.if-is_ne.ensures

pub bags-returns : goal.bags-returns
bags-returns t c =
    bags_end c.args.bytes.now (words c.args.row.now) c.args.p c.args.q c.args.depth c.loop-i.i c.loop-i.invariant (omega arith) c.cmp.result
    (ap stands c.cmp.ensures ∙ way_of_numbers c.args.p.count c.args.q.count)

pub records-loop-i-init : goal.records-loop-i-init
records-loop-i-init t c = records_begin c.args.bytes.now (words c.args.row.now) c.args.p c.args.q c.args.depth

pub records-returns-then-is_ne : goal.records-returns-then-is_ne
records-returns-then-is_ne t c =
    names_stop c.args.bytes.now (words c.args.row.now) c.args.p c.args.q c.args.depth c.loop-i.i c.loop-i.invariant c.nth-f.result c.nth-g.result c.name_way-named.result
    (omega arith) (omega arith) c.nth-f.ensures c.nth-g.ensures c.name_way-named.ensures c.if-is_ne.ensures

pub records-returns-then-is_ne-2 : goal.records-returns-then-is_ne-2
records-returns-then-is_ne-2 t c =
    fields_stop c.args.bytes.now (words c.args.row.now) c.args.p c.args.q c.args.depth c.loop-i.i c.loop-i.invariant c.nth-f.result c.nth-g.result c.name_way-named.result
    (omega arith) (omega arith) c.nth-f.ensures c.nth-g.ensures c.name_way-named.ensures c.which_first-o.result c.if-is_ne.ensures c.which_first-o.ensures c.if-is_ne-2.ensures

pub records-loop-i-preserved : goal.records-loop-i-preserved
records-loop-i-preserved t c =
    fields_go_on c.args.bytes.now (words c.args.row.now) c.args.p c.args.q c.args.depth c.loop-i.i c.loop-i.invariant c.nth-f.result c.nth-g.result c.name_way-named.result
    (omega arith) (omega arith) c.nth-f.ensures c.nth-g.ensures c.name_way-named.ensures c.which_first-o.result c.if-is_ne.ensures c.which_first-o.ensures c.if-is_ne-2.ensures

pub records-returns : goal.records-returns
records-returns t c =
    records_end c.args.bytes.now (words c.args.row.now) c.args.p c.args.q c.args.depth c.loop-i.i c.loop-i.invariant (omega arith) c.cmp.result
    (ap stands c.cmp.ensures ∙ way_of_numbers c.args.p.count c.args.q.count)

pub which_first-returns-then-eq : goal.which_first-returns-then-eq
which_first-returns-then-eq t c = whole_one c.args.bytes.now (words c.args.row.now) c.args.a c.args.b c.args.depth (search rules)

pub which_first-returns-in-Bag-Bag : goal.which_first-returns-in-Bag-Bag
which_first-returns-in-Bag-Bag t c =
    whole_bags c.args.bytes.now (words c.args.row.now) c.args.a c.args.b c.args.depth c.in-Some.deep c.in-Some.ensures c.bags.result _ _ c.in-Bag-Bag.is-0 c.in-Bag-Bag.is-1 c.bags.ensures

pub which_first-returns-in-Record-Record : goal.which_first-returns-in-Record-Record
which_first-returns-in-Record-Record t c =
    whole_records c.args.bytes.now (words c.args.row.now) c.args.a c.args.b c.args.depth c.in-Some.deep c.in-Some.ensures c.records.result _ _ c.in-Record-Record.is-0 c.in-Record-Record.is-1 c.records.ensures

pub which_first-returns-in-Left-Left : goal.which_first-returns-in-Left-Left
which_first-returns-in-Left-Left t c =
    whole_lefts c.args.bytes.now (words c.args.row.now) c.args.a c.args.b c.args.depth c.in-Some.deep c.in-Some.ensures c.sides.result _ _ c.sides.ensures c.in-Left-Left.is-0 c.in-Left-Left.is-1

pub which_first-returns-in-Right-Right : goal.which_first-returns-in-Right-Right
which_first-returns-in-Right-Right t c =
    whole_rights c.args.bytes.now (words c.args.row.now) c.args.a c.args.b c.args.depth c.in-Some.deep c.in-Some.ensures c.sides-in-Right-Right.result _ _ c.sides-in-Right-Right.ensures c.in-Right-Right.is-0 c.in-Right-Right.is-1

pub which_first-returns-in_default-2 : goal.which_first-returns-in_default-2
which_first-returns-in_default-2 t c =
    whole_known c.args.bytes.now (words c.args.row.now) c.args.a c.args.b c.args.depth c.flat-in_default-2.result c.flat-in_default-2.ensures
    (elim c.in_default-2.branch [
      | which_first-in_default-2-via-in-Bag+in_default w ↦ record { bags = λ p q e f. w.in_default-2.not-Bag-1 q f; records = λ p q e f. cc; lefts = λ i j e f. cc; rights = λ i j e f. cc }
      | which_first-in_default-2-via-in-Record+in_default w ↦ record { bags = λ p q e f. cc; records = λ p q e f. w.in_default-2.not-Record-1 q f; lefts = λ i j e f. cc; rights = λ i j e f. cc }
      | which_first-in_default-2-via-in-Left+in_default w ↦ record { bags = λ p q e f. cc; records = λ p q e f. cc; lefts = λ i j e f. w.in_default-2.not-Left-1 j f; rights = λ i j e f. cc }
      | which_first-in_default-2-via-in-Right+in_default w ↦ record { bags = λ p q e f. cc; records = λ p q e f. cc; lefts = λ i j e f. cc; rights = λ i j e f. w.in_default-2.not-Right-1 j f }
      | which_first-in_default-2-via-in_default w ↦ record {
        bags = λ p q e f. w.in_default-2.not-Bag-0 p e;
        records = λ p q e f. w.in_default-2.not-Record-0 p e;
        lefts = λ i j e f. w.in_default-2.not-Left-0 i e;
        rights = λ i j e f. w.in_default-2.not-Right-0 i e;
      }
    ])
