use Rattle.std.proofs.Common.{◌-◌, length, sym, ap, ◌∙◌, rules, arith}
use borrow.Rule.Slice.PartMut.{put_mid}
use Rattle.values.specs.Lent.{words}
use Rattle.values.specs.declared.value.Value.TheVariants.{Truth, Bag, Record}
use Rattle.writing.proofs.Fronts.{part_long, part_lent}
use Rattle.writing.proofs.Plains as plains
use Rattle.writing.proofs.Rows as rows
use Rattle.writing.proofs.out.+write_bag_write_out_write_record_write_side.Goals as goal

-- a value by its kind
pub write_out-returns-in-Nothing : goal.write_out-returns-in-Nothing
write_out-returns-in-Nothing t c =
    let a = plains.by_value c.args.bytes.now _ c.args.value _ c.args.out.now _ _ c.in-Nothing.is (plains.unit_written c.args.bytes.now (words c.args.row.now) c.args.out.now _ _ c.put_tagged.ensures) in
    record { within = search rules; means = plains.if_fits a; any = a }

pub write_out-returns-in-Number : goal.write_out-returns-in-Number
write_out-returns-in-Number t c =
    let e = rw c.to_le_bytes.ensures at c.put_tagged-in-Number.ensures in
    let a = plains.by_value c.args.bytes.now _ c.args.value _ c.args.out.now _ _ c.in-Number.is (plains.number_written c.args.bytes.now (words c.args.row.now) c.args.out.now _ _ c.in-Number.n e) in
    record { within = search rules; means = plains.if_fits a; any = a }

pub write_out-returns-in-Truth-false : goal.write_out-returns-in-Truth-false
write_out-returns-in-Truth-false t c =
    let a = plains.by_value c.args.bytes.now _ c.args.value _ c.args.out.now _ _ (c.in-Truth-false.is ∙ ap Truth c.in-Truth-false.field-0-test) (plains.false_written c.args.bytes.now (words c.args.row.now) c.args.out.now _ _ c.put_tagged-in-Truth-false.ensures) in
    record { within = search rules; means = plains.if_fits a; any = a }

pub write_out-returns-in-Truth-true : goal.write_out-returns-in-Truth-true
write_out-returns-in-Truth-true t c =
    let a = plains.by_value c.args.bytes.now _ c.args.value _ c.args.out.now _ _ (c.in-Truth-true.is ∙ ap Truth c.in-Truth-true.field-0-test) (plains.true_written c.args.bytes.now (words c.args.row.now) c.args.out.now _ _ c.put_tagged-in-Truth-true.ensures) in
    record { within = search rules; means = plains.if_fits a; any = a }

pub write_out-returns-in-Text : goal.write_out-returns-in-Text
write_out-returns-in-Text t c =
    let a = plains.by_value c.args.bytes.now _ c.args.value _ c.args.out.now _ _ c.in-Text.is (c.write_text.ensures.means (words c.args.row.now)) in
    record { within = c.write_text.ensures.within; means = plains.if_fits a; any = a }

pub write_out-returns-in-Left : goal.write_out-returns-in-Left
write_out-returns-in-Left t c =
    let a = plains.by_value c.args.bytes.now _ c.args.value _ c.args.out.now _ _ c.in-Left.is (plains.left_written c.args.bytes.now (words c.args.row.now) c.args.out.now _ _ c.in-Left.at c.write_side.ensures.means) in
    record { within = c.write_side.ensures.within; means = plains.if_fits a; any = a }

pub write_out-returns-in-Right : goal.write_out-returns-in-Right
write_out-returns-in-Right t c =
    let a = plains.by_value c.args.bytes.now _ c.args.value _ c.args.out.now _ _ c.in-Right.is (plains.right_written c.args.bytes.now (words c.args.row.now) c.args.out.now _ _ c.in-Right.at c.write_side-in-Right.ensures.means) in
    record { within = c.write_side-in-Right.ensures.within; means = plains.if_fits a; any = a }

-- a bag
pub write_bag-returns-then-not-holds-clause-means : goal.write_bag-returns-then-not-holds-clause-means
write_bag-returns-then-not-holds-clause-means t c = let h = c.holds.ensures.past c.if-not-holds.true in rows.bag_past c.args.bytes.now (words c.args.row.now) c.args.p c.args.out.now _ h.0 h.1

pub write_bag-returns-in_err-n-clause-means : goal.write_bag-returns-in_err-n-clause-means
write_bag-returns-in_err-n-clause-means t c =
    rw c.from_residual.ensures (rows.bag_none c.args.bytes.now (words c.args.row.now) c.args.p c.args.out.now _ (rw c.to_le_bytes.ensures at c.in_err-n.ensures))

pub write_bag-loop-i-init : goal.write_bag-loop-i-init
write_bag-loop-i-init t c =
    rows.bag_long c.args.bytes.now (words c.args.row.now) c.args.p c.args.out.now c.put_tagged.new.out c.put_tagged.new.out 0 c.in_ok-n.n (sym c.put_tagged.auto.out)
    (rows.bag_begin c.args.bytes.now (words c.args.row.now) c.args.p c.args.out.now c.put_tagged.new.out c.in_ok-n.n c.put_tagged.auto.out (rw c.to_le_bytes.ensures at c.in_ok-n.ensures))

pub write_bag-returns-in_err-n-2-clause-means : goal.write_bag-returns-in_err-n-2-clause-means
write_bag-returns-in_err-n-2-clause-means t c =
    rw c.from_residual-in_err-n-2.ensures (rows.writes_long c.args.bytes.now (words c.args.row.now) (Bag c.args.p) c.put_tagged.new.out c.args.out.now _ _ c.put_tagged.auto.out
    (rows.bag_stop c.args.bytes.now (words c.args.row.now) c.args.p c.put_tagged.new.out c.loop-i.out c.loop-i.i c.loop-i.n c.loop-i.invariant c.loop-i-test.true c.nth-v.result c.nth-v.ensures c.write_out.new.out _ c.in_err-n-2.ensures.any))

pub write_bag-loop-i-preserved : goal.write_bag-loop-i-preserved
write_bag-loop-i-preserved t c =
    let e = c.in_ok-n-2.ensures in
    let w = c.loop-i.invariant in
    rows.bag_turned c.args.bytes.now (words c.args.row.now) c.args.p c.put_tagged.new.out c.loop-i.out c.loop-i.i c.loop-i.n w c.loop-i-test.true c.nth-v.result c.nth-v.ensures c.write_out.new.out _ c.in_ok-n-2.field-0
    c.write_out.auto.out e.within (part_long c.loop-i.out c.write_out.new.out c.loop-i.n (omega (arith, w.within, w.long)) c.write_out.auto.out) e.any

pub write_bag-returns-clause-means : goal.write_bag-returns-clause-means
write_bag-returns-clause-means t c =
    rows.writes_long c.args.bytes.now (words c.args.row.now) (Bag c.args.p) c.put_tagged.new.out c.args.out.now _ _ c.put_tagged.auto.out
    (rows.bag_whole c.args.bytes.now (words c.args.row.now) c.args.p c.put_tagged.new.out c.loop-i.out c.loop-i.i c.loop-i.n c.loop-i.invariant (omega (arith, c.loop-i.auto.i-end, c.loop-i-test.false)))

-- a record
pub write_record-returns-then-not-holds-clause-means : goal.write_record-returns-then-not-holds-clause-means
write_record-returns-then-not-holds-clause-means t c = let h = c.holds.ensures.past c.if-not-holds.true in rows.record_past c.args.bytes.now (words c.args.row.now) c.args.p c.args.out.now _ h.0 h.1

pub write_record-returns-in_err-n-clause-means : goal.write_record-returns-in_err-n-clause-means
write_record-returns-in_err-n-clause-means t c =
    rw c.from_residual.ensures (rows.record_none c.args.bytes.now (words c.args.row.now) c.args.p c.args.out.now _ (rw c.to_le_bytes.ensures at c.in_err-n.ensures))

pub write_record-returns-in_err-named-clause-means : goal.write_record-returns-in_err-named-clause-means
write_record-returns-in_err-named-clause-means t c =
    rw c.from_residual-in_err-named.ensures (rows.record_unnamed c.args.bytes.now (words c.args.row.now) c.args.p c.args.out.now c.put_tagged.new.out c.in_ok-n.n c.put_tagged.auto.out (rw c.to_le_bytes.ensures at c.in_ok-n.ensures) c.write_names.new.out _ c.in_err-named.ensures.means)

pub write_record-loop-i-init : goal.write_record-loop-i-init
write_record-loop-i-init t c =
    let e = c.in_ok-named.ensures in
    let l = part_lent c.args.out.now c.put_tagged.new.out c.write_names.new.out c.in_ok-n.n c.put_tagged.auto.out c.in_ok-n.ensures.within c.write_names.auto.out in
    rows.record_long c.args.bytes.now (words c.args.row.now) c.args.p c.args.out.now _ _ 0 _ (sym l)
    (rows.record_begin c.args.bytes.now (words c.args.row.now) c.args.p c.args.out.now c.put_tagged.new.out c.in_ok-n.n c.put_tagged.auto.out (rw c.to_le_bytes.ensures at c.in_ok-n.ensures) c.write_names.new.out _ c.in_ok-named.named c.write_names.auto.out e.within (l ∙ sym c.put_tagged.auto.out) e.means)

pub write_record-returns-in_err-n-2-clause-means : goal.write_record-returns-in_err-n-2-clause-means
write_record-returns-in_err-n-2-clause-means t c =
    let l = part_lent c.args.out.now c.put_tagged.new.out c.write_names.new.out c.in_ok-n.n c.put_tagged.auto.out c.in_ok-n.ensures.within c.write_names.auto.out in
    rw c.from_residual-in_err-n-2.ensures (rows.writes_long c.args.bytes.now (words c.args.row.now) (Record c.args.p) _ c.args.out.now _ _ l
    (rows.record_stop c.args.bytes.now (words c.args.row.now) c.args.p (put_mid c.in_ok-n.n (length c.put_tagged.new.out - c.in_ok-n.n) c.put_tagged.new.out c.write_names.new.out) c.loop-i.out c.loop-i.i c.loop-i.n c.loop-i.invariant c.loop-i-test.true c.nth-f.result c.nth-f.ensures c.write_out.new.out _ c.in_err-n-2.ensures.any))

pub write_record-loop-i-preserved : goal.write_record-loop-i-preserved
write_record-loop-i-preserved t c =
    let e = c.in_ok-n-2.ensures in
    let w = c.loop-i.invariant in
    rows.record_turned c.args.bytes.now (words c.args.row.now) c.args.p (put_mid c.in_ok-n.n (length c.put_tagged.new.out - c.in_ok-n.n) c.put_tagged.new.out c.write_names.new.out) c.loop-i.out c.loop-i.i c.loop-i.n w c.loop-i-test.true c.nth-f.result c.nth-f.ensures c.write_out.new.out _ c.in_ok-n-2.field-0
    c.write_out.auto.out e.within (part_long c.loop-i.out c.write_out.new.out c.loop-i.n (omega (arith, w.within, w.long)) c.write_out.auto.out) e.any

pub write_record-returns-clause-means : goal.write_record-returns-clause-means
write_record-returns-clause-means t c =
    let l = part_lent c.args.out.now c.put_tagged.new.out c.write_names.new.out c.in_ok-n.n c.put_tagged.auto.out c.in_ok-n.ensures.within c.write_names.auto.out in
    rows.writes_long c.args.bytes.now (words c.args.row.now) (Record c.args.p) _ c.args.out.now _ _ l
    (rows.record_whole c.args.bytes.now (words c.args.row.now) c.args.p (put_mid c.in_ok-n.n (length c.put_tagged.new.out - c.in_ok-n.n) c.put_tagged.new.out c.write_names.new.out) c.loop-i.out c.loop-i.i c.loop-i.n c.loop-i.invariant (omega (arith, c.loop-i.auto.i-end, c.loop-i-test.false)))

-- a side
pub write_side-returns-clause-means : goal.write_side-returns-clause-means
write_side-returns-clause-means t c =
    plains.side_put c.args.bytes.now (words c.args.row.now) c.args.tag c.args.at c.args.out.now c.put_tagged.new.out c.write_out.new.out c.in_ok-n.n _ c.in_ok-e.e c.in_ok-v.v c.put_tagged.auto.out c.in_ok-n.ensures c.in_ok-v.ensures.1 c.write_out.auto.out c.in_ok-e.ensures.any
