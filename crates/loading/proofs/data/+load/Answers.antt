use Rattle.std.proofs.Common.{ℕ, ◌+◌, length-append, ◌≡◌, ◌∙◌, subst, ap, length, arith}
use Rattle.loading.specs.declared.loaded.Part.TheVariants as pt
use Rattle.loading.specs.Fronts.{Before}
use Rattle.loading.proofs.Leaves as leaves
use Rattle.loading.proofs.Lined as lined
use Rattle.loading.proofs.Bags as bags
use Rattle.loading.proofs.Records as records
use Rattle.loading.proofs.Sides as sides
use Rattle.loading.proofs.data.+load.Goals as goal
use Rattle.loading.proofs.data.+load.Goals.{load_row-in-Shared, load_row-in-Own, load_bag-then-this-ne0+then-count-ne0, load_bag-else-this-ne0}
use Rattle.loading.specs.Loads.{next_type}

-- a datum
pub load-returns-then-spot-clause-means : goal.load-returns-then-spot-clause-means
load-returns-then-spot-clause-means g t c = leaves.no_type c.args.spot.bytes.now c.args.spot.at c.args.spot.ty c.args.depth c.args.memory.now.top _ (omega arith)

pub load-returns-in-Bag-clause-means : goal.load-returns-in-Bag-clause-means
load-returns-in-Bag-clause-means g t c = leaves.by_part c.args.spot.bytes.now c.args.spot.at c.args.spot.ty c.args.depth c.args.memory.now.top _ (pt.Bag c.in-Bag.count) _ _ c.in-Bag.is c.in_ok-value.ensures.tells c.load_bag.ensures.means

pub load-returns-in-Record-clause-means : goal.load-returns-in-Record-clause-means
load-returns-in-Record-clause-means g t c = leaves.by_part c.args.spot.bytes.now c.args.spot.at c.args.spot.ty c.args.depth c.args.memory.now.top _ pt.Record _ _ c.in-Record.is c.in_ok-value.ensures.tells c.load_record.ensures.means

pub load-returns-in-Either-clause-means : goal.load-returns-in-Either-clause-means
load-returns-in-Either-clause-means g t c = leaves.by_part c.args.spot.bytes.now c.args.spot.at c.args.spot.ty c.args.depth c.args.memory.now.top _ (pt.Either c.in-Either.side) _ _ c.in-Either.is c.in_ok-value.ensures.tells c.load_side.ensures.means

-- data in a row
pub load_row-returns-in_err-start-clause-means : goal.load_row-returns-in_err-start-clause-means
load_row-returns-in_err-start-clause-means g t c =
    let e = c.in_err-start.ensures in
    rw c.from_residual.ensures (lined.no_room c.args.typing c.args.spot.bytes.now c.args.spot.at c.args.spot.ty c.args.count c.args.depth c.args.memory.now.top _ _ (omega (arith, e.short, ap length e.words)))

pub load_row-loop-i-init : goal.load_row-loop-i-init
load_row-loop-i-init g t c =
    let e = c.in_ok-start.ensures in
    (lined.begin c.args.typing c.args.spot.bytes.now c.args.spot.at c.args.spot.ty c.args.count c.args.depth c.in_ok-start.start _ _ _ e.words (omega (arith, e.begins, e.moved.top)) c.args.spot.datum_inside c.args.spot.type_inside, e.moved.frozen, e.moved.same)

pub load_row-returns-in_err-l-clause-means : goal.load_row-returns-in_err-l-clause-means
load_row-returns-in_err-l-clause-means g t c =
    rw (c.from_residual-in_err-l.ensures, ← c.in_ok-start.ensures.begins) (lined.item_none c.args.typing c.args.spot.bytes.now c.args.spot.at c.args.spot.ty c.args.count c.args.depth c.in_ok-start.start _ _ _ _ _ _ _ c.loop-i.invariant.0 c.loop-i-test.true _ _ c.in_err-l.ensures.means)

pub load_row-loop-i-preserved : goal.load_row-loop-i-preserved
load_row-loop-i-preserved g t c =
    let e = c.in_ok-l.ensures in
    let s = c.put_nth.ensures.steady in
    let ty : c.match-typing.ty ≡ next_type c.args.typing c.loop-i.ty c.in_ok-l.l.typed
    = elim c.match-typing.branch [ load_row-in-Shared w ↦ rw w.in-Shared.is w.ty-is | load_row-in-Own w ↦ rw w.in-Own.is w.ty-is ] in (
      rw (s.top, ty) (lined.turned c.args.typing c.args.spot.bytes.now c.args.spot.at c.args.spot.ty c.args.count c.args.depth c.in_ok-start.start _ _ _ _ _ _ _ c.loop-i.invariant.0 c.loop-i-test.true _ _ _ e.kept e.inside e.means c.put_nth.ensures.put),
      s.frozen ∙ e.frozen ∙ c.loop-i.invariant.1,
      s.same ∙ e.same ∙ c.loop-i.invariant.2,
    )

pub load_row-returns-clause-means : goal.load_row-returns-clause-means
load_row-returns-clause-means g t c =
    let all : c.loop-i.i ≡ c.args.count = omega (arith, c.loop-i.auto.i-end, c.loop-i-test.false) in
    rw (← c.in_ok-start.ensures.begins) (lined.finished c.args.typing c.args.spot.bytes.now c.args.spot.at c.args.spot.ty c.args.count c.args.depth c.in_ok-start.start _ _ _ _ _ _ _ c.loop-i.invariant.0 all c.in_ok-start.start)

-- a bag
pub load_bag-returns-in_err-slots-clause-means : goal.load_bag-returns-in_err-slots-clause-means
load_bag-returns-in_err-slots-clause-means g t c = rw c.from_residual.ensures (bags.bag_none c.args.spot.bytes.now c.args.spot.at c.args.spot.ty c.args.depth c.args.memory.now.top c.args.count _ _ c.in_err-slots.ensures.means)

pub load_bag-returns-clause-means : goal.load_bag-returns-clause-means
load_bag-returns-clause-means g t c =
    let e = c.in_ok-slots.ensures in
    elim c.if-this-ne0.branch [
      | load_bag-then-this-ne0+then-count-ne0 w ↦
          bags.bag_loaded_by_things c.args.spot.bytes.now c.args.spot.at c.args.spot.ty c.args.depth c.args.memory.now.top c.args.count _ _ c.in_ok-slots.slots c.if-this-ne0.typed e.inside.0 e.means (λ z. absurd (w.if-count-ne0.true z)) (λ z. w.typed-is)
      | load_bag-else-this-ne0 w ↦
          bags.bag_loaded c.args.spot.bytes.now c.args.spot.at c.args.spot.ty c.args.depth c.args.memory.now.top c.args.count _ _ c.in_ok-slots.slots c.if-this-ne0.typed e.inside.0 e.means (rw w.typed-is w.type_length-typed.ensures.tells)
    ]

-- a record
pub load_record-returns-in_err-head-clause-means : goal.load_record-returns-in_err-head-clause-means
load_record-returns-in_err-head-clause-means g t c = rw c.from_residual.ensures (records.no_names c.args.spot.bytes.now c.args.spot.at c.args.spot.ty c.args.depth c.args.memory.now.top _ c.in_err-head.ensures.tells)

pub load_record-returns-then-bytes-spot-clause-means : goal.load_record-returns-then-bytes-spot-clause-means
load_record-returns-then-bytes-spot-clause-means g t c =
    records.too_short c.args.spot.bytes.now c.args.spot.at c.args.spot.ty c.args.depth c.args.memory.now.top c.in_ok-head.head c.in_ok-head.ensures.tells _ (omega (arith, c.requires.placed.datum, c.if-bytes-spot.true))

pub load_record-returns-in_err-start-clause-means : goal.load_record-returns-in_err-start-clause-means
load_record-returns-in_err-start-clause-means g t c =
    let e = c.in_err-start.ensures in
    rw c.from_residual-in_err-start.ensures (records.no_room c.args.spot.bytes.now c.args.spot.at c.args.spot.ty c.args.depth c.args.memory.now.top c.in_ok-head.head c.in_ok-head.ensures.tells _ (omega (arith, e.short, ap length e.words)))

pub load_record-loop-i-init : goal.load_record-loop-i-init
load_record-loop-i-init g t c =
    let e = c.in_ok-start.ensures in
    let h = c.in_ok-head.ensures in (
      records.begin c.args.spot.bytes.now c.args.spot.at c.args.spot.ty c.args.depth c.in_ok-start.start c.in_ok-head.head h.tells _ _ _ e.words (omega (arith, e.begins, e.moved.top)) h.inside.0 h.inside.1
          (omega (arith, c.if-bytes-spot.false, c.requires.placed.datum)) (omega (arith, c.reserve.new.self.within, length-append {A = ℕ})),
      e.moved.frozen,
      e.moved.same,
    )

pub load_record-returns-in_err-count-clause-means : goal.load_record-returns-in_err-count-clause-means
load_record-returns-in_err-count-clause-means g t c =
    rw (c.from_residual-in_err-count.ensures, ← c.in_ok-start.ensures.begins)
    (records.name_none c.args.spot.bytes.now c.args.spot.at c.args.spot.ty c.args.depth c.in_ok-start.start _ _ _ _ _ _ _ _ c.loop-i.invariant.0 c.loop-i-test.true _ c.in_err-count.ensures.tells)

pub load_record-returns-in_err-l-clause-means : goal.load_record-returns-in_err-l-clause-means
load_record-returns-in_err-l-clause-means g t c =
    rw (c.from_residual-in_err-l.ensures, ← c.in_ok-start.ensures.begins)
    (records.item_none c.args.spot.bytes.now c.args.spot.at c.args.spot.ty c.args.depth c.in_ok-start.start _ _ _ _ _ _ _ _ c.loop-i.invariant.0 c.loop-i-test.true _ c.in_err-l.ensures.means)

pub load_record-loop-i-preserved : goal.load_record-loop-i-preserved
load_record-loop-i-preserved g t c =
    let e = c.in_ok-l.ensures in
    let n = c.in_ok-count.ensures in
    let s = c.put_nth.ensures.steady in (
      rw s.top (records.turned c.args.spot.bytes.now c.args.spot.at c.args.spot.ty c.args.depth c.in_ok-start.start _ _ _ _ _ _ _ _ c.loop-i.invariant.0 c.loop-i-test.true c.in_ok-count.count n.tells n.inside _ _ _ e.kept e.inside e.means c.put_nth.ensures.put),
      s.frozen ∙ e.frozen ∙ c.loop-i.invariant.1,
      s.same ∙ e.same ∙ c.loop-i.invariant.2,
    )

pub load_record-returns-clause-means : goal.load_record-returns-clause-means
load_record-returns-clause-means g t c =
    let all : c.loop-i.i ≡ c.in_ok-head.head.count = omega (arith, c.loop-i.auto.i-end, c.loop-i-test.false) in
    rw (← c.in_ok-start.ensures.begins) (records.finished c.args.spot.bytes.now c.args.spot.at c.args.spot.ty c.args.depth c.in_ok-start.start _ _ _ _ _ _ _ _ c.loop-i.invariant.0 all)

-- a side of an either
pub load_side-returns-in_err-l-clause-means : goal.load_side-returns-in_err-l-clause-means
load_side-returns-in_err-l-clause-means g t c =
    rw c.from_residual.ensures (sides.side_none c.args.spot.bytes.now c.args.spot.at c.args.spot.ty c.args.depth c.args.memory.now.top c.args.side _ _ c.types_before-before.ensures.tells c.in_err-l.ensures.means)

pub load_side-returns-in_err-slot-clause-means : goal.load_side-returns-in_err-slot-clause-means
load_side-returns-in_err-slot-clause-means g t c =
    let e = c.in_err-slot.ensures in
    rw c.from_residual-in_err-slot.ensures (sides.side_no_room c.args.spot.bytes.now c.args.spot.at c.args.spot.ty c.args.depth c.args.memory.now.top c.args.side _ _ _ _ c.types_before-before.ensures.tells c.in_ok-l.ensures.means e.short (ap length e.words))

pub load_side-returns-in-Left-clause-means : goal.load_side-returns-in-Left-clause-means
load_side-returns-in-Left-clause-means g t c =
    let none = subst (λ s. Before c.args.spot.bytes.now (c.args.spot.ty + 1) s c.types_before-before.result) c.in-Left.is c.types_before-before.ensures.tells in
    let e = c.in_ok-l.ensures in
    let p = c.in_ok-slot.ensures in
    rw c.in-Left.is (sides.left_loaded c.args.spot.bytes.now c.args.spot.at c.args.spot.ty c.args.depth c.args.memory.now.top _ _ _ _ _ _ c.type_length.result none e.inside.above e.means p.begins p.put p.moved.top c.type_length.ensures.tells)

pub load_side-returns-in-Right-clause-means : goal.load_side-returns-in-Right-clause-means
load_side-returns-in-Right-clause-means g t c =
    let o = subst (λ s. Before c.args.spot.bytes.now (c.args.spot.ty + 1) s c.types_before-before.result) c.in-Right.is c.types_before-before.ensures.tells in
    let e = c.in_ok-l.ensures in
    let p = c.in_ok-slot.ensures in
    rw c.in-Right.is (sides.right_loaded c.args.spot.bytes.now c.args.spot.at c.args.spot.ty c.args.depth c.args.memory.now.top c.types_before-before.result o _ _ _ _ _ e.inside.above e.means p.begins p.put p.moved.top)
