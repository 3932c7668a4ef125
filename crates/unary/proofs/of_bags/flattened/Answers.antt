use Rattle.std.proofs.Common.{sym, arith}
use Rattle.std.proofs.lemmas.Result.{err_from_is_err_and}
use Rattle.operators.proofs.Refusing.{stopped}
use Rattle.operators.specs.declared.came.Stop.TheVariants as stops
use Rattle.bags.proofs.Things.{readable_more}
use Rattle.unary.proofs.OfBags.{bag_there, bag_reads, flat_no_bag, flat_tired, flat_no_bags, flat_too_many, flat_turns, flat_short, flat_wrong}
use Rattle.unary.proofs.of_bags.flattened.Goals as goal

pub returns-in_err-place-clause-turns : goal.returns-in_err-place-clause-turns
returns-in_err-place-clause-turns c =
    let p = err_from_is_err_and c.from_residual.result c.from_residual.ensures.1 in
    rw (p.1, p.2) (flat_no_bag c.args.v _ c.args.memory.now.top c.args.left _ (sym c.in_err-place.ensures))

pub returns-in_err-rest-clause-turns : goal.returns-in_err-rest-clause-turns
returns-in_err-rest-clause-turns c =
    let p = err_from_is_err_and c.from_residual-in_err-rest.result c.from_residual-in_err-rest.ensures.1 in
    rw (p.1, p.2, c.in_err-rest.ensures.0) (flat_tired c.args.v _ c.args.memory.now.top c.args.left c.in_ok-place.place (sym c.in_ok-place.ensures) c.in_err-rest.ensures.1)

pub count_all-requires : goal.count_all-requires
count_all-requires c = rw c.row.ensures (readable_more (bag_reads c.args.v _ c.args.memory.now.top c.args.left c.in_ok-place.place (sym c.in_ok-place.ensures) c.requires) c.requires.room)

pub returns-in_err-count-clause-turns : goal.returns-in_err-count-clause-turns
returns-in_err-count-clause-turns c =
    let p = err_from_is_err_and c.from_residual-in_err-count.result c.from_residual-in_err-count.ensures.1 in
    let n = stopped c.count_all.result stops.Wrong _ c.in_err-count.ensures.value in
    rw (p.1, p.2, n.1) (flat_no_bags c.args.v _ c.args.memory.now.top c.args.left c.in_ok-place.place (sym c.in_ok-place.ensures) (rw (c.row.ensures, n.0) at c.count_all.ensures))

pub returns-in_err-left-clause-turns : goal.returns-in_err-left-clause-turns
returns-in_err-left-clause-turns c =
    let p = err_from_is_err_and c.from_residual-in_err-left.result c.from_residual-in_err-left.ensures.1 in
    let counted = rw (c.row.ensures, c.in_ok-count.ensures.ok_part) at c.count_all.ensures in
    let few = c.in_err-left.ensures.1 in
    rw (p.1, p.2, c.in_err-left.ensures.0) (flat_too_many c.args.v _ c.args.memory.now.top c.args.left c.in_ok-place.place (sym c.in_ok-place.ensures) c.in_ok-count.count counted c.in_ok-rest.ensures.0 (omega (arith, few, c.in_ok-rest.ensures.1)))

pub flat-requires : goal.flat-requires
flat-requires c = bag_there c.args.v _ c.args.memory.now.top c.args.left c.in_ok-place.place (sym c.in_ok-place.ensures) c.requires

pub returns-in-Ok-clause-turns : goal.returns-in-Ok-clause-turns
returns-in-Ok-clause-turns c =
    let counted = rw (c.row.ensures, c.in_ok-count.ensures.ok_part) at c.count_all.ensures in
    let first = c.in_ok-rest.ensures in
    let second = rw first.1 at c.in_ok-left.ensures in
    rw second.1 (flat_turns c.args.v _ c.args.memory.now.top c.args.left c.in_ok-place.place (sym c.in_ok-place.ensures) c.in_ok-count.count counted _ first.0 second.0 _ c.in-Ok.made c.in-Ok.ensures.makes)

pub returns-in-Err-NoRoom-clause-turns : goal.returns-in-Err-NoRoom-clause-turns
returns-in-Err-NoRoom-clause-turns c =
    let counted = rw (c.row.ensures, c.in_ok-count.ensures.ok_part) at c.count_all.ensures in
    let first = c.in_ok-rest.ensures in
    let second = rw first.1 at c.in_ok-left.ensures in
    flat_short c.args.v _ c.args.memory.now.top c.args.left c.in_ok-place.place (sym c.in_ok-place.ensures) c.in_ok-count.count counted _ first.0 second.0 _ c.in-Err-NoRoom.field-0-0 (rw c.in-Err-NoRoom.field-0-is at c.in-Err-NoRoom.ensures.makes)

pub returns-in-Err-NoBag-clause-turns : goal.returns-in-Err-NoBag-clause-turns
returns-in-Err-NoBag-clause-turns c =
    let counted = rw (c.row.ensures, c.in_ok-count.ensures.ok_part) at c.count_all.ensures in
    let first = c.in_ok-rest.ensures in
    let second = rw first.1 at c.in_ok-left.ensures in
    flat_wrong c.args.v _ c.args.memory.now.top c.args.left c.in_ok-place.place (sym c.in_ok-place.ensures) c.in_ok-count.count counted _ first.0 second.0 _ (rw c.in-Err-NoBag.field-0-is at c.in-Err-NoBag.ensures.makes)
