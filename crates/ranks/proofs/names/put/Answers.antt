use Rattle.std.proofs.Common.{◌<◌, Bool, cond, List, length, get_or, vec_items, vec_len, vec_capacity, sym, ap, ◌∙◌, subst, arith}
use Rattle.std.specs.List.{insert}
use Rattle.ranks.specs.Ranks.{name_at, nowhere}
use Rattle.ranks.specs.declared.names.Place.{Place}
use Rattle.ranks.proofs.Listings.{put_none, put_full, put_in, there, part_same, put_at_part, names_length}
use Rattle.ranks.proofs.names.put.Goals as goal

pub returns-in_default : goal.returns-in_default
returns-in_default c =
    let v = c.deref.ensures.value in
    let e = c.in_default.ensures in
    put_none c.args.bytes.now c.args.names.now _ c.requires.listed
    (there c.args.bytes.now (vec_items c.args.names.now.places) _ c.in_default.field-0
    (subst (λ (z : List Place). c.in_default.field-0 < length z) v e.0)
    (ap (λ (z : List Place). name_at c.args.bytes.now (get_or z c.in_default.field-0 nowhere)) (sym v) ∙ (e.1 ∙ part_same c.args.bytes.now c.args.start c.args.long)))

pub returns-then-len-ge-MOST : goal.returns-then-len-ge-MOST
returns-then-len-ge-MOST c = put_full c.args.bytes.now c.args.names.now _ c.requires.listed (omega arith)

pub insert-requires : goal.insert-requires
insert-requires c =
    let p = (put_at_part c.args.bytes.now (vec_items c.args.names.now.places) _ c.args.start c.args.long c.in-Err.i c.deref.ensures.value c.in-Err.ensures).within in
    let e = names_length c.args.bytes.now (vec_items c.args.names.now.places) in
    omega arith

pub returns : goal.returns
returns c =
    let p = put_at_part c.args.bytes.now (vec_items c.args.names.now.places) _ c.args.start c.args.long c.in-Err.i c.deref.ensures.value c.in-Err.ensures in
    let l = c.requires.listed in
    let r : vec_len c.args.names.now.places < vec_capacity c.args.names.now.places = omega (arith, l.cap) in
    let e = c.insert.ensures in
    let k = (e.in_place r).1 in
    put_in c.args.bytes.now c.args.names.now _ (record { start = c.args.start; length = c.args.long }) c.in-Err.i l c.requires.lies p (omega arith)
    (e.items ∙ ap (λ (b : Bool). cond b (insert (vec_items c.args.names.now.places) c.in-Err.i (record { start = c.args.start; length = c.args.long })) (vec_items c.args.names.now.places)) (e.succeeds r))
    (omega (arith, l.cap, k.0))
