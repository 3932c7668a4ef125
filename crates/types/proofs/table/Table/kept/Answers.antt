use Rattle.std.proofs.Common.{◌≡◌, ◌+◌, ◌≤◌, length, vec_items, vec_len, vec_capacity, sym, refl, ap, ◌∙◌, subst, arith}
use Rattle.types.specs.declared.table.Table.{Table}
use Rattle.types.proofs.Keeps.{Keeping, stays_told, keep_begin, keep_lies, keep_off, keep_room, keep_on, keep_end, kept_rises}
use Rattle.types.proofs.Tops.{sound_field, top_start, top_sound, top_rises, top_made, top_wide, rising_as, sound_as, made_as}
use Rattle.types.proofs.table.Table.kept.Goals as goal
use Rattle.types.proofs.table.Table.kept.Goals.{then-contains-keep, else-contains-keep}

pub loop-i-init : goal.loop-i-init
loop-i-init c = (keep_begin _ _ _ c.args.p.start c.args.p.count _ _ c.requires.rises, refl, refl, refl)

pub field_at-f-requires : goal.field_at-f-requires
field_at-f-requires c = keep_lies _ _ _ _ _ _ _ _ _ c.requires.lies c.loop-i.invariant.0 c.loop-i-test.true

pub push_reserved-requires : goal.push_reserved-requires
push_reserved-requires c =
    let r = keep_room _ _ _ _ _ _ _ _ _ c.requires.lies c.loop-i.invariant.0 c.loop-i-test.true _ c.field_at-f.ensures (stays_told _ _ _ _ c.contains.ensures.value _ c.if-contains-keep.true) in
    let s = c.requires.spare in
    let e = c.loop-i.invariant.3 in
    omega arith

-- how it goes on with a table
abbrev goes : goal.Joined-contains-keep → Table → Type 0
goes c u =
    Keeping c.args.self.now.names (length (vec_items c.args.self.now.entries)) (vec_items c.args.self.now.fields) c.args.p.start c.args.p.count c.args.names.now c.args.keep (vec_items u.fields) (c.loop-i.i + 1)
    × (u.names ≡ c.args.self.now.names) × (u.entries ≡ c.args.self.now.entries) × (vec_capacity u.fields ≡ vec_capacity c.args.self.now.fields)

pub loop-i-preserved : goal.loop-i-preserved
loop-i-preserved c =
    elim c.if-contains-keep.branch [
      | then-contains-keep w ↦ subst (goes c) (sym w.self-is) (
        keep_on _ _ _ _ _ _ _ _ _ c.requires.lies c.loop-i.invariant.0 c.loop-i-test.true _ c.field_at-f.ensures _ w.push_reserved.ensures.items (stays_told _ _ _ _ c.contains.ensures.value _ w.if-contains-keep.true),
        c.loop-i.invariant.1,
        c.loop-i.invariant.2,
        w.push_reserved.ensures.capacity ∙ c.loop-i.invariant.3,
      )
      | else-contains-keep w ↦ subst (goes c) (sym w.self-is) (
        keep_off _ _ _ _ _ _ _ _ _ c.requires.lies c.loop-i.invariant.0 c.loop-i-test.true _ c.field_at-f.ensures (stays_told _ _ _ _ c.contains.ensures.value _ w.if-contains-keep.false),
        c.loop-i.invariant.1,
        c.loop-i.invariant.2,
        c.loop-i.invariant.3,
      )
    ]

pub seal-requires : goal.seal-requires
seal-requires c =
    let g = c.loop-i.invariant.0 in
    let e = keep_end _ _ _ _ _ _ _ _ _ c.requires.lies g (omega arith) in
    let k = ap (λ v. length (vec_items v)) c.loop-i.invariant.2 in
    let l : c.len-start.result ≡ length (vec_items c.args.self.now.fields) = omega arith in
    let r = c.requires.spare in
    let h : length (vec_items c.args.self.now.fields) + c.args.self.now.names ≤ 16793600 = omega arith in
    let z = top_wide _ _ _ _ 16793600 e g.wide h in
    record {
      start = top_start _ _ _ c.len-start.result e l;
      sound = sound_as _ _ _ _ _ c.loop-i.invariant.1 (ap (λ v. vec_items v) c.loop-i.invariant.2) (top_sound _ _ _ _ _ c.len-start.result e l c.args.self.now.sound);
      parts = rising_as _ _ _ _ _ c.loop-i.invariant.1 k (top_rises _ _ _ _ _ c.len-start.result e l (kept_rises _ _ 0 _ _ _ c.requires.rises));
      room = let p = ap (λ v. vec_len v) c.loop-i.invariant.2 in omega arith;
      wide = omega arith;
    }

pub returns : goal.returns
returns c =
    let g = c.loop-i.invariant.0 in
    let e = keep_end _ _ _ _ _ _ _ _ _ c.requires.lies g (omega arith) in
    let k = c.seal.ensures.kept in
    let l : c.len-start.result ≡ length (vec_items c.args.self.now.fields) = omega arith in
    record {
      kept = record { names = k.names ∙ c.loop-i.invariant.1; entries = k.entries ∙ ap (λ v. vec_capacity v) c.loop-i.invariant.2; fields = k.fields ∙ c.loop-i.invariant.3 };
      made = top_made _ _ _ _ _ c.len-start.result _ _ _ _ e l g.wide (made_as _ _ _ _ _ _ _ _ _ _ c.loop-i.invariant.1 (ap (λ v. vec_items v) c.loop-i.invariant.2) c.seal.ensures.made);
    }

pub invariant_of-self-clause-sound : goal.invariant_of-self-clause-sound
invariant_of-self-clause-sound c = sound_field _ _ _ _ _ c.push_reserved.ensures.items c.loop-i.self.sound
