use Rattle.std.proofs.Common.{◌≡◌, ◌+◌, ◌≤◌, length, vec_items, vec_len, vec_capacity, refl, ap, ◌∙◌, arith}
use Rattle.types.proofs.Both.{both_rises}
use Rattle.types.proofs.Tops.{sound_field, merge_begin, merge_first, merge_rises, merge_rising, merge_counts, merge_room, merge_skip, merge_end, top_start, top_sound, top_rises, top_made, rising_as, sound_as, made_as, top_wide}
use Rattle.types.proofs.table.Table.both.Goals as goal

pub loop-next-init : goal.loop-next-init
loop-next-init c = (merge_begin _ _ _ c.args.p.start c.args.p.count c.args.q.start c.args.q.count c.requires.first c.requires.second c.requires.rises c.requires.rising, refl, refl, refl)

pub next-requires : goal.next-requires
next-requires c =
    let g = c.loop-next.invariant.0 in
    let k = ap (λ v. length (vec_items v)) c.loop-next.invariant.2 in
    record {
      first = (merge_first g).0;
      second = (merge_first g).1;
      rises = rising_as _ _ _ _ _ c.loop-next.invariant.1 k (merge_rises g);
      rising = rising_as _ _ _ _ _ c.loop-next.invariant.1 k (merge_rising g);
    }

pub push_reserved-requires : goal.push_reserved-requires
push_reserved-requires c = let r = merge_room c.loop-next.invariant.0 c.in-Some.next c.in-Some.ensures in let e = c.loop-next.invariant.3 in let w = c.requires.spare in omega arith

pub skip-p-requires : goal.skip-p-requires
skip-p-requires c = let k = merge_counts c.loop-next.invariant.0 c.in-Some.next c.in-Some.ensures in let f = c.loop-next.invariant.0.first in let s = c.requires.spare.some in record { some = k.0; fits = omega arith }

pub skip-q-requires : goal.skip-q-requires
skip-q-requires c = let k = merge_counts c.loop-next.invariant.0 c.in-Some.next c.in-Some.ensures in let f = c.loop-next.invariant.0.second in let s = c.requires.spare.some in record { some = k.1; fits = omega arith }

pub loop-next-smaller : goal.loop-next-smaller
loop-next-smaller c = let k = merge_counts c.loop-next.invariant.0 c.in-Some.next c.in-Some.ensures in omega arith

pub loop-next-preserved : goal.loop-next-preserved
loop-next-preserved c = (merge_skip c.loop-next.invariant.0 c.in-Some.next c.in-Some.ensures _ c.push_reserved.ensures.items _ _ c.skip-p.ensures.start c.skip-p.ensures.count c.skip-q.ensures.start c.skip-q.ensures.count, c.loop-next.invariant.1, c.loop-next.invariant.2, c.push_reserved.ensures.capacity ∙ c.loop-next.invariant.3)

pub seal-requires : goal.seal-requires
seal-requires c =
    let g = c.loop-next.invariant.0 in
    let e = merge_end g c.in_default.ensures.0 c.in_default.ensures.1 in
    let k = ap (λ v. length (vec_items v)) c.loop-next.invariant.2 in
    let l : c.len-start.result ≡ length (vec_items c.args.self.now.fields) = omega arith in
    record {
      start = top_start _ _ _ c.len-start.result e l;
      sound = sound_as _ _ _ _ _ c.loop-next.invariant.1 (ap (λ v. vec_items v) c.loop-next.invariant.2) (top_sound _ _ _ _ _ c.len-start.result e l c.args.self.now.sound);
      parts = rising_as _ _ _ _ _ c.loop-next.invariant.1 k (top_rises _ _ _ _ _ c.len-start.result e l (both_rises _ _ 0 _ _ c.requires.rises c.requires.rising));
      room = let p = ap (λ v. vec_len v) c.loop-next.invariant.2 in let q = ap (λ v. vec_capacity v) c.loop-next.invariant.2 in let r = c.requires.spare in omega arith;
      wide = let r = c.requires.spare in let h : length (vec_items c.args.self.now.fields) + c.args.self.now.names ≤ 16793600 = omega arith in let z = top_wide _ _ _ _ 16793600 e g.wide h in omega arith;
    }

pub returns : goal.returns
returns c =
    let g = c.loop-next.invariant.0 in
    let e = merge_end g c.in_default.ensures.0 c.in_default.ensures.1 in
    let k = c.seal.ensures.kept in
    let l : c.len-start.result ≡ length (vec_items c.args.self.now.fields) = omega arith in
    record {
      kept = record { names = k.names ∙ c.loop-next.invariant.1; entries = k.entries ∙ ap (λ v. vec_capacity v) c.loop-next.invariant.2; fields = k.fields ∙ c.loop-next.invariant.3 };
      made = top_made _ _ _ _ _ c.len-start.result _ _ _ _ e l g.wide (made_as _ _ _ _ _ _ _ _ _ _ c.loop-next.invariant.1 (ap (λ v. vec_items v) c.loop-next.invariant.2) c.seal.ensures.made);
    }

pub invariant_of-self-clause-sound : goal.invariant_of-self-clause-sound
invariant_of-self-clause-sound c = sound_field _ _ _ _ _ c.push_reserved.ensures.items c.loop-next.self.sound
