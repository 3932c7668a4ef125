use Rattle.std.proofs.Common.{◌≡◌, ◌+◌, ◌≤◌, length, None, vec_items, vec_len, vec_capacity, ap, ◌∙◌, inl, inr, arith}
use Rattle.types.specs.Fields.{zip_f}
use Rattle.types.specs.Outcomes.{tidy, Kept}
use Rattle.types.proofs.Operators.{if_no}
use Rattle.types.proofs.Meanings.{stay, stays, no_room, made_grew}
use Rattle.types.proofs.Makings.{zip_on, zip_end, zip_room, zip_length, zip_rises, record_says}
use Rattle.types.proofs.Tops.{sound_field, top_start, top_sound, top_rises, top_made, top_wide, rising_as, sound_as, made_as}
use Rattle.types.proofs.table.Table.record.Goals as goal
use Rattle.types.proofs.table.Table.record.Goals.{then-not-rises-via-then-not-rises, then-not-rises-via-else-not-rises+then-not-spare}

pub returns-then-not-rises : goal.returns-then-not-rises
returns-then-not-rises c = record {
  grew = stay None (tidy c.args.self.now) tt;
  says = λ ns rk. elim c.then-not-rises.branch [
    | then-not-rises-via-then-not-rises w ↦ stays 1 _ None _ (if_no _ _ w.if-not-rises.ensures)
    | then-not-rises-via-else-not-rises+then-not-spare w ↦ no_room 1 _ _ (λ o. w.if-not-spare.ensures o)
  ];
}

pub push_reserved-requires : goal.push_reserved-requires
push_reserved-requires c =
    let r = zip_room _ _ c.args.ranks.now c.args.of.now _ _ _ _ _ _ c.requires.many c.loop-name.invariant.0 c.in-Some.ensures.steps.0 c.in-Some.ensures.steps.1 in
    let s = c.if-not-spare.ensures in
    let e = c.loop-name.invariant.4 in
    omega (arith, s.some, s.fields)

pub loop-name-preserved : goal.loop-name-preserved
loop-name-preserved c =
    let a = ap (λ z. length z) c.in-Some.ensures.steps.0 in
    let b = ap (λ z. length z) c.in-Some.ensures.steps.1 in
    let l = c.loop-name.invariant.1 in (
      zip_on _ _ _ _ _ _ _ _ _ c.loop-name.invariant.0 c.in-Some.ensures.steps.0 c.in-Some.ensures.steps.1 c.push_reserved.ensures.items,
      omega arith,
      c.loop-name.invariant.2,
      c.loop-name.invariant.3,
      c.push_reserved.ensures.capacity ∙ c.loop-name.invariant.4,
    )

pub seal-requires : goal.seal-requires
seal-requires c =
    let e = zip_end _ _ _ _ (elim c.in-None.ensures.steps [ inl p ↦ omega (arith, p.1.0) | inr p ↦ omega (arith, p.1.0) ]) c.loop-name.invariant.0 in
    let k = ap (λ v. length (vec_items v)) c.loop-name.invariant.3 in
    let l : c.len-start.result ≡ length (vec_items c.args.self.now.fields) = omega arith in
    let s = c.if-not-spare.ensures in
    let h : length (vec_items c.args.self.now.fields) + length c.args.ranks.now ≤ 16793600 = omega (arith, s.some) in
    let zl = zip_length c.args.ranks.now c.args.of.now c.requires.many in
    let hz : length (zip_f c.args.ranks.now c.args.of.now) ≤ length c.args.ranks.now = omega arith in
    let z = top_wide _ _ _ _ 16793600 e hz h in
    record {
      start = top_start _ _ _ c.len-start.result e l;
      sound = sound_as _ _ _ _ _ c.loop-name.invariant.2 (ap (λ v. vec_items v) c.loop-name.invariant.3) (top_sound _ _ _ _ _ c.len-start.result e l c.args.self.now.sound);
      parts = rising_as _ _ _ _ _ c.loop-name.invariant.2 k (top_rises _ _ _ _ _ c.len-start.result e l (zip_rises _ _ 0 _ _ c.if-not-rises.ensures c.requires.names c.requires.within c.requires.many));
      room = let p = ap (λ v. vec_len v) c.loop-name.invariant.3 in omega (arith, s.one);
      wide = omega arith;
    }

pub returns : goal.returns
returns c =
    let e = zip_end _ _ _ _ (elim c.in-None.ensures.steps [ inl p ↦ omega (arith, p.1.0) | inr p ↦ omega (arith, p.1.0) ]) c.loop-name.invariant.0 in
    let k = c.seal.ensures.kept in
    let l : c.len-start.result ≡ length (vec_items c.args.self.now.fields) = omega arith in
    let zl = zip_length c.args.ranks.now c.args.of.now c.requires.many in
    let hz : length (zip_f c.args.ranks.now c.args.of.now) ≤ length c.args.ranks.now = omega arith in
    let kp : Kept c.args.self.now c.seal.new.self = record { names = k.names ∙ c.loop-name.invariant.2; entries = k.entries ∙ ap (λ v. vec_capacity v) c.loop-name.invariant.3; fields = k.fields ∙ c.loop-name.invariant.4 } in
    let m = top_made _ _ _ _ _ c.len-start.result (length c.args.ranks.now) _ _ _ e l hz (made_as _ _ _ _ _ _ _ _ _ _ c.loop-name.invariant.2 (ap (λ v. vec_items v) c.loop-name.invariant.3) c.seal.ensures.made) in
    record {
      grew = made_grew c.args.self.now c.seal.new.self (tidy c.args.self.now) kp _ (length c.args.ranks.now) c.seal.result m;
      says = record_says c.args.self.now c.seal.new.self c.args.ranks.now c.args.of.now c.seal.result c.if-not-rises.ensures c.requires.names c.requires.within c.requires.many m;
    }

pub invariant_of-self-clause-sound : goal.invariant_of-self-clause-sound
invariant_of-self-clause-sound c = sound_field _ _ _ _ _ c.push_reserved.ensures.items c.loop-name.self.sound
