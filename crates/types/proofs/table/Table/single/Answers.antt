use Rattle.std.proofs.Common.{◌≡◌, length, vec_items, ◌∙◌, arith}
use Rattle.types.proofs.Tops.{sound_field, top_start, top_sound, top_rises, top_made, one_rises}
use Rattle.types.proofs.table.Table.single.Goals as goal

pub seal-requires : goal.seal-requires
seal-requires c =
    let i = c.push_reserved.ensures.items in
    let l : c.len-start.result ≡ length (vec_items c.args.self.now.fields) = omega arith in
    record {
      start = top_start _ _ _ c.len-start.result i l;
      sound = top_sound _ _ _ _ _ c.len-start.result i l c.args.self.now.sound;
      parts = top_rises _ _ _ _ _ c.len-start.result i l (one_rises _ _ _ c.requires.name c.requires.within);
      room = c.requires.spare.one;
      wide = let s = c.requires.spare.some in omega arith;
    }

pub returns : goal.returns
returns c =
    let k = c.seal.ensures.kept in
    let l : c.len-start.result ≡ length (vec_items c.args.self.now.fields) = omega arith in
    record {
      kept = record { names = k.names; entries = k.entries; fields = k.fields ∙ c.push_reserved.ensures.capacity };
      made = top_made _ _ _ _ _ c.len-start.result 1 _ _ _ c.push_reserved.ensures.items l (omega arith) c.seal.ensures.made;
    }

pub invariant_of-self-clause-sound : goal.invariant_of-self-clause-sound
invariant_of-self-clause-sound c = sound_field _ _ _ _ _ c.push_reserved.ensures.items c.args.self.now.sound
