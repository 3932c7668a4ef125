use Rattle.std.proofs.Common.{refl, subst, arith}
use Rattle.types.specs.Shapes.{Below}
use Rattle.types.proofs.Makes.{made_old, made_push, lies_more, sound_part}
use Rattle.types.proofs.intern.plain.Goals as goal

pub find-requires : goal.find-requires
find-requires c =
    let l = c.after_parts.ensures _ _ _ c.requires.parts in
    rw c.deref.ensures.value (record {
      lies = c.requires.sound.lies;
      here = lies_more 0 _ c.args.e (omega arith) c.requires.plain;
      within = l;
      before = λ i h q. omega (arith, h, c.after_parts.ensures _ i _ (subst (λ z. Below c.args.names i z) q (sound_part _ _ _ i c.requires.sound (omega (arith, h, l)))));
    })

pub returns-in-Some : goal.returns-in-Some
returns-in-Some c =
    let f = rw c.deref.ensures.value at c.in-Some.ensures in
    record { kept = refl; made = made_old _ _ _ _ c.in-Some.i c.requires.sound f.0 f.1 }

pub returns-in-None : goal.returns-in-None
returns-in-None c =
    let f = rw c.deref.ensures.value at c.in-None.ensures in
    record {
      kept = c.push_reserved.ensures.capacity;
      made = made_push _ _ _ _ _ _ c.requires.sound (lies_more 0 _ c.args.e (omega arith) c.requires.plain) c.requires.parts f c.push_reserved.ensures.items (omega arith);
    }
