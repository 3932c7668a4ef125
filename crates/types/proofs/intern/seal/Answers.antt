use Rattle.std.proofs.Common.{◌-◌, refl, arith}
use Rattle.types.proofs.Makes.{sealed_cut, sealed_push, sound_wide}
use Rattle.types.proofs.intern.seal.Goals as goal

pub find-requires : goal.find-requires
find-requires c = rw c.deref.ensures.value (rw c.deref-2.ensures.value (record { lies = (sound_wide _ _ _ c.args.start c.requires.start c.requires.sound).lies; here = omega arith; within = omega arith; before = λ i h. absurd (omega (arith, h)) }))

pub returns-in-Some : goal.returns-in-Some
returns-in-Some c =
    let f = rw c.deref.ensures.value at (rw c.deref-2.ensures.value at c.in-Some.ensures) in
    record {
      kept = (refl, c.truncate.ensures.capacity);
      made = sealed_cut _ _ _ _ c.args.start c.in-Some.i (c.len.result - c.args.start) c.requires.start c.requires.sound c.truncate.ensures.items (omega arith) f;
    }

pub returns-in-None : goal.returns-in-None
returns-in-None c =
    let f = rw c.deref.ensures.value at (rw c.deref-2.ensures.value at c.in-None.ensures) in
    record {
      kept = (c.push_reserved.ensures.capacity, refl);
      made = sealed_push _ _ _ _ c.args.start _ (c.len.result - c.args.start) c.requires.start c.requires.sound c.requires.parts (omega arith) f c.push_reserved.ensures.items (omega arith);
    }
