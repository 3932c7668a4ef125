use Rattle.std.proofs.Common.{vec_items, refl, arith, rules}
use Rattle.serving.proofs.Unread.{front_kept}
use Rattle.serving.proofs.requests.read_behind.Goals as goal

pub returns : goal.returns
returns c = record {
  front = front_kept c.args.end c.args.buffer.now.len (vec_items c.args.buffer.now) c.as_mut_slice.result.now _ _ c.as_mut_slice.ensures.value c.requires (omega (arith, c.requires));
  long = refl;
  within = search rules;
}
