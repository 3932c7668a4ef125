use Rattle.std.proofs.Common.{[], ◌∷◌, vec_items, codes, decimal, rules}
use Rattle.printing.specs.Lines.{words_for}
use Rattle.printing.proofs.Pieces.{known_as, seven}
use Rattle.printing.proofs.line.refusal.Goals as goal

pub returns : goal.returns
returns c = record {
  is =
      seven
      (vec_items c.args.out.now)
      (vec_items c.extend_from_slice.new.self)
      (vec_items c.show_number.new.out)
      (vec_items c.push.new.self)
      (vec_items c.show_number-2.new.out)
      (vec_items c.push-2.new.self)
      (vec_items c.extend_from_slice-2.new.self)
      (vec_items c.push-3.new.self)
      (codes "0 ")
      (decimal c.args.number)
      (32 ∷ [])
      (decimal c.args.place)
      (32 ∷ [])
      (words_for c.args.number)
      (10 ∷ [])
      c.in_ok-extend_from_slice.ensures.items
      c.in_ok-show_number.ensures.is
      c.in_ok-push.ensures.items
      c.in_ok-show_number-2.ensures.is
      c.in_ok-push-2.ensures.items
      (known_as (vec_items c.push-2.new.self) c.as_bytes.result.now c.what_is_wrong.result.now (words_for c.args.number) (vec_items c.extend_from_slice-2.new.self) c.in_ok-extend_from_slice-2.ensures.items c.as_bytes.ensures.value c.what_is_wrong.ensures)
      c.in_ok-push-3.ensures.items;
  grows = search rules;
}
