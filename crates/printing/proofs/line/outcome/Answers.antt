use Rattle.std.proofs.Common.{[], ◌∷◌, vec_items, codes, rules}
use Rattle.printing.specs.Datums.{text_of}
use Rattle.printing.specs.Lines.{work_text}
use Rattle.printing.proofs.Pieces.{four_pieces}
use Rattle.printing.proofs.line.outcome.Goals as goal

pub returns : goal.returns
returns c = record {
  is = record {
    is = λ d f e.
        four_pieces
        (vec_items c.args.out.now)
        (vec_items c.extend_from_slice.new.self)
        (vec_items c.show.new.out)
        (vec_items c.show_work.new.out)
        (vec_items c.push.new.self)
        (codes "1 ")
        (text_of d)
        (work_text c.args.work)
        (10 ∷ [])
        c.in_ok-extend_from_slice.ensures.items
        (c.in_ok-show.ensures.is.is d f e)
        c.in_ok-show_work.ensures.is
        c.in_ok-push.ensures.items;
  };
  grows = search rules;
}
