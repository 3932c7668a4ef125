use Rattle.std.proofs.Common.{◌≡◌, ℕ, [], ◌∷◌, ◌++◌, vec_items, decimal, Option, sym, subst, rules}
use Rattle.printing.specs.Lines.{work_text}
use Rattle.printing.proofs.Pieces.{before}
use Rattle.printing.proofs.line.show_work.Goals as goal

pub returns : goal.returns
returns c = record {
  is =
      subst (λ (w : Option ℕ). vec_items c.show_number.new.out ≡ vec_items c.args.out.now ++ work_text w) (sym c.in-Some.is)
      (before (vec_items c.args.out.now) (9 ∷ []) (decimal c.in-Some.looked) c.in_ok-push.ensures.items c.in_ok-show_number.ensures.is);
  grows = search rules;
}
