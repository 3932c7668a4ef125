use Rattle.std.proofs.Common.{ℕ, Some, None, vec_items, Option, sym, subst, rules}
use Rattle.printing.specs.declared.datum.Whole.{Whole}
use Rattle.printing.specs.declared.datum.Whole.TheVariants.{Record}
use Rattle.printing.specs.Opens.{TextShown, Fronted}
use Rattle.printing.proofs.Nexts.{front_plain, front_missing, front_named}
use Rattle.printing.proofs.datum.show_next.Goals as goal

pub returns-in_default : goal.returns-in_default
returns-in_default c = record {
  is = front_plain c.args.words.now c.args.whole c.args.begun (vec_items c.args.out.now) (vec_items c.show_comma.new.out) c.in_default.not-Record c.in_ok-show_comma.ensures.is;
  grows = search rules;
}

pub returns-in_default-2 : goal.returns-in_default-2
returns-in_default-2 c =
    let words = c.args.words.now in
    let comma = vec_items c.show_comma.new.out in
    let named = vec_items c.show_text_at.new.out in
    let shown : TextShown words c.in-Record.at comma named None = subst (λ (o : Option ℕ). TextShown words c.in-Record.at comma named o) c.in_default-2.is c.in_ok-end.ensures.is in
    record {
      is = subst (λ (w : Whole). Fronted words w c.args.begun (vec_items c.args.out.now) named None) (sym c.in-Record.is) (front_missing words c.in-Record.at c.args.begun (vec_items c.args.out.now) comma named shown);
      grows = search rules;
    }

pub returns : goal.returns
returns c =
    let words = c.args.words.now in
    let comma = vec_items c.show_comma.new.out in
    let named = vec_items c.show_text_at.new.out in
    let end = c.in-Some.end in
    let shown : TextShown words c.in-Record.at comma named (Some end) = subst (λ (o : Option ℕ). TextShown words c.in-Record.at comma named o) c.in-Some.is c.in_ok-end.ensures.is in
    record {
      is = subst (λ (w : Whole). Fronted words w c.args.begun (vec_items c.args.out.now) (vec_items c.push.new.self) (Some (Record end))) (sym c.in-Record.is) (front_named words c.in-Record.at end c.args.begun (vec_items c.args.out.now) comma named (vec_items c.push.new.self) c.in_ok-show_comma.ensures.is shown c.in_ok-push.ensures.items);
      grows = search rules;
    }
