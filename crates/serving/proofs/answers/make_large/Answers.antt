use Rattle.std.proofs.Common.{◌≡◌, ℕ, ◌-◌, List, ◌++◌, take, replicate, vec_items, vec_len, ap, ◌∙◌, arith}
use Rattle.std.proofs.lemmas.List.{take_all}
use Rattle.serving.proofs.answers.make_large.Goals as goal

pub returns-in_ok-resize : goal.returns-in_ok-resize
returns-in_ok-resize c =
    let before = c.args.memory.now in
    let zeros : List ℕ = replicate (c.args.numbers - vec_len before) 0 in
    let items : vec_items c.resize.new.self ≡ take c.args.numbers (vec_items before) ++ zeros = c.in_ok-resize.ensures.items in
    record {
      large = omega (arith, c.in_ok-resize.ensures.len);
      kept = items ∙ ap (λ (v : List ℕ). v ++ zeros) (take_all c.args.numbers (vec_items before) (omega arith));
    }
