use Rattle.std.proofs.Common.{List, [], ◌∷◌, ◌++◌, ap, ◌∙◌, arith}
use Rattle.ranks.specs.Ranks.{nowhere}
use Rattle.ranks.specs.declared.names.Place.{Place}
use Rattle.ranks.proofs.Requests.{begin_listed, begin_there, begin_alone}
use Rattle.ranks.proofs.gather.begin.Goals as goal

pub returns : goal.returns
returns c =
    let e = c.push_reserved.ensures.items ∙ ap (λ (z : List Place). z ++ (nowhere ∷ [])) c.clear.ensures.items in
    record {
      listed = begin_listed c.args.bytes.now (record { places = c.push_reserved.new.self }) e (let k = c.clear.ensures.capacity in let j = c.push_reserved.ensures.capacity in let h = c.requires in omega arith);
      there = begin_there c.args.bytes.now (record { places = c.push_reserved.new.self }) e;
      alone = begin_alone c.args.bytes.now (record { places = c.push_reserved.new.self }) e;
    }
