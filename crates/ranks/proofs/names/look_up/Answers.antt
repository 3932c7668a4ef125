use Rattle.std.proofs.Common.{rules}
use Rattle.std.specs.Ordering.{nat_cmp}
use Rattle.std.specs.Cmp.Lexicographic.{slice_cmp}
use Rattle.std.proofs.lemmas.Fn.{always_returns_same}
use Rattle.ranks.specs.Ranks.{name_at}
use Rattle.ranks.proofs.Listings.{searched}
use Rattle.ranks.proofs.names.look_up.Goals as goal

-- the closure compares the name at a place with the one that is looked for
pub returns : goal.returns
returns c =
    let e = c.binary_search_by.ensures in
    searched c.args.bytes.now c.args.places.now c.args.name.now _ c.requires.ordered e.bound
    (e.position (λ p. slice_cmp nat_cmp (name_at c.args.bytes.now p) c.args.name.now) (always_returns_same _ _ _ (λ a r g called. (search rules, search rules))))
