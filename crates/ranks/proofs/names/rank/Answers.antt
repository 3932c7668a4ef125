use Rattle.std.proofs.Common.{ℕ, Option, vec_items, sym, ◌∙◌, subst}
use Rattle.ranks.specs.Ranks.{names_of, RankOf}
use Rattle.ranks.proofs.Listings.{rank_of}
use Rattle.ranks.proofs.names.rank.Goals as goal

pub returns : goal.returns
returns c =
    subst (λ (z : Option ℕ). RankOf (names_of c.args.bytes.now c.args.names.now) c.args.name.now z) c.in_ok-i.was
    (rank_of c.args.bytes.now (vec_items c.args.names.now.places) _ c.args.name.now _ _ c.deref.ensures.value c.ok.ensures.value c.look_up.ensures)

pub returns-in_err-i : goal.returns-in_err-i
returns-in_err-i c =
    subst (λ (z : Option ℕ). RankOf (names_of c.args.bytes.now c.args.names.now) c.args.name.now z) (c.in_err-i.was ∙ sym c.from_residual.ensures)
    (rank_of c.args.bytes.now (vec_items c.args.names.now.places) _ c.args.name.now _ _ c.deref.ensures.value c.ok.ensures.value c.look_up.ensures)
