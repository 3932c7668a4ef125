use Rattle.std.proofs.Common.{refl}
use Rattle.query.specs.Data.{less_text}
use Rattle.std.proofs.lemmas.Cmp.{same_from_slice_cmp_tested}
use Rattle.parts.proofs.Before.{less_more}
use Rattle.parts.proofs.order.name_before.Goals as goal

pub returns : goal.returns
unfolding less_text
returns c = same_from_slice_cmp_tested _ _ less_text refl (λ _ _. refl) (λ _ _. refl) less_more c.args.a.now c.args.b.now c.lt.result c.lt.ensures
