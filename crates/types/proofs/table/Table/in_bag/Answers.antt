use Rattle.std.proofs.Common.{refl}
use Rattle.query.specs.Types.{type1}
use Rattle.types.specs.Shapes.{Below, meaning}
use Rattle.types.proofs.Meanings.{meant_as}
use Rattle.types.proofs.table.Table.in_bag.Goals as goal

pub make-requires : goal.make-requires
unfolding Below
make-requires c = record { plain = tt; parts = c.requires.within }

pub returns : goal.returns
unfolding meaning type1
returns c = record { grew = c.make.ensures.grew; says = λ ns rk. meant_as (c.make.ensures.says ns rk) _ refl }
