use Rattle.query.specs.Size.{sizes}
use Rattle.format.specs.Coding.{name}
use Rattle.parts.proofs.Taken.{taken}
use Rattle.parts.proofs.Walk.{counted_many}
use Rattle.parts.proofs.Naming.{name_size, names_counted, listed_over, listed_done}
use Rattle.parts.proofs.names.names_parts.Goals as goal

pub returns-in_err-names : goal.returns-in_err-names
returns-in_err-names c =
    rw c.from_residual-in_err-names.ensures
    (listed_over name sizes c.args.limit c.args.bytes.now c.in_ok-count.count (taken _ _ _ _ c.in_ok-count.ensures.value c.read_u32.ensures) (names_counted _ _ _ _ (counted_many name name_size _ _ _ _ c.in_err-names.ensures)))

pub returns : goal.returns
returns c =
    listed_done name sizes c.args.limit c.args.bytes.now c.in_ok-count.count (taken _ _ _ _ c.in_ok-count.ensures.value c.read_u32.ensures) c.in_ok-names.names (names_counted _ _ _ _ (counted_many name name_size _ _ _ _ c.in_ok-names.ensures))
