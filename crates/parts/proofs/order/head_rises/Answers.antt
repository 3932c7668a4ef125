use Rattle.parts.proofs.Sounds.{head_names, head_plain}
use Rattle.parts.proofs.order.head_rises.Goals as goal

pub returns-in-Record : goal.returns-in-Record
returns-in-Record c = head_names c.args.bytes.now c.args.node _ _ c.in-Record.is c.names_rise.ensures

pub returns-in_default : goal.returns-in_default
returns-in_default c = head_plain c.args.bytes.now c.args.node c.in_default.not-Record
