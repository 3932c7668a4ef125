use Rattle.std.proofs.Common.{arith}
use Rattle.types.proofs.Meanings.{ranked_as, meant_more}
use Rattle.typing.proofs.TypeMade.{ranked, names_as}
use Rattle.typing.proofs.UnaryTold.{dot_none, dot_some, as_field_none, as_field_some, without_none, without_some, only_short, only_unknown, only_some, plain, plain_told}
use Rattle.typing.proofs.parts.unary.Goals as goal

pub returns-in_err-k-in-Dot-clause-told : goal.returns-in_err-k-in-Dot-clause-told
returns-in_err-k-in-Dot-clause-told c = rw c.from_residual.ensures (dot_none c.args.bytes.now c.args.names.now c.args.table.now c.args.at c.in-Dot.n c.args.x c.args.o c.requires.place c.in-Dot.is c.in_err-k-in-Dot.ensures)

pub returns-in_ok-k-in-Dot-clause-told : goal.returns-in_ok-k-in-Dot-clause-told
returns-in_ok-k-in-Dot-clause-told c = dot_some c.args.bytes.now c.args.names.now c.args.table.now c.args.at c.in-Dot.n c.args.x c.args.o c.requires.place c.in-Dot.is _ c.in_ok-k-in-Dot.k _ c.in_ok-k-in-Dot.ensures (meant_more (c.dot.ensures.says _ (ranked_as c.requires.same (ranked _ c.requires.listed.ordered))) 1 c.args.table.now.names (omega arith) (omega arith))

pub returns-in_err-k-in-AsField-clause-told : goal.returns-in_err-k-in-AsField-clause-told
returns-in_err-k-in-AsField-clause-told c = rw c.from_residual-in_err-k-in-AsField.ensures (as_field_none c.args.bytes.now c.args.names.now c.args.table.now c.args.at c.in-AsField.n c.args.x c.args.o c.requires.place c.in-AsField.is c.in_err-k-in-AsField.ensures)

pub returns-in_ok-k-in-AsField-clause-told : goal.returns-in_ok-k-in-AsField-clause-told
returns-in_ok-k-in-AsField-clause-told c = as_field_some c.args.bytes.now c.args.names.now c.args.table.now c.args.at c.in-AsField.n c.args.x c.args.o c.requires.place c.in-AsField.is _ c.in_ok-k-in-AsField.k _ c.in_ok-k-in-AsField.ensures (c.as_field.ensures.says _ (ranked_as c.requires.same (ranked _ c.requires.listed.ordered)))

pub returns-in_err-k-in-Without-clause-told : goal.returns-in_err-k-in-Without-clause-told
returns-in_err-k-in-Without-clause-told c = rw c.from_residual-in_err-k-in-Without.ensures (without_none c.args.bytes.now c.args.names.now c.args.table.now c.args.at c.in-Without.n c.args.x c.args.o c.requires.place c.in-Without.is c.in_err-k-in-Without.ensures)

pub returns-in_ok-k-in-Without-clause-told : goal.returns-in_ok-k-in-Without-clause-told
returns-in_ok-k-in-Without-clause-told c = without_some c.args.bytes.now c.args.names.now c.args.table.now c.args.at c.in-Without.n c.args.x c.args.o c.requires.place c.in-Without.is _ c.in_ok-k-in-Without.k _ c.in_ok-k-in-Without.ensures (c.without.ensures.says _ (ranked_as c.requires.same (ranked _ c.requires.listed.ordered)))

pub returns-then-bytes-at-lt5-clause-told : goal.returns-then-bytes-at-lt5-clause-told
returns-then-bytes-at-lt5-clause-told c = only_short c.args.bytes.now c.args.names.now c.args.table.now c.args.at c.in-Only.n c.args.x c.args.o c.requires.place c.in-Only.is c.if-bytes-at-lt5.true

pub returns-in_err-ranks_of-in-Only-clause-told : goal.returns-in_err-ranks_of-in-Only-clause-told
returns-in_err-ranks_of-in-Only-clause-told c = rw c.from_residual-in_err-ranks_of-in-Only.ensures (only_unknown c.args.bytes.now c.args.names.now c.args.table.now c.args.at c.in-Only.n c.args.x c.args.o c.requires.place c.in-Only.is _ c.in_err-ranks_of-in-Only.ensures.read)

pub returns-in_ok-ranks_of-in-Only-clause-told : goal.returns-in_ok-ranks_of-in-Only-clause-told
returns-in_ok-ranks_of-in-Only-clause-told c =
    let g = c.in_ok-ranks_of-in-Only.ensures.read in
    only_some c.args.bytes.now c.args.names.now c.args.table.now c.args.at c.in-Only.n c.args.x c.args.o c.requires.place c.in-Only.is _ _ _ _ c.as_slice.ensures.value g (c.only.ensures.says _ (ranked_as c.requires.same (ranked _ c.requires.listed.ordered)) (names_as _ _ _ _ c.requires.same c.as_slice.ensures.value g.below))

pub returns-in_default : goal.returns-in_default
returns-in_default c =
    let p = plain c.args.o c.in_default.not-Dot c.in_default.not-AsField c.in_default.not-Without c.in_default.not-Only in
    record { grew = c.one.ensures.grew; cap = c.requires.cap; told = plain_told c.args.bytes.now c.args.names.now c.args.table.now c.args.at 0 c.args.x c.args.o c.requires.place p _ _ (c.one.ensures.says p _ (ranked_as c.requires.same (ranked _ c.requires.listed.ordered))) }
