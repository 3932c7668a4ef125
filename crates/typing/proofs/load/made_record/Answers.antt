use Rattle.std.proofs.Common.{None, inl, inr, subst, sym, arith}
use Rattle.format.specs.declared.node.TypeNode.TheVariants as tn
use Rattle.types.specs.Operators.{NamesOf}
use Rattle.types.specs.Outcomes.{size}
use Rattle.types.proofs.Meanings.{ranked_as}
use Rattle.typing.proofs.TypeMade.{ranked, names_take, rec_short, rec_unknown, rec_few, rec_made, rec_as}
use Rattle.typing.proofs.Results.{front}
use Rattle.typing.proofs.load.made_record.Goals as goal

pub returns-then-bytes-at-lt5-clause-says : goal.returns-then-bytes-at-lt5-clause-says
returns-then-bytes-at-lt5-clause-says c = rec_short c.args.bytes.now c.args.names.now c.args.table.now c.args.table.now c.args.numbers.now c.args.at (tn.Record c.args.k) None c.args.k c.requires.within c.if-bytes-at-lt5.true

pub returns-in_err-ranks_of-clause-says : goal.returns-in_err-ranks_of-clause-says
returns-in_err-ranks_of-clause-says c = rw c.from_residual.ensures (rec_unknown c.args.bytes.now c.args.names.now c.args.table.now c.args.table.now c.args.numbers.now c.args.at (tn.Record c.args.k) None c.args.k c.requires.within _ c.in_err-ranks_of.ensures.read)

pub returns-in_err-parts-clause-says : goal.returns-in_err-parts-clause-says
returns-in_err-parts-clause-says c =
    rw c.from_residual-in_err-parts.ensures
    (rec_few c.args.bytes.now c.args.names.now c.args.table.now c.args.table.now c.args.numbers.now c.args.at (tn.Record c.args.k) None c.args.k c.requires.within _ c.in_ok-ranks_of.ensures.read (elim c.in_err-parts.ensures.lookup.0 [ inl l ↦ absurd (omega arith) | inr l ↦ l ]))

pub record-requires-clause-within : goal.record-requires-clause-within
record-requires-clause-within c = subst (λ z. NamesOf (size c.args.table.now) z) (sym (front _ _ _ c.in_ok-parts.ensures.lookup.0.2)) (names_take _ _ c.args.numbers.now c.requires.numbers)

pub returns-clause-says : goal.returns-clause-says
returns-clause-says c =
    rec_made c.args.bytes.now c.args.names.now c.args.table.now _ c.args.numbers.now c.args.at (tn.Record c.args.k) c.record.result c.args.k c.requires.within _
    c.in_ok-ranks_of.ensures.read (ranked _ c.requires.listed.ordered)
    (rec_as _ c.args.table.now _ c.record.result c.args.numbers.now _ _ _ c.args.k c.as_slice.ensures.value (front _ _ _ c.in_ok-parts.ensures.lookup.0.2) (c.record.ensures.says _ (ranked_as c.requires.same (ranked _ c.requires.listed.ordered))))
