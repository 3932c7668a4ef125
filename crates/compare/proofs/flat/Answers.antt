use Rattle.std.proofs.Common.{ap, ap₂, ◌∙◌}
use Rattle.compare.specs.Compare.{stands}
use Rattle.compare.specs.declared.Kind.{Kind}
use Rattle.compare.specs.contracts.KindOrd.TheImpl as kind_ord
use Rattle.compare.proofs.Steps.{way_of_numbers, way_of_truths}
use Rattle.compare.proofs.Told.{of_kinds, of_numbers, of_truths, of_texts, retold}
use Rattle.compare.proofs.flat.Goals.{in_default-via-in-Number+in_default, in_default-via-in-Truth+in_default, in_default-via-in-Text+in_default, in_default-via-in_default}
use Rattle.compare.proofs.flat.Goals as goal

pub returns-in-Number-Number : goal.returns-in-Number-Number
returns-in-Number-Number c = retold c.args.bytes.now c.cmp.result c.in-Number-Number.is-0 c.in-Number-Number.is-1 (of_numbers c.args.bytes.now _ _ c.cmp.result (ap stands c.cmp.ensures ∙ way_of_numbers _ _))

pub returns-in-Truth-Truth : goal.returns-in-Truth-Truth
returns-in-Truth-Truth c = retold c.args.bytes.now c.cmp-in-Truth-Truth.result c.in-Truth-Truth.is-0 c.in-Truth-Truth.is-1 (of_truths c.args.bytes.now _ _ c.cmp-in-Truth-Truth.result (ap stands c.cmp-in-Truth-Truth.ensures ∙ way_of_truths _ _))

pub returns-in-Text-Text : goal.returns-in-Text-Text
returns-in-Text-Text c = retold c.args.bytes.now c.name_way.result c.in-Text-Text.is-0 c.in-Text-Text.is-1 (of_texts c.args.bytes.now _ _ c.name_way.result c.name_way.ensures)

pub returns-in_default : goal.returns-in_default
returns-in_default c =
    of_kinds c.args.bytes.now c.args.a c.args.b c.cmp-in_default.result
    (elim c.in_default.branch [
      | in_default-via-in-Number+in_default w ↦ record { numbers = λ x y p q. w.in_default.not-Number-1 y q; truths = λ x y p q. cc; texts = λ x y p q. cc }
      | in_default-via-in-Truth+in_default w ↦ record { numbers = λ x y p q. cc; truths = λ x y p q. w.in_default.not-Truth-1 y q; texts = λ x y p q. cc }
      | in_default-via-in-Text+in_default w ↦ record { numbers = λ x y p q. cc; truths = λ x y p q. cc; texts = λ x y p q. w.in_default.not-Text-1 y q }
      | in_default-via-in_default w ↦ record { numbers = λ x y p q. w.in_default.not-Number-0 x p; truths = λ x y p q. w.in_default.not-Truth-0 x p; texts = λ x y p q. w.in_default.not-Text-0 x p }
    ])
    (c.cmp-in_default.ensures ∙ ap₂ (λ (j k : Kind). (kind_ord.ghosts).cmp j k) c.from.ensures c.from-in_default.ensures)
