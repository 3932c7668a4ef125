use Rattle.std.proofs.Common.{ℕ, List, sym, refl, ◌∙◌, subst}
use Rattle.types.specs.Operators.{NamesOf}
use Rattle.types.specs.Outcomes.{size}
use Rattle.typed.proofs.Asking.{schema_unsound, query_told, some_there}
use Rattle.typed.proofs.whole.type_in.Goals as goal

pub load-requires : goal.load-requires
load-requires c = record { listed = c.requires.gathered.listed; within = c.if-schema_at-bytes.false; same = c.requires.names; fit = c.requires.fit }

pub returns-in_err-load : goal.returns-in_err-load
returns-in_err-load c =
    let d = c.in_err-load.ensures in
    record {
      names = refl;
      fit = d.fit;
      schema = c.requires.schema;
      told = λ ss q s k g l o. absurd (schema_unsound c.args.bytes.now c.args.guide.now _ c.args.table.now c.load.new.table _ c.args.schema_at c.args.types c.args.query_at c.requires.gathered c.requires.entries c.requires.fields c.requires.names d ss q s k l o);
    }

pub type_of-requires : goal.type_of-requires
type_of-requires c =
    let d = c.in_ok-load.ensures in
    let n = c.requires.names in
    let e = c.as_slice.ensures.value ∙ c.copy.ensures.is ∙ c.numbers.ensures.is in
    let h = some_there c.args.bytes.now c.args.guide.now _ c.args.table.now c.load.new.table c.load.new.work c.args.schema_at c.args.types c.args.query_at c.requires.gathered c.requires.entries c.requires.fields n d.grew in
    record {
      ready = record {
        listed = c.requires.gathered.listed;
        tidy = d.grew.tidy;
        same = d.grew.names ∙ n;
        fit = record { heads = d.fit.heads; ranks = d.fit.ranks };
        schema = subst (λ (z : List ℕ). NamesOf (size c.load.new.table) z) (sym e) d.numbers;
      };
      along = h;
      looked = h;
    }

pub returns : goal.returns
returns c =
    let d = c.in_ok-load.ensures in
    let w = c.type_of.ensures in
    let e = c.as_slice.ensures.value ∙ c.copy.ensures.is ∙ c.numbers.ensures.is in
    record {
      names = refl;
      fit = w.fit;
      schema = c.copy.ensures.cap;
      told = λ ss q s k g l o. query_told c.args.bytes.now c.args.guide.now _ c.args.table.now c.load.new.table c.load.new.work c.args.schema_at c.args.types c.args.query_at c.requires.gathered c.requires.entries c.requires.fields c.requires.names
          c.as_slice.result.now _ _ d e w.told ss q s k g l;
    }
