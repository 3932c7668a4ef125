use Rattle.std.proofs.Common.{◌≡◌, ℕ, List, length, drop, vec_items, sym, ◌∙◌, subst, take_at, arith, rules}
use Rattle.std.specs.List.{slice_range}
use Rattle.std.proofs.lemmas.List.{take_rest}
use Rattle.guide.specs.Guide.{Guided}
use Rattle.asking_desk.proofs.TypeTold.{guided, unguided, typed_so}
use Rattle.asking_desk.proofs.memory.Desk.typed.Goals as goal

pub returns-in_err-_length-clause-told : goal.returns-in_err-_length-clause-told
returns-in_err-_length-clause-told c =
    let written = take_at c.mark.new.guide (drop (length c.mark.new.guide) (vec_items c.args.self.now.guide)) c.args.self.now.guide.len (c.mark.auto.guide ∙ c.deref_mut.ensures.len) in
    let part = c.in_ok-query.ensures.lookup in
    let query : c.in_ok-query.query.now ≡ drop c.args.ask.query_at c.args.bytes.now = (let is : c.in_ok-query.query.now ≡ slice_range c.args.bytes.now c.args.ask.query_at (length c.args.bytes.now) = search rules in is) ∙ take_rest c.args.bytes.now c.args.ask.query_at in
    rw written
    (record {
      tells = λ ss q s at small sound.
          absurd (unguided c.args.bytes.now c.deref_mut.result.now c.mark.new.guide c.args.ask q at (omega arith) (omega (arith, c.deref_mut.ensures.len)) _ query c.in_err-_length.ensures);
    })

pub returns-clause-told : goal.returns-clause-told
returns-clause-told c =
    let written = take_at c.mark.new.guide (drop (length c.mark.new.guide) (vec_items c.args.self.now.guide)) c.args.self.now.guide.len (c.mark.auto.guide ∙ c.deref_mut.ensures.len) in
    let part = c.in_ok-query.ensures.lookup in
    let query : c.in_ok-query.query.now ≡ drop c.args.ask.query_at c.args.bytes.now = (let is : c.in_ok-query.query.now ≡ slice_range c.args.bytes.now c.args.ask.query_at (length c.args.bytes.now) = search rules in is) ∙ take_rest c.args.bytes.now c.args.ask.query_at in
    let same : c.deref.result.now ≡ c.mark.new.guide = c.deref.ensures.value ∙ written in
    rw written
    (record {
      tells = λ ss q s at small sound.
          let d = guided c.args.bytes.now c.deref_mut.result.now c.mark.new.guide c.args.ask q at (omega arith) (omega (arith, c.deref_mut.ensures.len)) _ c.in_ok-_length._length query c.in_ok-_length.ensures in
          typed_so ss q c.mark.new.guide _ _ c.query_type.result d (c.query_type.ensures.told.tells ss q s at (subst (λ (g : List ℕ). Guided g 0 q) (sym same) d) small sound);
    })
