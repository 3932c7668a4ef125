use Rattle.std.proofs.Common.{◌≡◌, sym, subst, arith}
use Rattle.format.specs.Nodes.{Requested}
use Rattle.format.specs.declared.node.Request.{Request}
use Rattle.asking_desk.proofs.Requests.{to_ask_is}
use Rattle.asking_desk.proofs.Turning.{garbled_refused, plan_refused, too_large, out_of_order, no_type, other_tables}
use Rattle.asking_desk.proofs.memory.Desk.checked.Goals as goal

pub returns-in_default-clause-checked : goal.returns-in_default-clause-checked
returns-in_default-clause-checked c =
    let place = rw c.in_default.is at c.err.ensures.value in
    let is : c.unwrap_or.result ≡ c.in_default.field-0 = rw place at c.unwrap_or.ensures in
    λ lent. rw is (garbled_refused c.args.bytes.now lent c.in_default.field-0 c.in_default.ensures)

pub returns-in_default-request-clause-checked : goal.returns-in_default-request-clause-checked
returns-in_default-request-clause-checked c = λ lent. plan_refused c.args.bytes.now lent c.in_default-request.field-0 (subst (λ (n : Request). Requested c.args.bytes.now n) c.in_default-request.is c.in-Ok.ensures)

pub returns-in_default-within_limit-clause-checked : goal.returns-in_default-within_limit-clause-checked
returns-in_default-within_limit-clause-checked c =
    let o = to_ask_is c.args.bytes.now c.in-ToAsk.ask (subst (λ (n : Request). Requested c.args.bytes.now n) c.in-ToAsk.is c.in-Ok.ensures) in
    λ lent. too_large c.args.bytes.now c.in-ToAsk.ask o lent (c.in_default-within_limit.ensures.tells o.schema o.query o.schema_at o.query_at)

pub returns-in_default-in_order-clause-checked : goal.returns-in_default-in_order-clause-checked
returns-in_default-in_order-clause-checked c =
    let o = to_ask_is c.args.bytes.now c.in-ToAsk.ask (subst (λ (n : Request). Requested c.args.bytes.now n) c.in-ToAsk.is c.in-Ok.ensures) in
    let l = c.in-Some.ensures.tells o.schema o.query o.schema_at o.query_at in
    λ lent. out_of_order c.args.bytes.now c.in-ToAsk.ask o lent l.1 (sym (c.in_default-in_order.ensures.tells o.schema o.schema_at (omega (arith, l.1))))

pub returns-in_default-typed-clause-checked : goal.returns-in_default-typed-clause-checked
returns-in_default-typed-clause-checked c =
    let o = to_ask_is c.args.bytes.now c.in-ToAsk.ask (subst (λ (n : Request). Requested c.args.bytes.now n) c.in-ToAsk.is c.in-Ok.ensures) in
    let l = c.in-Some.ensures.tells o.schema o.query o.schema_at o.query_at in
    let s = sym (c.in-true.ensures.tells o.schema o.schema_at (omega (arith, l.1))) in
    λ lent. no_type c.args.bytes.now c.in-ToAsk.ask o lent l.1 s (c.in_default-typed.ensures.told.tells o.schema o.query o.schema_at o.query_at l.1 s)

pub returns-in_default-of_schema-clause-checked : goal.returns-in_default-of_schema-clause-checked
returns-in_default-of_schema-clause-checked c =
    let o = to_ask_is c.args.bytes.now c.in-ToAsk.ask (subst (λ (n : Request). Requested c.args.bytes.now n) c.in-ToAsk.is c.in-Ok.ensures) in
    let l = c.in-Some.ensures.tells o.schema o.query o.schema_at o.query_at in
    let s = sym (c.in-true.ensures.tells o.schema o.schema_at (omega (arith, l.1))) in
    let t = c.in-Some-typed.ensures.told.tells o.schema o.query o.schema_at o.query_at l.1 s in
    λ lent. other_tables c.args.bytes.now c.in-ToAsk.ask o lent l.1 s t.0 t.1 (sym (c.in_default-of_schema.ensures.tells o.schema o.tables o.schema_at o.tables_at (omega (arith, l.1))))

pub returns-clause-checked : goal.returns-clause-checked
returns-clause-checked c =
    let o = to_ask_is c.args.bytes.now c.in-ToAsk.ask (subst (λ (n : Request). Requested c.args.bytes.now n) c.in-ToAsk.is c.in-Ok.ensures) in
    let l = c.in-Some.ensures.tells o.schema o.query o.schema_at o.query_at in
    let s = sym (c.in-true.ensures.tells o.schema o.schema_at (omega (arith, l.1))) in
    let t = c.in-Some-typed.ensures.told.tells o.schema o.query o.schema_at o.query_at l.1 s in
    record {
      passed = record {
        schema = o.schema;
        tables = o.tables;
        query = o.query;
        type = t.0;
        schema_at = o.schema_at;
        tables_at = o.tables_at;
        query_at = o.query_at;
        small = l.1;
        sound = s;
        typed = t.1;
        are = sym (c.in-true-of_schema.ensures.tells o.schema o.tables o.schema_at o.tables_at (omega (arith, l.1)));
        guided = t.2;
        guide_long = omega arith;
      };
      fits = o.fits;
      is = o.is;
    }
