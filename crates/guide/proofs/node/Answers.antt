use Rattle.std.proofs.Common.{length, refl, sym, ap, ◌∙◌, arith}
use Rattle.query.specs.Query.{dot, as_field, without, project}
use Rattle.format.specs.Heads.{it_q, env_q, table_q, build_query}
use Rattle.format.specs.declared.node.QueryNode.TheVariants.{Table, It, Env, Just, One, OnLeft, OnRight}
use Rattle.format.specs.declared.node.Unary.TheVariants.{Dot, AsField, Without, Only}
use Rattle.guide.specs.Guide.{first_part}
use Rattle.guide.proofs.Visiting.{unvisited, visited, unvisited_empty, first_by, read_some, read_none, number_counts, name_counts, names_counts, uncounted, counted_as, just_told, left_told, right_told, counted_told, no_first_name, no_second_name, both_names, plain_visited, no_tag}
use Rattle.guide.proofs.node.Goals as goal

pub returns-then-query-eq0 : goal.returns-then-query-eq0
returns-then-query-eq0 c = unvisited_empty c.args.query.now c.args.last c.if-query-eq0.true

pub returns-in-1 : goal.returns-in-1
unfolding first_part build_query
returns-in-1 c = visited c.args.query.now c.args.last 1 c.in-1.is It 0 (λ q rest l s. (l.is, sym (first_by q it_q l.is)))

pub returns-in-2 : goal.returns-in-2
unfolding first_part build_query
returns-in-2 c = visited c.args.query.now c.args.last 2 c.in-2.is Env 0 (λ q rest l s. (l.is, sym (first_by q env_q l.is)))

pub returns-in-3 : goal.returns-in-3
returns-in-3 c = visited c.args.query.now c.args.last 3 c.in-3.is (Just c.saturating_sub.result) 1 (λ q rest l s. just_told c.args.query.now rest c.args.last c.saturating_sub.result q c.saturating_sub.ensures l s)

pub returns-in-27 : goal.returns-in-27
returns-in-27 c = visited c.args.query.now c.args.last 27 c.in-27.is (OnLeft c.saturating_sub-in-27.result) c.args.last (λ q rest l s. left_told c.args.query.now rest c.args.last c.saturating_sub-in-27.result q c.saturating_sub-in-27.ensures l s)

pub returns-in-28 : goal.returns-in-28
returns-in-28 c = visited c.args.query.now c.args.last 28 c.in-28.is (OnRight c.saturating_sub-in-28.result) c.args.last (λ q rest l s. right_told c.args.query.now rest c.args.last c.saturating_sub-in-28.result q c.saturating_sub-in-28.ensures l s)

pub returns-in_err-ok-in-0 : goal.returns-in_err-ok-in-0
returns-in_err-ok-in-0 c = rw c.from_residual.ensures (uncounted c.args.query.now c.args.last 0 c.in-0.is (λ n. n) number_counts c.read_u32.result c.read_u32.ensures c.ok.result c.ok.ensures.value c.in_err-ok-in-0.was)

pub returns-in_ok-ok-in-0 : goal.returns-in_ok-ok-in-0
unfolding first_part build_query
returns-in_ok-ok-in-0 c =
    visited c.args.query.now c.args.last 0 c.in-0.is (Table c.in_ok-ok-in-0.field-0) 0
    (λ q rest l s. (l.is ∙ ap table_q (counted_as c.args.query.now c.args.last 0 c.in-0.is (λ n. n) number_counts c.read_u32.result c.read_u32.ensures c.ok.result c.ok.ensures.value c.in_ok-ok-in-0.field-0 c.in_ok-ok-in-0.was q rest l), sym (first_by q (table_q l.load) l.is)))

pub returns-in_err-ok-in-18 : goal.returns-in_err-ok-in-18
returns-in_err-ok-in-18 c = rw c.from_residual-in_err-ok-in-18.ensures (uncounted c.args.query.now c.args.last 18 c.in-18.is length name_counts c.read_u32-in-18.result c.read_u32-in-18.ensures c.ok-in-18.result c.ok-in-18.ensures.value c.in_err-ok-in-18.was)

pub returns-in_ok-ok-in-18 : goal.returns-in_ok-ok-in-18
returns-in_ok-ok-in-18 c =
    visited c.args.query.now c.args.last 18 c.in-18.is (One (Dot c.in_ok-ok-in-18.field-0)) c.args.last
    (λ q rest l s. counted_told q c.args.last (dot l.load) (Dot c.in_ok-ok-in-18.field-0) l.is (l.load, refl, counted_as c.args.query.now c.args.last 18 c.in-18.is length name_counts c.read_u32-in-18.result c.read_u32-in-18.ensures c.ok-in-18.result c.ok-in-18.ensures.value c.in_ok-ok-in-18.field-0 c.in_ok-ok-in-18.was q rest l) s)

pub returns-in_err-ok-in-19 : goal.returns-in_err-ok-in-19
returns-in_err-ok-in-19 c = rw c.from_residual-in_err-ok-in-19.ensures (uncounted c.args.query.now c.args.last 19 c.in-19.is length name_counts c.read_u32-in-19.result c.read_u32-in-19.ensures c.ok-in-19.result c.ok-in-19.ensures.value c.in_err-ok-in-19.was)

pub returns-in_ok-ok-in-19 : goal.returns-in_ok-ok-in-19
returns-in_ok-ok-in-19 c =
    visited c.args.query.now c.args.last 19 c.in-19.is (One (AsField c.in_ok-ok-in-19.field-0)) c.args.last
    (λ q rest l s. counted_told q c.args.last (as_field l.load) (AsField c.in_ok-ok-in-19.field-0) l.is (l.load, refl, counted_as c.args.query.now c.args.last 19 c.in-19.is length name_counts c.read_u32-in-19.result c.read_u32-in-19.ensures c.ok-in-19.result c.ok-in-19.ensures.value c.in_ok-ok-in-19.field-0 c.in_ok-ok-in-19.was q rest l) s)

pub returns-in_err-ok-in-20 : goal.returns-in_err-ok-in-20
returns-in_err-ok-in-20 c = rw c.from_residual-in_err-ok-in-20.ensures (uncounted c.args.query.now c.args.last 20 c.in-20.is length name_counts c.read_u32-in-20.result c.read_u32-in-20.ensures c.ok-in-20.result c.ok-in-20.ensures.value c.in_err-ok-in-20.was)

pub returns-in_ok-ok-in-20 : goal.returns-in_ok-ok-in-20
returns-in_ok-ok-in-20 c =
    visited c.args.query.now c.args.last 20 c.in-20.is (One (Without c.in_ok-ok-in-20.field-0)) c.args.last
    (λ q rest l s. counted_told q c.args.last (without l.load) (Without c.in_ok-ok-in-20.field-0) l.is (l.load, refl, counted_as c.args.query.now c.args.last 20 c.in-20.is length name_counts c.read_u32-in-20.result c.read_u32-in-20.ensures c.ok-in-20.result c.ok-in-20.ensures.value c.in_ok-ok-in-20.field-0 c.in_ok-ok-in-20.was q rest l) s)

pub returns-in_err-ok-in-21 : goal.returns-in_err-ok-in-21
returns-in_err-ok-in-21 c = rw c.from_residual-in_err-ok-in-21.ensures (uncounted c.args.query.now c.args.last 21 c.in-21.is length names_counts c.read_u32-in-21.result c.read_u32-in-21.ensures c.ok-in-21.result c.ok-in-21.ensures.value c.in_err-ok-in-21.was)

pub returns-in_ok-ok-in-21 : goal.returns-in_ok-ok-in-21
returns-in_ok-ok-in-21 c =
    visited c.args.query.now c.args.last 21 c.in-21.is (One (Only c.in_ok-ok-in-21.field-0)) c.args.last
    (λ q rest l s. counted_told q c.args.last (project l.load) (Only c.in_ok-ok-in-21.field-0) l.is (l.load, refl, counted_as c.args.query.now c.args.last 21 c.in-21.is length names_counts c.read_u32-in-21.result c.read_u32-in-21.ensures c.ok-in-21.result c.ok-in-21.ensures.value c.in_ok-ok-in-21.field-0 c.in_ok-ok-in-21.was q rest l) s)

pub returns-in_err-m-in-25 : goal.returns-in_err-m-in-25
returns-in_err-m-in-25 c =
    let s = read_none _ _ c.read_name.result c.ok-in-25.result c.read_name.ensures c.ok-in-25.ensures.value c.in_err-m-in-25.was in
    rw c.from_residual-in_err-m-in-25.ensures (no_first_name c.args.query.now c.args.last c.in-25.is s.0 s.1)

pub returns-in_err-n-in-25 : goal.returns-in_err-n-in-25
returns-in_err-n-in-25 c =
    let s = read_none _ _ c.read_u32-in-25.result c.ok-in-25-2.result c.read_u32-in-25.ensures c.ok-in-25-2.ensures.value c.in_err-n-in-25.was in
    rw c.from_residual-in_err-n-in-25.ensures
    (no_second_name c.args.query.now c.args.last c.in-25.is c.in_ok-m-in-25.m (read_some _ _ c.read_name.result c.ok-in-25.result c.in_ok-m-in-25.m c.read_name.ensures c.ok-in-25.ensures.value c.in_ok-m-in-25.was) s.0 s.1)

pub returns-in_ok-n-in-25 : goal.returns-in_ok-n-in-25
returns-in_ok-n-in-25 c =
    both_names c.args.query.now c.args.last c.in-25.is c.in_ok-m-in-25.m (read_some _ _ c.read_name.result c.ok-in-25.result c.in_ok-m-in-25.m c.read_name.ensures c.ok-in-25.ensures.value c.in_ok-m-in-25.was) c.in_ok-n-in-25.n
    (read_some _ _ c.read_u32-in-25.result c.ok-in-25-2.result c.in_ok-n-in-25.n c.read_u32-in-25.ensures c.ok-in-25-2.ensures.value c.in_ok-n-in-25.was)

pub returns-in_ok-plain_node-in_default : goal.returns-in_ok-plain_node-in_default
returns-in_ok-plain_node-in_default c = plain_visited c.args.query.now c.args.last c.in_ok-plain_node-in_default.field-0 (omega arith) (λ e. omega arith) (λ e. omega arith) c.in_ok-plain_node-in_default.ensures

pub returns-in_err-plain_node-in_default : goal.returns-in_err-plain_node-in_default
returns-in_err-plain_node-in_default c =
    rw c.from_residual-in_err-plain_node-in_default.ensures
    (unvisited c.args.query.now c.args.last _ refl
    (λ q rest l.
    no_tag c.args.query.now q rest
    (c.in_err-plain_node-in_default.ensures (λ e. omega arith) (λ e. omega arith) (λ e. omega arith) (λ e. omega arith) (λ e. omega arith) (λ e. omega arith) (λ e. omega arith) (λ e. omega arith) (λ e. omega arith)) l))
