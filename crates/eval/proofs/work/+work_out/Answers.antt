use Rattle.std.proofs.Common.{◌≡◌, ◌+◌, ◌*◌, ◌≤◌, Ok, sym, refl, ap, ◌∙◌, subst, length, arith, length-append}
use Rattle.values.specs.Lent.{all}
use Rattle.std.proofs.lemmas.Result.{err_from_is_err_and}
use Rattle.values.proofs.Frame.{kept_refl, kept_trans}
use Rattle.eval.specs.Shaped.{TellsShape}
use Rattle.eval.specs.declared.shape.Shape.TheVariants as sh
use Rattle.eval.proofs.Parts.{from_length}
use Rattle.eval.proofs.Seen.{seen, unseen, in_guide, in_bytes}
use Rattle.eval.proofs.Leaves.{leaf_ready, leaf_comes}
use Rattle.eval.proofs.Singles.{s_within, s_ready, s_tired, s_stops, s_came, s_one, s_comes}
use Rattle.eval.proofs.Pairs.{p_within, p_ready, p_tired, p_first_stops, p_came, p_next, p_second_stops, p_came_next, p_two, p_comes, same_due}
use Rattle.eval.proofs.Overs.{o_within, o_ready, first_stands, o_stops, o_came, then_ready, then_comes, env_ready, env_comes, each_ready, each_comes, keep_ready, keep_comes}
use Rattle.eval.proofs.Defaults.{d_within, d_ready, d_stops, d_came, d_next, d_other, d_same}
use Rattle.eval.proofs.Eithers.{e_tired, e_spot, e_within, e_ready, e_comes}
use Rattle.eval.proofs.Each.{begin, spot, finished, each_too_many, each_no_room, item_ready, item_stops, turned}
use Rattle.eval.proofs.Keep.{keep_begin, keep_finished, keep_tired, kept_ready, keep_stops, keep_no_room, keep_no_truth, left_out, taken_in}
use Rattle.eval.proofs.work.+work_out.Goals as goal
use Rattle.eval.proofs.work.+work_out.Goals.{keep_of-then-yes+in-Some, keep_of-else-yes}

pub work_out-bounds-lent-at : goal.work_out-bounds-lent-at
work_out-bounds-lent-at t c = in_guide c.requires.stands

pub work_out-returns-in_default : goal.work_out-returns-in_default
work_out-returns-in_default t c = record { frozen = refl; same = refl; kept = kept_refl; means = record { means = λ g. absurd (unseen _ _ _ _ refl _ _ c.in_default.ensures g.stands) } }

pub work_out-leaf_of-requires : goal.work_out-leaf_of-requires
work_out-leaf_of-requires t c = leaf_ready c.args.left _ _ (seen _ _ _ _ refl _ _ c.in-Some.ensures c.in-Leaf.ensures) c.requires

pub work_out-returns-in-Leaf : goal.work_out-returns-in-Leaf
work_out-returns-in-Leaf t c = record { frozen = refl; same = refl; kept = kept_refl; means = leaf_comes c.args.left _ _ (seen _ _ _ _ refl _ _ c.in-Some.ensures c.in-Leaf.ensures) _ c.leaf_of.ensures }

pub work_out-returns-then-left-eq0 : goal.work_out-returns-then-left-eq0
work_out-returns-then-left-eq0 t c = record { frozen = refl; same = refl; kept = kept_refl; means = s_tired c.args.left _ _ _ refl (seen _ _ _ _ refl _ _ c.in-Some.ensures c.in-Single.ensures) c.if-left-eq0.true }

pub work_out-slice_bounds-work_out-count : goal.work_out-slice_bounds-work_out-count
work_out-slice_bounds-work_out-count t c = let w = s_within c.args.left _ _ c.in-Single.op refl (seen _ _ _ _ refl _ _ c.in-Some.ensures c.in-Single.ensures) c.requires in w.1

pub work_out-slice_bounds-work_out-start : goal.work_out-slice_bounds-work_out-start
work_out-slice_bounds-work_out-start t c = let w = s_within c.args.left _ _ c.in-Single.op refl (seen _ _ _ _ refl _ _ c.in-Some.ensures c.in-Single.ensures) c.requires in w.1

pub work_out-work_out-requires : goal.work_out-work_out-requires
work_out-work_out-requires t c = let w = s_within c.args.left _ _ c.in-Single.op refl (seen _ _ _ _ refl _ _ c.in-Some.ensures c.in-Single.ensures) c.requires in let f = from_length _ _ w.0 w.1 in (omega (arith, f), s_ready c.args.left _ _ _ refl (seen _ _ _ _ refl _ _ c.in-Some.ensures c.in-Single.ensures) c.requires)

pub work_out-returns-in_err-only-in-Single : goal.work_out-returns-in_err-only-in-Single
work_out-returns-in_err-only-in-Single t c =
    let p = err_from_is_err_and c.from_residual.result c.from_residual.ensures.1 in
    let e = c.in_err-only-in-Single.ensures in
    record { frozen = e.frozen; same = e.same; kept = e.kept; means = rw (p.1, p.2) (s_stops c.args.left _ _ _ refl (seen _ _ _ _ refl _ _ c.in-Some.ensures c.in-Single.ensures) c.if-left-eq0.false _ _ e.means) }

pub work_out-overflow_add-lent : goal.work_out-overflow_add-lent
work_out-overflow_add-lent t c = omega (arith, in_bytes c.requires.stands)

pub work_out-single_of-requires : goal.work_out-single_of-requires
work_out-single_of-requires t c =
    let e = c.in_ok-only-in-Single.ensures in
    let f = s_came c.args.left _ _ _ refl (seen _ _ _ _ refl _ _ c.in-Some.ensures c.in-Single.ensures) c.if-left-eq0.false _ _ e.means c.requires in
    s_one c.args.left _ _ _ refl (seen _ _ _ _ refl _ _ c.in-Some.ensures c.in-Single.ensures) c.if-left-eq0.false _ _ e.means c.requires

pub work_out-returns-in_ok-only-in-Single : goal.work_out-returns-in_ok-only-in-Single
work_out-returns-in_ok-only-in-Single t c =
    let e = c.in_ok-only-in-Single.ensures in
    let s = c.single_of.ensures in
    record {
      frozen = s.frozen ∙ e.frozen;
      same = s.same ∙ e.same;
      kept = kept_trans e.kept s.ones.kept (s_came c.args.left _ _ _ refl (seen _ _ _ _ refl _ _ c.in-Some.ensures c.in-Single.ensures) c.if-left-eq0.false _ _ e.means c.requires).above;
      means = s_comes c.args.left _ _ _ refl (seen _ _ _ _ refl _ _ c.in-Some.ensures c.in-Single.ensures) c.if-left-eq0.false _ _ e.means _ _ s.ones;
    }

pub work_out-returns-then-left-due : goal.work_out-returns-then-left-due
work_out-returns-then-left-due t c = record { frozen = refl; same = refl; kept = kept_refl; means = p_tired c.args.left _ _ _ refl (seen _ _ _ _ refl _ _ c.in-Some.ensures c.in-Pair.ensures) (omega (arith, c.if-left-due.true, c.price-due.ensures)) }

pub work_out-slice_bounds-work_out-count-in-Pair : goal.work_out-slice_bounds-work_out-count-in-Pair
work_out-slice_bounds-work_out-count-in-Pair t c = let w = p_within c.args.left _ _ c.in-Pair.op refl (seen _ _ _ _ refl _ _ c.in-Some.ensures c.in-Pair.ensures) c.requires in w.4

pub work_out-slice_bounds-work_out-start-in-Pair : goal.work_out-slice_bounds-work_out-start-in-Pair
work_out-slice_bounds-work_out-start-in-Pair t c = let w = p_within c.args.left _ _ c.in-Pair.op refl (seen _ _ _ _ refl _ _ c.in-Some.ensures c.in-Pair.ensures) c.requires in w.4

pub work_out-slice_bounds-work_out-count-in-Pair-2 : goal.work_out-slice_bounds-work_out-count-in-Pair-2
work_out-slice_bounds-work_out-count-in-Pair-2 t c = let w = p_within c.args.left _ _ c.in-Pair.op refl (seen _ _ _ _ refl _ _ c.in-Some.ensures c.in-Pair.ensures) c.requires in w.1

pub work_out-slice_bounds-work_out-start-in-Pair-2 : goal.work_out-slice_bounds-work_out-start-in-Pair-2
work_out-slice_bounds-work_out-start-in-Pair-2 t c = let w = p_within c.args.left _ _ c.in-Pair.op refl (seen _ _ _ _ refl _ _ c.in-Some.ensures c.in-Pair.ensures) c.requires in w.1

pub work_out-overflow_add-at-in-Pair : goal.work_out-overflow_add-at-in-Pair
work_out-overflow_add-at-in-Pair t c = omega (arith, in_bytes (p_ready c.args.left _ _ _ refl (seen _ _ _ _ refl _ _ c.in-Some.ensures c.in-Pair.ensures) c.requires).stands)

pub work_out-work_out-requires-in-Pair : goal.work_out-work_out-requires-in-Pair
work_out-work_out-requires-in-Pair t c = let w = p_within c.args.left _ _ _ refl (seen _ _ _ _ refl _ _ c.in-Some.ensures c.in-Pair.ensures) c.requires in let f = from_length _ _ w.3 w.4 in (omega (arith, f), p_ready c.args.left _ _ _ refl (seen _ _ _ _ refl _ _ c.in-Some.ensures c.in-Pair.ensures) c.requires)

pub work_out-returns-in_err-one-in-Pair : goal.work_out-returns-in_err-one-in-Pair
work_out-returns-in_err-one-in-Pair t c =
    let p = err_from_is_err_and c.from_residual-in_err-one-in-Pair.result c.from_residual-in_err-one-in-Pair.ensures.1 in
    let e = c.in_err-one-in-Pair.ensures in
    record { frozen = e.frozen; same = e.same; kept = e.kept; means = rw (p.1, p.2) (p_first_stops c.args.left _ _ _ refl (seen _ _ _ _ refl _ _ c.in-Some.ensures c.in-Pair.ensures) (omega (arith, c.if-left-due.false, c.price-due.ensures)) _ _ (same_due c.args.left _ _ c.price-due.ensures e.means)) }

pub work_out-work_out-requires-in-Pair-2 : goal.work_out-work_out-requires-in-Pair-2
work_out-work_out-requires-in-Pair-2 t c =
    let e = c.in_ok-one-in-Pair.ensures in
    let f = p_came c.args.left _ _ _ refl (seen _ _ _ _ refl _ _ c.in-Some.ensures c.in-Pair.ensures) (omega (arith, c.if-left-due.false, c.price-due.ensures)) _ _ e.kept (same_due c.args.left _ _ c.price-due.ensures e.means) c.requires in
    let w = p_within c.args.left _ _ _ refl (seen _ _ _ _ refl _ _ c.in-Some.ensures c.in-Pair.ensures) c.requires in
    let q = from_length _ _ w.0 w.1 in
    (omega (arith, q), (p_next c.args.left _ _ _ refl (seen _ _ _ _ refl _ _ c.in-Some.ensures c.in-Pair.ensures) (omega (arith, c.if-left-due.false, c.price-due.ensures)) _ _ e.kept (same_due c.args.left _ _ c.price-due.ensures e.means) c.requires))

pub work_out-returns-in_err-other-in-Pair : goal.work_out-returns-in_err-other-in-Pair
work_out-returns-in_err-other-in-Pair t c =
    let p = err_from_is_err_and c.from_residual-in_err-other-in-Pair.result c.from_residual-in_err-other-in-Pair.ensures.1 in
    let e = c.in_ok-one-in-Pair.ensures in
    let f = p_came c.args.left _ _ _ refl (seen _ _ _ _ refl _ _ c.in-Some.ensures c.in-Pair.ensures) (omega (arith, c.if-left-due.false, c.price-due.ensures)) _ _ e.kept (same_due c.args.left _ _ c.price-due.ensures e.means) c.requires in
    let d = c.in_err-other-in-Pair.ensures in
    record { frozen = d.frozen ∙ e.frozen; same = d.same ∙ e.same; kept = kept_trans e.kept d.kept f.above; means = rw (p.1, p.2) (p_second_stops c.args.left _ _ _ refl (seen _ _ _ _ refl _ _ c.in-Some.ensures c.in-Pair.ensures) (omega (arith, c.if-left-due.false, c.price-due.ensures)) _ _ e.kept (same_due c.args.left _ _ c.price-due.ensures e.means) _ _ d.means) }

pub work_out-overflow_add-lent-in-Pair : goal.work_out-overflow_add-lent-in-Pair
work_out-overflow_add-lent-in-Pair t c = omega (arith, in_bytes c.requires.stands)

pub work_out-pair_of-requires : goal.work_out-pair_of-requires
work_out-pair_of-requires t c =
    let e = c.in_ok-one-in-Pair.ensures in
    let f = p_came c.args.left _ _ _ refl (seen _ _ _ _ refl _ _ c.in-Some.ensures c.in-Pair.ensures) (omega (arith, c.if-left-due.false, c.price-due.ensures)) _ _ e.kept (same_due c.args.left _ _ c.price-due.ensures e.means) c.requires in
    let d = c.in_ok-other-in-Pair.ensures in
    let s = p_came_next c.args.left _ _ _ refl (seen _ _ _ _ refl _ _ c.in-Some.ensures c.in-Pair.ensures) (omega (arith, c.if-left-due.false, c.price-due.ensures)) _ _ e.kept (same_due c.args.left _ _ c.price-due.ensures e.means) _ _ d.kept d.means c.requires in
    p_two c.args.left _ _ _ refl (seen _ _ _ _ refl _ _ c.in-Some.ensures c.in-Pair.ensures) (omega (arith, c.if-left-due.false, c.price-due.ensures)) _ _ e.kept (same_due c.args.left _ _ c.price-due.ensures e.means) _ _ d.kept d.means c.requires

pub work_out-returns-in_ok-other-in-Pair : goal.work_out-returns-in_ok-other-in-Pair
work_out-returns-in_ok-other-in-Pair t c =
    let e = c.in_ok-one-in-Pair.ensures in
    let f = p_came c.args.left _ _ _ refl (seen _ _ _ _ refl _ _ c.in-Some.ensures c.in-Pair.ensures) (omega (arith, c.if-left-due.false, c.price-due.ensures)) _ _ e.kept (same_due c.args.left _ _ c.price-due.ensures e.means) c.requires in
    let d = c.in_ok-other-in-Pair.ensures in
    let s = p_came_next c.args.left _ _ _ refl (seen _ _ _ _ refl _ _ c.in-Some.ensures c.in-Pair.ensures) (omega (arith, c.if-left-due.false, c.price-due.ensures)) _ _ e.kept (same_due c.args.left _ _ c.price-due.ensures e.means) _ _ d.kept d.means c.requires in
    record {
      frozen = c.pair_of.ensures.frozen ∙ d.frozen ∙ e.frozen;
      same = c.pair_of.ensures.same ∙ d.same ∙ e.same;
      kept = kept_trans e.kept (kept_trans d.kept c.pair_of.ensures.comes.kept s.above) f.above;
      means = p_comes c.args.left _ _ _ refl (seen _ _ _ _ refl _ _ c.in-Some.ensures c.in-Pair.ensures) (omega (arith, c.if-left-due.false, c.price-due.ensures)) _ _ e.kept (same_due c.args.left _ _ c.price-due.ensures e.means) _ _ d.kept d.means _ _ c.pair_of.ensures.comes;
    }

pub work_out-slice_bounds-work_out-count-in-Over : goal.work_out-slice_bounds-work_out-count-in-Over
work_out-slice_bounds-work_out-count-in-Over t c = let w = o_within c.args.left _ _ c.in-Over.over refl (seen _ _ _ _ refl _ _ c.in-Some.ensures c.in-Over.ensures) c.requires in w.1

pub work_out-slice_bounds-work_out-start-in-Over : goal.work_out-slice_bounds-work_out-start-in-Over
work_out-slice_bounds-work_out-start-in-Over t c = let w = o_within c.args.left _ _ c.in-Over.over refl (seen _ _ _ _ refl _ _ c.in-Some.ensures c.in-Over.ensures) c.requires in w.1

pub work_out-work_out-requires-in-Over : goal.work_out-work_out-requires-in-Over
work_out-work_out-requires-in-Over t c = let w = o_within c.args.left _ _ c.in-Over.over refl (seen _ _ _ _ refl _ _ c.in-Some.ensures c.in-Over.ensures) c.requires in let f = from_length _ _ w.0 w.1 in (omega (arith, f), o_ready c.args.left _ _ _ refl (seen _ _ _ _ refl _ _ c.in-Some.ensures c.in-Over.ensures) c.requires)

pub work_out-returns-in_err-inner-in-Over : goal.work_out-returns-in_err-inner-in-Over
work_out-returns-in_err-inner-in-Over t c =
    let p = err_from_is_err_and c.from_residual-in_err-inner-in-Over.result c.from_residual-in_err-inner-in-Over.ensures.1 in
    let e = c.in_err-inner-in-Over.ensures in
    record { frozen = e.frozen; same = e.same; kept = e.kept; means = rw (p.1, p.2) (o_stops c.args.left _ _ _ refl (seen _ _ _ _ refl _ _ c.in-Some.ensures c.in-Over.ensures) _ _ e.means) }

pub work_out-slice_bounds-part-count : goal.work_out-slice_bounds-part-count
work_out-slice_bounds-part-count t c = let w = o_within c.args.left _ _ c.in-Over.over refl (seen _ _ _ _ refl _ _ c.in-Some.ensures c.in-Over.ensures) c.requires in w.4

pub work_out-slice_bounds-part-start : goal.work_out-slice_bounds-part-start
work_out-slice_bounds-part-start t c = let w = o_within c.args.left _ _ c.in-Over.over refl (seen _ _ _ _ refl _ _ c.in-Some.ensures c.in-Over.ensures) c.requires in w.4

pub work_out-overflow_add-at-in-Each : goal.work_out-overflow_add-at-in-Each
work_out-overflow_add-at-in-Each t c = omega (arith, in_bytes (first_stands c.args.left _ _ _ refl (seen _ _ _ _ refl _ _ c.in-Some.ensures c.in-Over.ensures) c.requires))

pub work_out-overflow_add-at-in-Keep : goal.work_out-overflow_add-at-in-Keep
work_out-overflow_add-at-in-Keep t c = omega (arith, in_bytes (first_stands c.args.left _ _ _ refl (seen _ _ _ _ refl _ _ c.in-Some.ensures c.in-Over.ensures) c.requires))

pub work_out-overflow_add-at-in-Then : goal.work_out-overflow_add-at-in-Then
work_out-overflow_add-at-in-Then t c = omega (arith, in_bytes (first_stands c.args.left _ _ _ refl (seen _ _ _ _ refl _ _ c.in-Some.ensures c.in-Over.ensures) c.requires))

pub work_out-overflow_add-at-in-WithEnv : goal.work_out-overflow_add-at-in-WithEnv
work_out-overflow_add-at-in-WithEnv t c = omega (arith, in_bytes (first_stands c.args.left _ _ _ refl (seen _ _ _ _ refl _ _ c.in-Some.ensures c.in-Over.ensures) c.requires))

pub work_out-each_of-requires : goal.work_out-each_of-requires
work_out-each_of-requires t c =
    let e = c.in_ok-inner-in-Over.ensures in
    let f = o_came c.args.left _ _ _ refl (seen _ _ _ _ refl _ _ c.in-Some.ensures c.in-Over.ensures) _ _ e.kept e.means c.requires in
    let w = o_within c.args.left _ _ _ refl (seen _ _ _ _ refl _ _ c.in-Some.ensures c.in-Over.ensures) c.requires in
    let q = from_length _ _ w.3 w.4 in
    (omega (arith, q), (each_ready c.args.left _ _ refl (seen _ _ _ _ refl _ _ c.in-Some.ensures (subst (λ o. TellsShape c.in-Some.visit.node (sh.Over o)) c.in-Each.is c.in-Over.ensures)) _ _ e.kept e.means _ c.place_of.ensures c.requires))

pub work_out-keep_of-requires : goal.work_out-keep_of-requires
work_out-keep_of-requires t c =
    let e = c.in_ok-inner-in-Over.ensures in
    let f = o_came c.args.left _ _ _ refl (seen _ _ _ _ refl _ _ c.in-Some.ensures c.in-Over.ensures) _ _ e.kept e.means c.requires in
    let w = o_within c.args.left _ _ _ refl (seen _ _ _ _ refl _ _ c.in-Some.ensures c.in-Over.ensures) c.requires in
    let q = from_length _ _ w.3 w.4 in
    (omega (arith, q), (keep_ready c.args.left _ _ refl (seen _ _ _ _ refl _ _ c.in-Some.ensures (subst (λ o. TellsShape c.in-Some.visit.node (sh.Over o)) c.in-Keep.is c.in-Over.ensures)) _ _ e.kept e.means _ c.place_of-in-Keep.ensures c.requires))

pub work_out-work_out-requires-in-Then : goal.work_out-work_out-requires-in-Then
work_out-work_out-requires-in-Then t c =
    let e = c.in_ok-inner-in-Over.ensures in
    let f = o_came c.args.left _ _ _ refl (seen _ _ _ _ refl _ _ c.in-Some.ensures c.in-Over.ensures) _ _ e.kept e.means c.requires in
    let w = o_within c.args.left _ _ _ refl (seen _ _ _ _ refl _ _ c.in-Some.ensures c.in-Over.ensures) c.requires in
    let q = from_length _ _ w.3 w.4 in
    (omega (arith, q), (then_ready c.args.left _ _ refl (seen _ _ _ _ refl _ _ c.in-Some.ensures (subst (λ o. TellsShape c.in-Some.visit.node (sh.Over o)) c.in-Then.is c.in-Over.ensures)) _ _ e.kept e.means c.requires))

pub work_out-work_out-requires-in-WithEnv : goal.work_out-work_out-requires-in-WithEnv
work_out-work_out-requires-in-WithEnv t c =
    let e = c.in_ok-inner-in-Over.ensures in
    let f = o_came c.args.left _ _ _ refl (seen _ _ _ _ refl _ _ c.in-Some.ensures c.in-Over.ensures) _ _ e.kept e.means c.requires in
    let w = o_within c.args.left _ _ _ refl (seen _ _ _ _ refl _ _ c.in-Some.ensures c.in-Over.ensures) c.requires in
    let q = from_length _ _ w.3 w.4 in
    (omega (arith, q), (env_ready c.args.left _ _ refl (seen _ _ _ _ refl _ _ c.in-Some.ensures (subst (λ o. TellsShape c.in-Some.visit.node (sh.Over o)) c.in-WithEnv.is c.in-Over.ensures)) _ _ e.kept e.means c.requires))

pub work_out-returns-in-Each : goal.work_out-returns-in-Each
work_out-returns-in-Each t c =
    let e = c.in_ok-inner-in-Over.ensures in
    let f = o_came c.args.left _ _ _ refl (seen _ _ _ _ refl _ _ c.in-Some.ensures c.in-Over.ensures) _ _ e.kept e.means c.requires in
    let s = c.each_of.ensures in
    record { frozen = s.frozen ∙ e.frozen; same = s.same ∙ e.same; kept = kept_trans e.kept s.kept f.above; means = each_comes c.args.left _ _ refl (seen _ _ _ _ refl _ _ c.in-Some.ensures (subst (λ o. TellsShape c.in-Some.visit.node (sh.Over o)) c.in-Each.is c.in-Over.ensures)) _ _ e.kept e.means _ c.place_of.ensures _ _ s.means }

pub work_out-returns-in-Keep : goal.work_out-returns-in-Keep
work_out-returns-in-Keep t c =
    let e = c.in_ok-inner-in-Over.ensures in
    let f = o_came c.args.left _ _ _ refl (seen _ _ _ _ refl _ _ c.in-Some.ensures c.in-Over.ensures) _ _ e.kept e.means c.requires in
    let s = c.keep_of.ensures in
    record { frozen = s.frozen ∙ e.frozen; same = s.same ∙ e.same; kept = kept_trans e.kept s.kept f.above; means = keep_comes c.args.left _ _ refl (seen _ _ _ _ refl _ _ c.in-Some.ensures (subst (λ o. TellsShape c.in-Some.visit.node (sh.Over o)) c.in-Keep.is c.in-Over.ensures)) _ _ e.kept e.means _ c.place_of-in-Keep.ensures _ _ s.means }

pub work_out-returns-in-Then : goal.work_out-returns-in-Then
work_out-returns-in-Then t c =
    let e = c.in_ok-inner-in-Over.ensures in
    let f = o_came c.args.left _ _ _ refl (seen _ _ _ _ refl _ _ c.in-Some.ensures c.in-Over.ensures) _ _ e.kept e.means c.requires in
    let s = c.work_out-in-Then.ensures in
    record { frozen = s.frozen ∙ e.frozen; same = s.same ∙ e.same; kept = kept_trans e.kept s.kept f.above; means = then_comes c.args.left _ _ refl (seen _ _ _ _ refl _ _ c.in-Some.ensures (subst (λ o. TellsShape c.in-Some.visit.node (sh.Over o)) c.in-Then.is c.in-Over.ensures)) _ _ e.kept e.means _ _ s.means }

pub work_out-returns-in-WithEnv : goal.work_out-returns-in-WithEnv
work_out-returns-in-WithEnv t c =
    let e = c.in_ok-inner-in-Over.ensures in
    let f = o_came c.args.left _ _ _ refl (seen _ _ _ _ refl _ _ c.in-Some.ensures c.in-Over.ensures) _ _ e.kept e.means c.requires in
    let s = c.work_out-in-WithEnv.ensures in
    record { frozen = s.frozen ∙ e.frozen; same = s.same ∙ e.same; kept = kept_trans e.kept s.kept f.above; means = env_comes c.args.left _ _ refl (seen _ _ _ _ refl _ _ c.in-Some.ensures (subst (λ o. TellsShape c.in-Some.visit.node (sh.Over o)) c.in-WithEnv.is c.in-Over.ensures)) _ _ e.kept e.means _ _ s.means }

pub work_out-slice_bounds-work_out-count-in-Default : goal.work_out-slice_bounds-work_out-count-in-Default
work_out-slice_bounds-work_out-count-in-Default t c = let w = d_within c.args.left _ _ refl (seen _ _ _ _ refl _ _ c.in-Some.ensures c.in-Default.ensures) c.requires in w.4

pub work_out-slice_bounds-work_out-start-in-Default : goal.work_out-slice_bounds-work_out-start-in-Default
work_out-slice_bounds-work_out-start-in-Default t c = let w = d_within c.args.left _ _ refl (seen _ _ _ _ refl _ _ c.in-Some.ensures c.in-Default.ensures) c.requires in w.4

pub work_out-overflow_add-at-in-Default : goal.work_out-overflow_add-at-in-Default
work_out-overflow_add-at-in-Default t c = omega (arith, in_bytes (d_ready c.args.left _ _ refl (seen _ _ _ _ refl _ _ c.in-Some.ensures c.in-Default.ensures) c.requires).stands)

pub work_out-work_out-requires-in-Default : goal.work_out-work_out-requires-in-Default
work_out-work_out-requires-in-Default t c = let w = d_within c.args.left _ _ refl (seen _ _ _ _ refl _ _ c.in-Some.ensures c.in-Default.ensures) c.requires in let f = from_length _ _ w.3 w.4 in (omega (arith, f), d_ready c.args.left _ _ refl (seen _ _ _ _ refl _ _ c.in-Some.ensures c.in-Default.ensures) c.requires)

pub work_out-returns-in_err-given-in-Default : goal.work_out-returns-in_err-given-in-Default
work_out-returns-in_err-given-in-Default t c =
    let p = err_from_is_err_and c.from_residual-in_err-given-in-Default.result c.from_residual-in_err-given-in-Default.ensures.1 in
    let e = c.in_err-given-in-Default.ensures in
    record { frozen = e.frozen; same = e.same; kept = e.kept; means = rw (p.1, p.2) (d_stops c.args.left _ _ refl (seen _ _ _ _ refl _ _ c.in-Some.ensures c.in-Default.ensures) _ _ e.means) }

pub work_out-slice_bounds-work_out-count-then-is_empty : goal.work_out-slice_bounds-work_out-count-then-is_empty
work_out-slice_bounds-work_out-count-then-is_empty t c = let w = d_within c.args.left _ _ refl (seen _ _ _ _ refl _ _ c.in-Some.ensures c.in-Default.ensures) c.requires in w.1

pub work_out-slice_bounds-work_out-start-then-is_empty : goal.work_out-slice_bounds-work_out-start-then-is_empty
work_out-slice_bounds-work_out-start-then-is_empty t c = let w = d_within c.args.left _ _ refl (seen _ _ _ _ refl _ _ c.in-Some.ensures c.in-Default.ensures) c.requires in w.1

pub work_out-work_out-requires-then-is_empty : goal.work_out-work_out-requires-then-is_empty
work_out-work_out-requires-then-is_empty t c =
    let e = c.in_ok-given-in-Default.ensures in
    let f = d_came c.args.left _ _ refl (seen _ _ _ _ refl _ _ c.in-Some.ensures c.in-Default.ensures) _ _ e.kept e.means c.requires in
    let w = d_within c.args.left _ _ refl (seen _ _ _ _ refl _ _ c.in-Some.ensures c.in-Default.ensures) c.requires in
    let q = from_length _ _ w.0 w.1 in
    (omega (arith, q), (d_next c.args.left _ _ refl (seen _ _ _ _ refl _ _ c.in-Some.ensures c.in-Default.ensures) _ _ e.kept e.means c.requires))

pub work_out-returns-then-is_empty : goal.work_out-returns-then-is_empty
work_out-returns-then-is_empty t c =
    let e = c.in_ok-given-in-Default.ensures in
    let f = d_came c.args.left _ _ refl (seen _ _ _ _ refl _ _ c.in-Some.ensures c.in-Default.ensures) _ _ e.kept e.means c.requires in
    let s = c.work_out-then-is_empty.ensures in
    record { frozen = s.frozen ∙ e.frozen; same = s.same ∙ e.same; kept = kept_trans e.kept s.kept f.above; means = d_other c.args.left _ _ refl (seen _ _ _ _ refl _ _ c.in-Some.ensures c.in-Default.ensures) _ _ e.kept e.means (sym c.is_empty.ensures ∙ c.if-is_empty.true) _ _ s.means }

pub work_out-returns-else-is_empty : goal.work_out-returns-else-is_empty
work_out-returns-else-is_empty t c =
    let e = c.in_ok-given-in-Default.ensures in
    record { frozen = e.frozen; same = e.same; kept = e.kept; means = d_same c.args.left _ _ refl (seen _ _ _ _ refl _ _ c.in-Some.ensures c.in-Default.ensures) _ _ e.kept e.means (sym c.is_empty.ensures ∙ c.if-is_empty.false) }

pub work_out-returns-then-left-eq0-2 : goal.work_out-returns-then-left-eq0-2
work_out-returns-then-left-eq0-2 t c = record { frozen = refl; same = refl; kept = kept_refl; means = e_tired c.args.left _ _ refl (seen _ _ _ _ refl _ _ c.in-Some.ensures c.in-Either.ensures) c.if-left-eq0-2.true }

pub work_out-load-there-requires : goal.work_out-load-there-requires
work_out-load-there-requires t c = omega (arith, e_spot c.args.left _ _ refl (seen _ _ _ _ refl _ _ c.in-Some.ensures c.in-Either.ensures) _ c.side_of-side.ensures c.requires, c.requires.held.room)

pub work_out-slice_bounds-work_out-count-in-Either : goal.work_out-slice_bounds-work_out-count-in-Either
work_out-slice_bounds-work_out-count-in-Either t c = let w = e_within c.args.left _ _ refl (seen _ _ _ _ refl _ _ c.in-Some.ensures c.in-Either.ensures) _ c.side_of-side.ensures c.requires in w.1

pub work_out-slice_bounds-work_out-start-in-Either : goal.work_out-slice_bounds-work_out-start-in-Either
work_out-slice_bounds-work_out-start-in-Either t c = let w = e_within c.args.left _ _ refl (seen _ _ _ _ refl _ _ c.in-Some.ensures c.in-Either.ensures) _ c.side_of-side.ensures c.requires in w.1

pub work_out-overflow_add-at-in-Either : goal.work_out-overflow_add-at-in-Either
work_out-overflow_add-at-in-Either t c = omega (arith, in_bytes (e_ready c.args.left _ _ refl (seen _ _ _ _ refl _ _ c.in-Some.ensures c.in-Either.ensures) _ c.side_of-side.ensures _ c.load-there.ensures c.requires).stands)

pub work_out-work_out-requires-in-Either : goal.work_out-work_out-requires-in-Either
work_out-work_out-requires-in-Either t c = let w = e_within c.args.left _ _ refl (seen _ _ _ _ refl _ _ c.in-Some.ensures c.in-Either.ensures) _ c.side_of-side.ensures c.requires in let f = from_length _ _ w.0 w.1 in (omega (arith, f), e_ready c.args.left _ _ refl (seen _ _ _ _ refl _ _ c.in-Some.ensures c.in-Either.ensures) _ c.side_of-side.ensures _ c.load-there.ensures c.requires)

pub work_out-returns-else-left-eq0-2 : goal.work_out-returns-else-left-eq0-2
work_out-returns-else-left-eq0-2 t c = let s = c.work_out-in-Either.ensures in record { frozen = s.frozen; same = s.same; kept = s.kept; means = e_comes c.args.left _ _ refl (seen _ _ _ _ refl _ _ c.in-Some.ensures c.in-Either.ensures) _ c.side_of-side.ensures _ c.load-there.ensures c.if-left-eq0-2.false _ _ s.means }

pub each_of-loop-i-init : goal.each_of-loop-i-init
each_of-loop-i-init t c =
    let r = c.in-Some.ensures in
    let room : c.args.memory.now.top + 3 * c.args.place.count ≤ length (all c.args.memory.now) = omega (arith, c.reserve.new.self.within, r.moved.top, ap length r.words, length-append c.reserve.new.self.kept.now c.reserve.new.self.made.now) in
    (rw (r.words, r.moved.top) (begin c.args.budget c.if-budget-place.false room), r.moved.frozen, r.moved.same)

pub each_of-returns-then-budget-place : goal.each_of-returns-then-budget-place
each_of-returns-then-budget-place t c = record { frozen = refl; same = refl; kept = kept_refl; means = each_too_many c.args.budget c.if-budget-place.true }

pub each_of-returns-in_default : goal.each_of-returns-in_default
each_of-returns-in_default t c =
    let n = c.in_default.ensures in
    record { frozen = n.steady.frozen; same = n.steady.same; kept = rw n.words kept_refl; means = rw n.words (each_no_room c.args.budget c.if-budget-place.false n.short) }

pub each_of-nth-x-requires : goal.each_of-nth-x-requires
each_of-nth-x-requires t c = let k = spot c.args.budget c.loop-i.i c.requires c.loop-i-test.true in omega (arith, k, c.requires.held.room, c.loop-i.invariant.0.kept.long)

pub each_of-work_out-requires : goal.each_of-work_out-requires
each_of-work_out-requires t c = (omega arith, item_ready c.args.budget _ _ _ _ c.loop-i.invariant.0 c.loop-i-test.true _ c.nth-x.ensures c.requires)

pub each_of-returns-in_err-came : goal.each_of-returns-in_err-came
each_of-returns-in_err-came t c =
    let p = err_from_is_err_and c.from_residual.result c.from_residual.ensures.1 in
    let e = c.in_err-came.ensures in
    let w = c.loop-i.invariant.0 in
    let above : c.args.memory.now.top ≤ c.loop-i.memory.top = omega (arith, w.above) in
    record {
      frozen = e.frozen ∙ c.loop-i.invariant.1;
      same = e.same ∙ c.loop-i.invariant.2;
      kept = kept_trans w.kept e.kept above;
      means = rw (p.1, p.2) (item_stops c.args.budget _ _ _ _ w c.loop-i-test.true _ c.nth-x.ensures _ _ e.means);
    }

pub each_of-put_nth-requires : goal.each_of-put_nth-requires
each_of-put_nth-requires t c =
    let e = c.in_ok-came.ensures in
    let w = c.loop-i.invariant.0 in
    record {
      over = omega (arith, c.in-Some.ensures.begins, c.args.memory.now.over, ap length e.frozen, ap length c.loop-i.invariant.1);
      within = omega (arith, c.in-Some.ensures.begins, w.above, w.within, e.kept.long, c.loop-i-test.true);
    }

pub each_of-loop-i-preserved : goal.each_of-loop-i-preserved
each_of-loop-i-preserved t c =
    let e = c.in_ok-came.ensures in
    let s = c.put_nth.ensures in (
      rw s.steady.top (turned c.args.budget _ _ _ _ c.loop-i.invariant.0 c.loop-i-test.true _ c.nth-x.ensures _ _ e.kept e.means _ (rw c.in-Some.ensures.begins at s.put) c.requires),
      s.steady.frozen ∙ e.frozen ∙ c.loop-i.invariant.1,
      s.steady.same ∙ e.same ∙ c.loop-i.invariant.2,
    )

pub each_of-returns : goal.each_of-returns
each_of-returns t c =
    let w = c.loop-i.invariant.0 in
    let all : c.loop-i.i ≡ c.args.place.count = omega (arith, c.loop-i.auto.i-end, c.loop-i-test.false) in
    record { frozen = c.loop-i.invariant.1; same = c.loop-i.invariant.2; kept = w.kept; means = rw c.in-Some.ensures.begins (finished c.args.budget _ _ _ _ w all) }

pub keep_of-loop-i-init : goal.keep_of-loop-i-init
keep_of-loop-i-init t c = (keep_begin c.args.budget c.requires.held.room, refl, refl)

pub keep_of-returns-then-left-eq0 : goal.keep_of-returns-then-left-eq0
keep_of-returns-then-left-eq0 t c = record { frozen = c.loop-i.invariant.1; same = c.loop-i.invariant.2; kept = c.loop-i.invariant.0.kept; means = keep_tired c.args.budget _ _ _ _ _ c.loop-i.invariant.0 c.loop-i-test.true c.if-left-eq0.true }

pub keep_of-nth-x-requires : goal.keep_of-nth-x-requires
keep_of-nth-x-requires t c = let k = spot c.args.budget c.loop-i.i c.requires c.loop-i-test.true in omega (arith, k, c.requires.held.room, c.loop-i.invariant.0.kept.long)

pub keep_of-work_out-requires : goal.keep_of-work_out-requires
keep_of-work_out-requires t c = (omega arith, kept_ready c.args.budget _ _ _ _ _ c.loop-i.invariant.0 c.loop-i-test.true _ c.nth-x.ensures c.requires)

pub keep_of-returns-in_err-came : goal.keep_of-returns-in_err-came
keep_of-returns-in_err-came t c =
    let p = err_from_is_err_and c.from_residual.result c.from_residual.ensures.1 in
    let e = c.in_err-came.ensures in
    let w = c.loop-i.invariant.0 in
    let above : c.args.memory.now.top ≤ c.loop-i.memory.top = omega (arith, w.above) in
    record {
      frozen = e.frozen ∙ c.loop-i.invariant.1;
      same = e.same ∙ c.loop-i.invariant.2;
      kept = kept_trans w.kept e.kept above;
      means = rw (p.1, p.2) (keep_stops c.args.budget _ _ _ _ _ w c.loop-i-test.true _ c.nth-x.ensures c.if-left-eq0.false _ _ e.means);
    }

pub keep_of-returns-in_err-yes : goal.keep_of-returns-in_err-yes
keep_of-returns-in_err-yes t c =
    let p = err_from_is_err_and c.from_residual-in_err-yes.result c.from_residual-in_err-yes.ensures.1 in
    let e = c.in_ok-came.ensures in
    let w = c.loop-i.invariant.0 in
    let above : c.args.memory.now.top ≤ c.loop-i.memory.top = omega (arith, w.above) in
    record {
      frozen = e.frozen ∙ c.loop-i.invariant.1;
      same = e.same ∙ c.loop-i.invariant.2;
      kept = kept_trans w.kept e.kept above;
      means = rw (p.1, p.2) (keep_no_truth c.args.budget _ _ _ _ _ w c.loop-i-test.true _ c.nth-x.ensures c.if-left-eq0.false _ _ e.kept e.means _ (sym c.in_err-yes.ensures));
    }

pub keep_of-release-requires : goal.keep_of-release-requires
keep_of-release-requires t c =
    let e = c.in_ok-came.ensures in
    record { over = omega (arith, c.loop-i.memory.over, ap length e.frozen); within = omega (arith, c.loop-i.invariant.0.within, e.kept.long) }

pub keep_of-returns-in_default : goal.keep_of-returns-in_default
keep_of-returns-in_default t c =
    let e = c.in_ok-came.ensures in
    let w = c.loop-i.invariant.0 in
    let n = c.in_default.ensures in
    let above : c.args.memory.now.top ≤ c.loop-i.memory.top = omega (arith, w.above) in
    record {
      frozen = n.steady.frozen ∙ c.release.ensures.frozen ∙ e.frozen ∙ c.loop-i.invariant.1;
      same = n.steady.same ∙ c.release.ensures.same ∙ e.same ∙ c.loop-i.invariant.2;
      kept = rw (n.words, c.release.ensures.words) (kept_trans w.kept e.kept above);
      means = rw (n.words, c.release.ensures.words) (keep_no_room c.args.budget _ _ _ _ _ w c.loop-i-test.true _ c.nth-x.ensures c.if-left-eq0.false _ (omega (arith, n.short, c.release.ensures.top, ap length c.release.ensures.words, e.kept.long)));
    }

pub keep_of-loop-i-preserved : goal.keep_of-loop-i-preserved
keep_of-loop-i-preserved t c =
    let e = c.in_ok-came.ensures in
    let v = c.in_ok-yes.ensures in
    let r = c.release.ensures in
    elim c.if-yes.branch [
      | keep_of-then-yes+in-Some w ↦ simp (w.memory-is, w.count-is) (
        rw (w.in-Some.ensures.moved.top, r.top) (taken_in c.args.budget _ _ _ _ _ c.loop-i.invariant.0 c.loop-i-test.true _ c.nth-x.ensures c.if-left-eq0.false _ _ e.kept e.means (sym v ∙ ap Ok w.if-yes.true) _ (rw (r.words, r.top) at w.in-Some.ensures.put) (omega (arith, w.put_next.new.self.within, w.in-Some.ensures.moved.top, r.top, length-append w.put_next.new.self.kept.now w.put_next.new.self.made.now)) c.requires),
        w.in-Some.ensures.moved.frozen ∙ r.frozen ∙ e.frozen ∙ c.loop-i.invariant.1,
        w.in-Some.ensures.moved.same ∙ r.same ∙ e.same ∙ c.loop-i.invariant.2,
      )
      | keep_of-else-yes w ↦ simp (w.memory-is, w.count-is) (
        rw (r.words, r.top) (left_out c.args.budget _ _ _ _ _ c.loop-i.invariant.0 c.loop-i-test.true _ c.nth-x.ensures c.if-left-eq0.false _ _ e.kept e.means (sym v ∙ ap Ok w.if-yes.false) c.requires),
        r.frozen ∙ e.frozen ∙ c.loop-i.invariant.1,
        r.same ∙ e.same ∙ c.loop-i.invariant.2,
      )
    ]

pub keep_of-returns : goal.keep_of-returns
keep_of-returns t c =
    let w = c.loop-i.invariant.0 in
    let all : c.loop-i.i ≡ c.args.place.count = omega (arith, c.loop-i.auto.i-end, c.loop-i-test.false) in
    record { frozen = c.loop-i.invariant.1; same = c.loop-i.invariant.2; kept = w.kept; means = keep_finished c.args.budget _ _ _ _ _ w all }
