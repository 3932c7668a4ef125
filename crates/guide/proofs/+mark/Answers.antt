use Rattle.std.proofs.Common.{refl, inl, inr, ⊎_elim, arith}
use Rattle.guide.proofs.Heads.{no_head}
use Rattle.guide.proofs.Visiting.{read_some, read_none}
use Rattle.guide.proofs.Marking.{unmarked, no_limit, just_short, bare_marked, just_marked, one_unmarked, one_marked, first_unmarked, last_unmarked, two_marked}
use Rattle.guide.proofs.+mark.Goals as goal

pub returns-then-limit-eq0 : goal.returns-then-limit-eq0
returns-then-limit-eq0 t c =
    unmarked c.args.query.now c.args.guide.now _ c.args.at c.args.limit refl
    (λ q rest m. no_limit _ _ _ _ q rest (⊎_elim (λ a. inl a) (λ a. inr a.1) c.then-limit-eq0.either) m)

pub returns-in_err-o : goal.returns-in_err-o
returns-in_err-o t c =
    let s = read_none _ _ c.query_node.result c.ok.result c.query_node.ensures c.ok.ensures.value c.in_err-o.was in
    rw c.from_residual.ensures (unmarked c.args.query.now c.args.guide.now _ c.args.at c.args.limit refl (λ q rest m. no_head c.args.query.now s.0 q rest s.1 m.fits m.is))

pub overflow_add-t : goal.overflow_add-t
overflow_add-t t c = omega (arith, just_short c.args.query.now c.args.guide.now c.args.at c.args.limit c.in_ok-o.o.head c.in_ok-o.o.parts c.in_ok-o.o.length (read_some _ _ c.query_node.result c.ok.result c.in_ok-o.o c.query_node.ensures c.ok.ensures.value c.in_ok-o.was) c.in-Just.t c.in-Just.is)

pub returns-in_err-m-in-1 : goal.returns-in_err-m-in-1
returns-in_err-m-in-1 t c = rw c.from_residual-in_err-m-in-1.ensures (one_unmarked _ _ _ _ c.in_ok-o.o.head c.in_ok-o.o.parts c.in_ok-o.o.length (read_some _ _ c.query_node.result c.ok.result c.in_ok-o.o c.query_node.ensures c.ok.ensures.value c.in_ok-o.was) _ c.in-1.is c.in_err-m-in-1.ensures)

pub returns-in_err-m-in_default : goal.returns-in_err-m-in_default
returns-in_err-m-in_default t c = rw c.from_residual-in_err-m-in_default.ensures (first_unmarked _ _ _ _ c.in_ok-o.o.head c.in_ok-o.o.parts c.in_ok-o.o.length (read_some _ _ c.query_node.result c.ok.result c.in_ok-o.o c.query_node.ensures c.ok.ensures.value c.in_ok-o.was) _ (omega arith) c.in_err-m-in_default.ensures)

pub returns-in_err-n-in_default : goal.returns-in_err-n-in_default
returns-in_err-n-in_default t c =
    rw c.from_residual-in_err-n-in_default.ensures
    (last_unmarked _ _ _ _ c.in_ok-o.o.head c.in_ok-o.o.parts c.in_ok-o.o.length (read_some _ _ c.query_node.result c.ok.result c.in_ok-o.o c.query_node.ensures c.ok.ensures.value c.in_ok-o.was) _ c.in_ok-m-in_default.m (omega arith) c.in_ok-m-in_default.ensures _ c.in_err-n-in_default.ensures)

pub returns-in-Just : goal.returns-in-Just
returns-in-Just t c =
    just_marked _ _ _ _ c.in_ok-o.o.head c.in_ok-o.o.parts c.in_ok-o.o.length (read_some _ _ c.query_node.result c.ok.result c.in_ok-o.o c.query_node.ensures c.ok.ensures.value c.in_ok-o.was) _ c.in-Just.t c.note.result c.in-0.is c.in-Just.is c.note.auto.guide c.note.ensures

pub returns-in_default-head : goal.returns-in_default-head
returns-in_default-head t c = bare_marked _ c.args.guide.now _ _ c.in_ok-o.o.head c.in_ok-o.o.parts c.in_ok-o.o.length (read_some _ _ c.query_node.result c.ok.result c.in_ok-o.o c.query_node.ensures c.ok.ensures.value c.in_ok-o.was) c.in-0.is c.in_default-head.not-Just

pub returns-in_ok-m-in-1 : goal.returns-in_ok-m-in-1
returns-in_ok-m-in-1 t c =
    one_marked _ _ _ _ c.in_ok-o.o.head c.in_ok-o.o.parts c.in_ok-o.o.length (read_some _ _ c.query_node.result c.ok.result c.in_ok-o.o c.query_node.ensures c.ok.ensures.value c.in_ok-o.was) _ _ c.in_ok-m-in-1.m c.note-in-1.result c.in-1.is c.in_ok-m-in-1.ensures c.note-in-1.auto.guide c.note-in-1.ensures

pub returns-in_ok-n-in_default : goal.returns-in_ok-n-in_default
returns-in_ok-n-in_default t c =
    two_marked _ _ _ _ c.in_ok-o.o.head c.in_ok-o.o.parts c.in_ok-o.o.length (read_some _ _ c.query_node.result c.ok.result c.in_ok-o.o c.query_node.ensures c.ok.ensures.value c.in_ok-o.was) _ c.in_ok-m-in_default.m (omega arith) c.in_ok-m-in_default.ensures _ _ c.in_ok-n-in_default.n c.note-in_default.result c.in_ok-n-in_default.ensures c.note-in_default.auto.guide c.note-in_default.ensures
