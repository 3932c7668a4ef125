use Rattle.std.proofs.Common.{◌<◌, sym, ◌∙◌, arith, rules}
use denote.Enum.Bare.{differs_true, differs_false}
use Rattle.format.specs.Wire.{types, data_of}
use Rattle.format.specs.Heads.{data_heads, data_arity, ty_heads, ty_arity}
use Rattle.format.specs.Nodes.{TellsData, TellsType}
use Rattle.format.specs.Trees.{node_opened}
use Rattle.format.specs.DataLaws.{data_laws}
use Rattle.format.specs.TypeLaws.{ty_laws}
use Rattle.of_type.specs.contracts.Kind.{the_type}
use Rattle.of_type.proofs.Taken.{taken, not_taken, differ, alike}
use Rattle.of_type.proofs.Fronts.{shorter, data_some, ty_some}
use Rattle.of_type.proofs.Meets.{kinds_differ, kinds_meet, names_differ, names_meet}
use Rattle.of_type.proofs.Both.heads_meet.Goals as goal
use Rattle.of_type.proofs.Both.heads_meet.Goals.{in-Record+else-ne-2, in_default}

pub returns-in_err-d : goal.returns-in_err-d
returns-in_err-d c =
    let s = not_taken _ _ _ c.in_err-d.ensures.value c.data_node.ensures in
    rw c.from_residual.ensures record { within = tt; tells = λ d t rest rest' f g p q. absurd (data_some c.args.self.datum.now d rest f p s.1.absent) }

pub returns-in_err-t : goal.returns-in_err-t
returns-in_err-t c =
    let s = not_taken _ _ _ c.in_err-t.ensures.value c.type_node.ensures in
    rw c.from_residual-in_err-t.ensures record { within = tt; tells = λ d t rest rest' f g p q. absurd (ty_some c.args.self.ty.now t rest' g q s.1.absent) }

pub returns-then-ne : goal.returns-then-ne
returns-then-ne c =
    let dn = taken _ _ _ _ c.in_ok-d.ensures.value c.data_node.ensures in
    let tn = taken _ _ _ _ c.in_ok-t.ensures.value c.type_node.ensures in
    record {
      within = tt;
      tells = λ d t rest rest' f g p q.
          kinds_differ c.args.self.datum.now c.args.self.ty.now c.in_ok-d.d.head _ _ c.in_ok-t.t.head _ _ dn tn d t rest rest' f g p q
          (λ e. differs_true the_type _ _ (sym c.ne.ensures ∙ c.if-ne.true) (c.from.ensures ∙ e ∙ sym c.from-2.ensures));
    }

pub slice_bounds-ne-count : goal.slice_bounds-ne-count
slice_bounds-ne-count c =
    let h : 0 < c.in_ok-d.d.length = (node_opened data_of data_heads data_arity data_laws TellsData _ c.in_ok-d.d.head _ _ (taken _ _ _ _ c.in_ok-d.ensures.value c.data_node.ensures)).some in
    omega arith

pub slice_bounds-ne-start : goal.slice_bounds-ne-start
slice_bounds-ne-start c =
    let h : 0 < c.in_ok-d.d.length = (node_opened data_of data_heads data_arity data_laws TellsData _ c.in_ok-d.d.head _ _ (taken _ _ _ _ c.in_ok-d.ensures.value c.data_node.ensures)).some in
    search rules

pub slice_bounds-ne-count-in-Record : goal.slice_bounds-ne-count-in-Record
slice_bounds-ne-count-in-Record c =
    let h : 0 < c.in_ok-t.t.length = (node_opened types ty_heads ty_arity ty_laws TellsType _ c.in_ok-t.t.head _ _ (taken _ _ _ _ c.in_ok-t.ensures.value c.type_node.ensures)).some in
    omega arith

pub slice_bounds-ne-start-in-Record : goal.slice_bounds-ne-start-in-Record
slice_bounds-ne-start-in-Record c =
    let h : 0 < c.in_ok-t.t.length = (node_opened types ty_heads ty_arity ty_laws TellsType _ c.in_ok-t.t.head _ _ (taken _ _ _ _ c.in_ok-t.ensures.value c.type_node.ensures)).some in
    search rules

pub returns-then-ne-2 : goal.returns-then-ne-2
returns-then-ne-2 c =
    let dn = taken _ _ _ _ c.in_ok-d.ensures.value c.data_node.ensures in
    let tn = taken _ _ _ _ c.in_ok-t.ensures.value c.type_node.ensures in
    record {
      within = tt;
      tells = λ d t rest rest' f g p q.
          names_differ c.args.self.datum.now c.args.self.ty.now c.in_ok-d.d.head _ _ c.in_ok-t.t.head _ _ dn tn d t rest rest' f g p q
          c.in-Record.field-0 c.in-Record.is (sym c.from.ensures ∙ differs_false the_type (search rules) _ _ (sym c.ne.ensures ∙ c.if-ne.false) ∙ c.from-2.ensures) (differ _ _ _ c.ne-in-Record.ensures c.if-ne-2.true);
    }

pub returns : goal.returns
returns c =
    let xs = c.args.self.datum.now in
    let ys = c.args.self.ty.now in
    let dn = taken _ _ _ _ c.in_ok-d.ensures.value c.data_node.ensures in
    let tn = taken _ _ _ _ c.in_ok-t.ensures.value c.type_node.ensures in
    let same = sym c.from.ensures ∙ differs_false the_type (search rules) _ _ (sym c.ne.ensures ∙ c.if-ne.false) ∙ c.from-2.ensures in
    record {
      within = (shorter c.in_ok-d.d.length xs, shorter c.in_ok-t.t.length ys);
      tells = λ d t rest rest' f g p q.
          elim c.match-d.branch [
            | in-Record+else-ne-2 w ↦ names_meet xs ys c.in_ok-d.d.head _ _ c.in_ok-t.t.head _ _ dn tn d t rest rest' f g p q w.in-Record.field-0 w.in-Record.is same (alike _ _ _ w.ne-in-Record.ensures w.if-ne-2.false)
            | in_default w ↦ kinds_meet xs ys c.in_ok-d.d.head _ _ c.in_ok-t.t.head _ _ dn tn d t rest rest' f g p q same w.in_default.not-Record
          ];
    }
