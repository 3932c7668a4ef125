use Rattle.std.proofs.Common.{◌<◌, arith}
use Rattle.types.specs.Shapes.{Below}
use Rattle.types.specs.Outcomes.{size}
use Rattle.types.proofs.Meanings.{still, grew_two, ranked_as}
use Rattle.typed.proofs.Walking.{ranked_in}
use Rattle.typed.proofs.Operators.{single_op, left_none, right_none, left_some, right_some}
use Rattle.typed.proofs.part.single_type.Goals as goal

pub returns-in_err-y-in-Left : goal.returns-in_err-y-in-Left
returns-in_err-y-in-Left c = let e = c.in_err-y-in-Left.ensures in rw c.from_residual.ensures (record { grew = e.grew; fit = e.fit; told = left_none _ _ c.args.pos c.args.x c.args.op _ c.in-Left.is e.told })

pub make-requires : goal.make-requires
unfolding Below
make-requires c =
    let g = c.in_ok-y-in-Left.ensures.grew in
    let a = still g c.args.x c.requires.part in
    let b : c.in_ok-y-in-Left.y < size c.one_type.new.table = g.here in
    record { plain = tt; parts = (omega arith, omega arith) }

pub returns-in_err-y-in-Right : goal.returns-in_err-y-in-Right
returns-in_err-y-in-Right c = let e = c.in_err-y-in-Right.ensures in rw c.from_residual-in_err-y-in-Right.ensures (record { grew = e.grew; fit = e.fit; told = right_none _ _ c.args.pos c.args.x c.args.op _ c.in-Right.is e.told })

pub make-requires-in-Right : goal.make-requires-in-Right
unfolding Below
make-requires-in-Right c =
    let g = c.in_ok-y-in-Right.ensures.grew in
    let a = still g c.args.x c.requires.part in
    let b : c.in_ok-y-in-Right.y < size c.one_type-in-Right.new.table = g.here in
    record { plain = tt; parts = (omega arith, omega arith) }

pub returns-in-Op : goal.returns-in-Op
returns-in-Op c = record {
  grew = c.unary.ensures.grew;
  fit = record { heads = c.requires.ready.fit.heads; ranks = c.unary.ensures.cap };
  told = single_op _ _ c.args.pos c.args.x c.args.op c.in-Op.o _ _ c.in-Op.is c.unary.ensures.told;
}

pub returns-in_ok-y-in-Left : goal.returns-in_ok-y-in-Left
returns-in_ok-y-in-Left c =
    let e = c.in_ok-y-in-Left.ensures in
    record {
      grew = grew_two e.grew c.make.ensures.grew;
      fit = e.fit;
      told = left_some _ _ c.args.pos c.args.x c.args.op _ _ c.in_ok-y-in-Left.y _ c.requires.part e.grew e.told (ranked_as e.grew.names (ranked_in c.requires.ready)) c.in-Left.is c.make.ensures.says;
    }

pub returns-in_ok-y-in-Right : goal.returns-in_ok-y-in-Right
returns-in_ok-y-in-Right c =
    let e = c.in_ok-y-in-Right.ensures in
    record {
      grew = grew_two e.grew c.make-in-Right.ensures.grew;
      fit = e.fit;
      told = right_some _ _ c.args.pos c.args.x c.args.op _ _ c.in_ok-y-in-Right.y _ c.requires.part e.grew e.told (ranked_as e.grew.names (ranked_in c.requires.ready)) c.in-Right.is c.make-in-Right.ensures.says;
    }
