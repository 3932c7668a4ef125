use Rattle.types.proofs.Meanings.{ranked_as}
use Rattle.typing.proofs.TypeMade.{ranked}
use Rattle.typed.proofs.Operators.{joint_op, joint_product, joint_default, joint_matched}
use Rattle.typed.proofs.part.joint_type.Goals as goal

pub returns-in-Op : goal.returns-in-Op
returns-in-Op c = record {
  grew = c.two.ensures.grew;
  told = joint_op _ _ _ c.args.pos c.args.x c.args.y c.args.op _ (ranked_as c.requires.same (ranked _ c.requires.listed.ordered)) c.in-Op.o c.in-Op.is c.two.ensures.says;
}

pub returns-in-Product : goal.returns-in-Product
returns-in-Product c = record {
  grew = c.product.ensures.grew;
  told = joint_product _ _ _ c.args.pos c.args.x c.args.y c.args.op _ (ranked_as c.requires.same (ranked _ c.requires.listed.ordered)) c.in-Product.is c.product.ensures.says;
}

pub returns-in-Matched : goal.returns-in-Matched
returns-in-Matched c = record {
  grew = c.matched_at.ensures.grew;
  told = joint_matched _ _ _ c.args.pos c.args.x c.args.y c.args.op _ c.in-Matched.m c.in-Matched.n c.in-Matched.is c.matched_at.ensures.told;
}

pub returns-in-Default : goal.returns-in-Default
returns-in-Default c = record {
  grew = c.join_bags.ensures.grew;
  told = joint_default _ _ _ c.args.pos c.args.x c.args.y c.args.op _ (ranked_as c.requires.same (ranked _ c.requires.listed.ordered)) c.in-Default.is c.join_bags.ensures.says;
}
