use Rattle.types.proofs.Meanings.{stay}
use Rattle.std.proofs.Common.{Some}
use Rattle.typed.proofs.Leaves.{leaf_table, leaf_it, leaf_env, leaf_just}
use Rattle.typed.proofs.part.leaf_type.Goals as goal

pub returns-in-Table : goal.returns-in-Table
returns-in-Table c = record {
  grew = stay _ c.requires.ready.tidy (c.table_at.ensures.within _ c.requires.ready.schema);
  fit = c.requires.ready.fit;
  told = leaf_table _ _ c.args.pos c.args.last c.args.leaf c.args.env c.args.it c.in-Table.n _ c.in-Table.is (c.table_at.ensures.is _ _);
}

pub returns-in-It : goal.returns-in-It
returns-in-It c = record {
  grew = stay (Some c.args.it) c.requires.ready.tidy c.requires.looked;
  fit = c.requires.ready.fit;
  told = leaf_it _ _ c.args.pos c.args.last c.args.leaf c.args.env c.args.it c.in-It.is;
}

pub returns-in-Env : goal.returns-in-Env
returns-in-Env c = record {
  grew = stay (Some c.args.env) c.requires.ready.tidy c.requires.along;
  fit = c.requires.ready.fit;
  told = leaf_env _ _ c.args.pos c.args.last c.args.leaf c.args.env c.args.it c.in-Env.is;
}

pub returns-in-Just : goal.returns-in-Just
returns-in-Just c = record {
  grew = c.written.ensures.grew;
  fit = c.written.ensures.fit;
  told = leaf_just _ _ c.args.pos c.args.last c.args.leaf c.args.env c.args.it _ _ c.in-Just.is c.written.ensures.told;
}
