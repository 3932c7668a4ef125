use Rattle.typed.proofs.walk.+type_of.Given as goal

abbrev pub decreases-type_of : goal.decreases-type_of
decreases-type_of l = l.depth
