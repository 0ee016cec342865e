use Rattle.ground_terms.proofs.walk.advance.Given as goal

abbrev pub ghost-expand : goal.ghost-expand
ghost-expand g a = g.node
