use Rattle.decide_trial.proofs.over.+is_over.Given as goal

abbrev pub decreases-is_over : goal.decreases-is_over
decreases-is_over l = l.parts
