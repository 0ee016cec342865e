use Rattle.duty_builder.proofs.added.+init_at.Given as goal

abbrev pub decreases-init_at : goal.decreases-init_at
decreases-init_at l = l.upto
