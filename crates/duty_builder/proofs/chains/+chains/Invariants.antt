use Rattle.duty_builder.proofs.chains.+chains.Given as goal

abbrev pub decreases-follow : goal.decreases-follow
decreases-follow l = l.fuel

abbrev pub decreases-follow_field : goal.decreases-follow_field
decreases-follow_field l = l.fuel
