use Rattle.duty_builder.proofs.truths.+first.Given as goal

abbrev pub decreases-first : goal.decreases-first
decreases-first l = l.fuel

abbrev pub decreases-first_end : goal.decreases-first_end
decreases-first_end l = l.fuel

abbrev pub decreases-first_match : goal.decreases-first_match
decreases-first_match l = l.fuel

abbrev pub decreases-first_get : goal.decreases-first_get
decreases-first_get l = l.fuel

abbrev pub decreases-first_field : goal.decreases-first_field
decreases-first_field l = l.fuel

abbrev pub decreases-first_chained : goal.decreases-first_chained
decreases-first_chained l = l.fuel

abbrev pub decreases-first_chained_far : goal.decreases-first_chained_far
decreases-first_chained_far l = l.fuel
