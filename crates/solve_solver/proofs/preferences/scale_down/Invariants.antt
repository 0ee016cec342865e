-- Where the scores that are left are divided too, each is.
use Rattle.std.proofs.Common.{◌≡◌, ◌++◌, take, drop}
use Rattle.solve_solver.specs.Preferences.{scaled_down}
use Rattle.solve_solver.proofs.preferences.scale_down.Given as goal

abbrev pub invariant-loop-score : goal.invariant-loop-score
invariant-loop-score l =
    take l.score-index l.scores ++ scaled_down (drop l.score-index l.scores) ≡ scaled_down l.initial.scores
