use Rattle.text_parse.specs.Items.{models_from}
use Rattle.text_parse.proofs.Turns.{Joined}
use Rattle.text_parse.proofs.models.models.Given as goal

abbrev pub invariant-loop-models : goal.invariant-loop-models
invariant-loop-models l = Joined (models_from 64 l.fn.cursor) l.models (models_from l.left l.cursor)

abbrev pub decreases-loop-models : goal.decreases-loop-models
decreases-loop-models l = l.left
