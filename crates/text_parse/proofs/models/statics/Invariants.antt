use Rattle.text_parse.specs.Items.{statics_from}
use Rattle.text_parse.proofs.Turns.{Joined}
use Rattle.text_parse.proofs.models.statics.Given as goal

abbrev pub invariant-loop-statics : goal.invariant-loop-statics
invariant-loop-statics l = Joined (statics_from 64 l.fn.cursor) l.statics (statics_from l.left l.cursor)

abbrev pub decreases-loop-statics : goal.decreases-loop-statics
decreases-loop-statics l = l.left
