use Rattle.text_parse.specs.Items.{fields_from}
use Rattle.text_parse.proofs.Turns.{Joined}
use Rattle.text_parse.proofs.models.fields_within.Given as goal

abbrev pub invariant-loop-fields : goal.invariant-loop-fields
invariant-loop-fields l = Joined (fields_from l.fn.most l.fn.cursor) l.fields (fields_from l.left l.cursor)

abbrev pub decreases-loop-fields : goal.decreases-loop-fields
decreases-loop-fields l = l.left
