use Rattle.text_syntax.proofs.Budgets.{stop_within}
use Rattle.text_syntax.proofs.cursor.Cursor.within.Goals as goal

pub returns-in-Err : goal.returns-in-Err
returns-in-Err g c = λ answer was.
    stop_within _ _ _ _ answer _ _ (rw c.in-Err.is at was) c.stopped_within.ensures.within c.stopped_within.ensures.spent
