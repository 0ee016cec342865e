use Rattle.form_tables.proofs.Assignments.{assigned, from_assigned}
use Rattle.form_tables.proofs.laws.assignments_are_complete.Goals as goal

pub returns : goal.returns
returns c = λ g f terms v over normal words. (assigned g f terms v over normal words, from_assigned g f terms v over normal words)
