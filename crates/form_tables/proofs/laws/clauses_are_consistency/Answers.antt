use Rattle.form_tables.proofs.Assignments.{consistent_from, met_from}
use Rattle.form_tables.proofs.laws.clauses_are_consistency.Goals as goal

pub returns : goal.returns
returns c = λ g f terms v a words typed. (consistent_from g f terms v a words typed, met_from g f terms v a words typed)
