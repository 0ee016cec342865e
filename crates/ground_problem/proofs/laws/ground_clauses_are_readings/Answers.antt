use Rattle.ground_problem.proofs.Grounded.{met_read, met_tables, read_met}
use Rattle.ground_problem.proofs.laws.ground_clauses_are_readings.Goals as goal

pub returns-clause-sound : goal.returns-clause-sound
returns-clause-sound c = λ g f terms cs nodes made facts end clauses a values over instances listed have meet. (
  met_tables g f terms cs nodes made facts end clauses over instances listed a values have meet,
  met_read g f terms cs nodes made facts end clauses over instances listed a values have meet,
)

pub returns-clause-complete : goal.returns-clause-complete
returns-clause-complete c = λ g f terms cs nodes made facts end clauses a over instances listed met read.
    read_met g f terms cs nodes made facts end clauses over instances listed a met read
