use Rattle.ground_problem.proofs.Below.{ground_below}
use Rattle.ground_problem.proofs.laws.ground_clauses_are_below.Goals as goal

pub returns : goal.returns
returns c = λ cs nodes made facts end clauses clause l listed c here. ground_below cs nodes made facts end clauses listed clause l c here
