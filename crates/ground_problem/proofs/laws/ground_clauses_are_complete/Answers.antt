use Rattle.ground_problem.proofs.Grounded.{grounded, from_grounded}
use Rattle.ground_problem.proofs.laws.ground_clauses_are_complete.Goals as goal

pub returns-clause-found : goal.returns-clause-found
returns-clause-found c = λ g f terms v cs texts nodes made facts end clauses over normal words are instances listed some s.
    grounded g f terms v cs texts nodes made facts end clauses over normal words are instances listed some s

pub returns-clause-enough : goal.returns-clause-enough
returns-clause-enough c = λ g f terms v cs texts nodes made facts end clauses spare m values over normal words are instances listed all law have meet alike.
    from_grounded g f terms v cs texts nodes made facts end clauses over normal words are instances listed all spare m values law have meet alike
