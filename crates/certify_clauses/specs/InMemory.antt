-- What clauses in memory are.
use Rattle.certify_clauses.specs.Listed.{problem_of}
use Rattle.certify_clauses.specs.Problem.{Problem}
use Rattle.certify_clauses.specs.declared.listed.ListedClauses.{ListedClauses}

-- what clauses in memory are
abbrev pub problem_in : ListedClauses → Problem
problem_in c = problem_of c.clauses.items c.atoms.items c.terms c.fixed.items c.numbers
