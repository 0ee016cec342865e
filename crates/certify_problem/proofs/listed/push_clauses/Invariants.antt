use Rattle.std.proofs.Common.{◌≡◌, ◌++◌, map, take}
use Rattle.certify_problem.specs.Problems.{literal_of}
use Rattle.certify_problem.proofs.listed.push_clauses.Given as goal

abbrev pub invariant-loop-clause : goal.invariant-loop-clause
invariant-loop-clause l = map (λ c. c.items) l.all.items ≡ map (λ c. c.items) l.initial.all.items ++ map (map literal_of) (map (λ c. c.items) (take l.clause-index l.clauses))
