use Rattle.std.proofs.Common.{◌≡◌, ◌++◌, map, take}
use Rattle.decide_search.specs.Problem.{plit_of}
use Rattle.decide_search.proofs.problem.push_clauses.Given as goal

abbrev pub invariant-loop-clause : goal.invariant-loop-clause
invariant-loop-clause l = l.all.list ≡ l.initial.all.list ++ map (map plit_of) (map (λ c. c.items) (take l.clause-index l.clauses))
