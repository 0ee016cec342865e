use Rattle.std.proofs.Common.{◌≡◌, map, take}
use Rattle.solve_solver.proofs.clauses.Clauses.from_lists.Given as goal

abbrev pub invariant-loop-list : goal.invariant-loop-list
invariant-loop-list l = l.clauses.list ≡ map (λ list. list.items) (take l.list-index l.lists)
