-- Clauses as the numbers of the DIMACS CNF format.
use Rattle.std.specs.Prelude.{◌+◌, List, [], ◌∷◌, ◌++◌, map, ℤ, pos, negsuc, if◌then◌else◌}
use Rattle.solve_solver.specs.declared.literal.PLit.{PLit}

-- a variable counted from 1, negative where it is to be false
abbrev pub number_of : PLit → ℤ
number_of l = if l.plus then pos (l.var + 1) else negsuc l.var

-- the literals of each clause, and 0 after each clause
abbrev pub spelled : List (List PLit) → List ℤ
spelled [] = []
spelled (clause ∷ clauses) = map number_of clause ++ pos 0 ∷ spelled clauses

-- those of ended clauses, and then the literals of one that is not ended
abbrev pub spelled_with : List (List PLit) → List PLit → List ℤ
spelled_with clauses open_clause = spelled clauses ++ map number_of open_clause
