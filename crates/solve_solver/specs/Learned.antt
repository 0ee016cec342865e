-- What is kept of the clauses that were learned.
use Rattle.std.specs.Prelude.{◌≡◌, ◌⊎◌, ℕ, ◌<◌, ◌≤◌, List, Option}
use Rattle.std.specs.List.{Contains, slice_get}
use Rattle.solve_solver.specs.declared.literal.PLit.{PLit}
use Rattle.solve_solver.specs.Clauses.{ClausesView}

-- the clauses and the room for them, and how many literals a clause has at most
pub record LearnedView : Type 0 where
  pub clauses : ClausesView
  pub width : ℕ

-- the clauses in the order in which they were learned
abbrev pub learned_list : LearnedView → List (List PLit)
learned_list l = l.clauses.list

-- one of these clauses, or this one
abbrev pub IsAmong : List (List PLit) → List PLit → List PLit → Type 0
IsAmong clauses clause x = Contains clauses x ⊎ (x ≡ clause)

-- the clause of a slot, where there is one
abbrev pub clause_of : LearnedView → ℕ → Option (List PLit)
clause_of l slot = slice_get l.clauses.list slot

-- a clause of this width fits where there is no other
pub record IsWide (width : ℕ) (clauses : ClausesView) : Type 0 where
  pub for_literals : width ≤ clauses.literal_room
  pub for_clause : 0 < clauses.clause_room
