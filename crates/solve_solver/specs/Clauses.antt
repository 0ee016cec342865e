-- Clauses as parts of one flat list of literals.
use Rattle.std.specs.Prelude.{ℕ, ◌+◌, ◌<◌, ◌≤◌, List, map, All, length, slice_range}
use Rattle.solve_solver.specs.declared.literal.PLit.{PLit}
use Rattle.solve_solver.specs.declared.clauses.Span.{Span}

-- the literals of each part
abbrev pub parts : List PLit → List Span → List (List PLit)
parts literals spans = map (λ (s : Span). slice_range literals s.start s.end) spans

-- each part is inside the list
abbrev pub IsInside : List PLit → List Span → Type 0
IsInside literals spans = All (λ (s : Span). (s.start ≤ s.end) × (s.end ≤ length literals)) spans

-- the variables of a clause are below a number
abbrev pub IsWithin : ℕ → List PLit → Type 0
IsWithin vars clause = All (λ (l : PLit). l.var < vars) clause

-- what a contract sees of `Clauses`: the clauses, how many literals are held, and for how many literals and clauses in all there is memory
pub record ClausesView : Type 0 where
  pub list : List (List PLit)
  pub held : ℕ
  pub literal_room : ℕ
  pub clause_room : ℕ

-- there is memory for one clause more of so many literals
pub record HasRoom (clauses : ClausesView) (literals : ℕ) : Type 0 where
  pub for_literals : clauses.held + literals ≤ clauses.literal_room
  pub for_clause : length clauses.list < clauses.clause_room
