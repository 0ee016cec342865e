-- Why numbers spell no clauses.
use Rattle.std.specs.Prelude.{◌≡◌, ◌≢◌, ℕ, ◌<◌, List, length, ℤ, pos}
use Rattle.std.specs.List.{Any}
use Rattle.solve_solver.specs.declared.literal.PLit.{PLit}
use Rattle.solve_bench.specs.declared.refusal.Refusal.{Refusal}
use Rattle.solve_bench.specs.declared.refusal.Refusal.TheVariants.{NoHeader, TooManyVariables, TooManyNumbers, NoNumber, UnknownVariable, NoEnd, OtherCount, OutOfMemory}
use Rattle.solve_bench.specs.Spelling.{number_of, spelled_with}

-- a number that is neither 0 nor that of a literal over the variables
pub record IsUnknown (vars : ℕ) (n : ℤ) : Type 0 where
  pub no_end : n ≢ pos 0
  pub no_literal : (l : PLit) → l.var < vars → number_of l ≢ n

-- the last clause is not ended
pub record HasNoEnd (numbers : List ℤ) : Type 0 where
  pub clauses : List (List PLit)
  pub open_clause : List PLit
  pub some : 0 < length open_clause
  pub spells : numbers ≡ spelled_with clauses open_clause

-- why one number is refused
abbrev pub IsCauseAt : ℕ → ℤ → Refusal → Type 0
IsCauseAt vars n NoHeader = ⊥
IsCauseAt vars n TooManyVariables = ⊥
IsCauseAt vars n TooManyNumbers = ⊥
IsCauseAt vars n NoNumber = ⊥
IsCauseAt vars n UnknownVariable = IsUnknown vars n
IsCauseAt vars n NoEnd = ⊥
IsCauseAt vars n OtherCount = ⊥
IsCauseAt vars n OutOfMemory = Unit {0}

-- why numbers are refused
abbrev pub IsCause : ℕ → List ℤ → Refusal → Type 0
IsCause vars numbers NoHeader = ⊥
IsCause vars numbers TooManyVariables = ⊥
IsCause vars numbers TooManyNumbers = ⊥
IsCause vars numbers NoNumber = ⊥
IsCause vars numbers UnknownVariable = Any (IsUnknown vars) numbers
IsCause vars numbers NoEnd = HasNoEnd numbers
IsCause vars numbers OtherCount = ⊥
IsCause vars numbers OutOfMemory = Unit {0}
